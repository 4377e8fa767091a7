-- What comes of each call but one: wishes that ask live servers, and messages in the server's view.
use Rattle.std.proofs.Common.{ℕ, ◌≡◌, false, true, List, refl, ap, sym, ◌∙◌}
use Rattle.std.proofs.lemmas.Bool.{false≢true}
use Rattle.law_frame.specs.pg_run.pg_call.declared.reply.Reply.TheVariants as reply
use Rattle.law_frame.specs.pg_run.pg_call.declared.refusal.Refusal.TheVariants.{NotYet}
use Rattle.law_frame.specs.pg_run.pg_base.declared.id.FileId.{FileId}
use Rattle.law_frame.specs.pg_run.pg_base.declared.policy.Policy.TheVariants.{Last}
use Rattle.law_frame.specs.pg_run.pg_call.declared.call.Call.{Call}
use Rattle.law_frame.specs.pg_run.pg_call.declared.call.Call.TheVariants as call
use Rattle.law_frame.specs.pg_run.pg_intent.declared.key.IntentKey.TheVariants as intent_key
use Rattle.law_frame.specs.pg_run.pg_intent.Intents.{ended}
use Rattle.law_frame.specs.pg_run.pg_lookup.declared.paths.LookupError.{LookupError}
use Rattle.law_frame.specs.pg_run.pg_msg.declared.message.Message.TheVariants as message
use Rattle.law_frame.specs.pg_run.pg_msg.declared.update.Update.TheVariants as update
use Rattle.law_frame.specs.pg_run.pg_msg.declared.work.Work.{Work}
use Rattle.law_frame.specs.pg_run.pg_msg.Work.{with_made}
use Rattle.law_frame.specs.pg_run.pg_names.Names.{blank_own}
use Rattle.law_frame.specs.pg_run.pg_patch.Ranges.{RangesValue}
use Rattle.law_frame.specs.pg_run.pg_store.declared.store.Store.{Store}
use Rattle.law_frame.specs.pg_run.pg_store.Births.{draw_birth, with_birth, with_wish}
use Rattle.law_frame.specs.pg_run.pg_store.Store.{write, is_full}
use Rattle.law_frame.specs.pg_run.pg_store.Wishes.{without_wish}
use Rattle.law_frame.specs.pg_run.pg_pieces.Done.{Done, idle}
use Rattle.law_frame.specs.pg_run.pg_pieces.Making.{own_next}
use Rattle.law_frame.specs.pg_run.pg_pieces.Posting.{post}
use Rattle.law_frame.specs.pg_run.pg_checks.Answer.{deny}
use Rattle.law_frame.specs.pg_run.pg_checks.Asking.{fresh_wish, holder}
use Rattle.law_frame.specs.pg_run.pg_calls.Calls.{do_call}
use Rattle.law_frame.specs.pg_run.pg_calls.Dropping.{leave_of}
use Rattle.law_frame.specs.pg_run.pg_calls.Forgetting.{bare_entry, begun_with, dead_at, unfilled, unwished}
use Rattle.law_frame.specs.pg_run.pg_calls.Making.{drawn, make_version, version_of, with_version}
use Rattle.law_frame.specs.pg_run.pg_calls.Naming.{begun, next_id, with_id}
use Rattle.law_frame.proofs.pg_run.TailsOfCalls.{is_giveup}
use Rattle.law_frame.proofs.Called.{call_keeps}
use Rattle.law_frame.proofs.Called as calls
use Rattle.law_frame.proofs.KeepsCalls.{KeepsCalls}
use Rattle.law_views.proofs.Fine.{IsFine, begun_fine, entry_fine, flag_made, place_made, posted, stored, worked}
use Rattle.law_views.proofs.Handled.{filled_fine}
use Rattle.law_views.proofs.Seen.{less_wish, seen_begin, seen_birth, seen_by, seen_fewer, seen_intents, seen_wish, seen_write}
use Rattle.law_views.proofs.Targets.{holder_asked}
use Rattle.law_views.specs.Premises.{FlagsAreOf}

module _ (n s : ℕ) (R : List ℕ) where
  abbrev Fine : Done → Type 0
  Fine d = IsFine n s R d

  version_made : (d : Done) (file : FileId) (ranges : RangesValue) → Fine d
      → Fine (make_version file (drawn d.store d.work.now) ranges d)
  version_made d file ranges k =
      let stamp = drawn d.store d.work.now in
      worked n s R d (write d.store file stamp ranges) (with_version d.work (version_of d.store file stamp ranges)) refl
      (seen_write n s R d.store file stamp ranges k.seen) k

  module _ (a : Store) (w : Work) (first : Fine (idle a w)) (flags : FlagsAreOf n a.names) where
    asks_fine : (b : Store) (to : ℕ) (file : FileId) (birth : ℕ) → Fine (idle b w)
        → Fine (idle b (post a to (message.Fetch file birth) w))
    asks_fine b to file birth k =
        record { seen = k.seen; sent = (posted n s R (idle a w) to (message.Fetch file birth) tt first).sent }

    keeps_fine : (c : Call) → is_giveup c ≡ false → KeepsCalls a w c Fine Fine
    keeps_fine c other = record {
      wishes = λ found some k.
          asks_fine (with_wish (with_birth a) found.file (fresh_wish a (holder a found))) (holder a found) found.file (draw_birth a)
          (stored n s R (idle a w) (with_wish (with_birth a) found.file (fresh_wish a (holder a found)))
          (seen_wish n s R (with_birth a) found.file (fresh_wish a (holder a found)) (holder_asked n s R a k.seen flags found)
          (seen_birth n s R a k.seen)) k);
      asks = λ file wish is some k. asks_fine a wish.target file wish.birth k;
      makes_new = λ kind policy path new is k. (
          let id = next_id a kind in
          let b = with_id a in
          let one = seen_by n s R a b refl refl refl refl k.seen.edges k.seen in
          stored n s R (idle a w) (begun b id policy)
          (seen_begin n s R (with_birth b) id (draw_birth b) policy (blank_own id) true (seen_birth n s R b one)) k);
      makes_place = λ d file place is k. place_made n s R file place d k;
      makes_flag = λ d file raised is k. flag_made n s R file (own_next d.store file raised) d k;
      makes_version = λ d file ranges is k. version_made d file ranges k;
      begins_leave = λ file flag is k. begun_fine n s R (idle a w) (leave_of file flag) k;
      fills = λ d id is k. filled_fine n s R d id k;
      strikes = λ id dir is k.
          worked n s R (idle a w) (unwished a id) (with_made w (update.Place id (dead_at a w.now id dir))) refl
          (seen_fewer n s R a (without_wish a.wishes id) (λ q x there. less_wish n s R a id q x there) k.seen) k;
      marks = λ d id dir to is k. entry_fine n s R d to (bare_entry id (dead_at a w.now id dir)) k;
      begins_lost = λ id own is away k. (
          let b = with_birth a in
          stored n s R (idle a w) (begun_with a id own)
          (seen_begin n s R (unfilled b id) id (draw_birth a) Last own true
          (seen_intents n s R b (ended b.intents (intent_key.Fill id)) (seen_birth n s R a k.seen))) k);
      enters = λ view server is found k. absurd (false≢true (sym other ∙ ap is_giveup is));
      leaves = λ d k. k;
    }

    -- one that does not go on
    pub denied : (why : LookupError) → ((file : FileId) → (deny a why w).reply ≡ reply.Refused (NotYet file) → is_full a file ≡ false)
        → Fine (idle (deny a why w).store (deny a why w).work)
    denied why missing = calls.denied a w Fine Fine call.Status (keeps_fine call.Status refl) first why missing

    -- ANY CALL but one
    pub call_fine : (c : Call) → is_giveup c ≡ false → Fine (idle (do_call a c w).store (do_call a c w).work)
    call_fine c other = call_keeps a w Fine Fine c (keeps_fine c other) first
