-- What a call leaves, in the midst of an event.
use Rattle.std.proofs.Common.{ℕ, ◌≡◌, true, false, not, List, [], ◌∷◌, ◌++◌, Some, refl, subst}
use Rattle.std.proofs.lemmas.Bool.{and_parts, not-true}
use Rattle.law_frame.specs.pg_run.pg_base.declared.id.FileId.{FileId}
use Rattle.law_frame.specs.pg_run.pg_base.declared.id.Kind.{Kind}
use Rattle.law_frame.specs.pg_run.pg_base.declared.policy.Policy.TheVariants.{Last}
use Rattle.law_frame.specs.pg_run.pg_call.declared.call.Call.{Call}
use Rattle.law_frame.specs.pg_run.pg_intent.declared.key.IntentKey.TheVariants as intent_key
use Rattle.law_frame.specs.pg_run.pg_intent.Intents.{HaveOwnKeys}
use Rattle.law_frame.specs.pg_run.pg_msg.declared.message.Message.TheVariants as message
use Rattle.law_frame.specs.pg_run.pg_msg.declared.update.Update.TheVariants as update
use Rattle.law_frame.specs.pg_run.pg_msg.declared.work.Work.{Work}
use Rattle.law_frame.specs.pg_run.pg_msg.Work.{with_made}
use Rattle.law_frame.specs.pg_run.pg_names.Names.{blank_own}
use Rattle.law_frame.specs.pg_run.pg_patch.Ranges.{RangesValue}
use Rattle.law_frame.specs.pg_run.pg_register.declared.flag.Flag.{Flag}
use Rattle.law_frame.specs.pg_run.pg_register.Flag.{is_live, is_removed}
use Rattle.law_frame.specs.pg_run.pg_store.declared.store.Store.{Store}
use Rattle.law_frame.specs.pg_run.pg_store.Births.{draw_birth, with_birth, with_wish}
use Rattle.law_frame.specs.pg_run.pg_store.Links.{is_clean}
use Rattle.law_frame.specs.pg_run.pg_store.Seen.{removed_of}
use Rattle.law_frame.specs.pg_run.pg_store.Store.{is_held}
use Rattle.law_frame.specs.pg_run.pg_pieces.Done.{Done, idle}
use Rattle.law_frame.specs.pg_run.pg_pieces.Golds.{flags_of}
use Rattle.law_frame.specs.pg_run.pg_checks.Asking.{fresh_wish, holder}
use Rattle.law_frame.specs.pg_run.pg_calls.Calls.{do_call}
use Rattle.law_frame.specs.pg_run.pg_calls.Demoting.{is_clean_gold}
use Rattle.law_frame.specs.pg_run.pg_calls.Dropping.{clean_gold, leave_of}
use Rattle.law_frame.specs.pg_run.pg_calls.Forgetting.{bare_entry, dead_at, unfilled, unwished}
use Rattle.law_frame.specs.pg_run.pg_calls.GivingUp.{enter_view}
use Rattle.law_frame.specs.pg_run.pg_calls.Making.{drawn, make_version, version_of, with_version}
use Rattle.law_frame.specs.pg_run.pg_calls.Naming.{next_id, with_id}
use Rattle.law_frame.specs.pg_run.pg_server.Local.{done_of}
use Rattle.law_frame.proofs.pg_run.pg_graph.LeaveOk.{found_passes}
use Rattle.law_frame.specs.pg_run.theory_flood_pieces.Whole.{IsWhole}
use Rattle.law_frame.proofs.Called.{call_keeps}
use Rattle.law_frame.proofs.KeepsCalls.{KeepsCalls}
use Rattle.law_intents.proofs.Begun.{far_begin}
use Rattle.law_intents.proofs.Entered.{far_entered}
use Rattle.law_intents.proofs.Far.{Far, IsFarThen, IsLive, beside_itself, far_ended, far_entry, far_flagged, far_made, far_on, far_then, far_with, far_work}
use Rattle.law_intents.proofs.Goes.{goes_raised, goes_same}
use Rattle.law_intents.proofs.Heard.{far_filled, far_sent}
use Rattle.law_intents.proofs.Leaving.{clean_other, far_begins}

module _ (n s : ℕ) (r : List ℕ) where
  abbrev Fine : Done → Type 0
  Fine d = Far n s r d

  far_version : (d : Done) (f : FileId) (ranges : RangesValue) → Fine d → Fine (make_version f (drawn d.store d.work.now) ranges d)
  far_version d f ranges k =
      let stamp = drawn d.store d.work.now in
      let after = make_version f stamp ranges d in
      let here = far_on n s r d after.store d.work k refl refl refl
      (goes_raised d.store.names d.work.left d.store.names d.work.left _ (goes_same d.store.names d.work.left d.store.names d.work.left refl refl)) in
      far_work n s r (idle after.store d.work) (with_version d.work (version_of d.store f stamp ranges)) here (record { left = refl; from = refl })

  module _ (a : Store) (fresh : (kind : Kind) → is_held a (next_id a kind) ≡ false) (whole : IsWhole n s a) (keys : HaveOwnKeys a.intents) (work : Work) (nobody : work.from ≡ 0)
      (first : Fine (idle a work)) where
    -- births, wishes and numbers do not count
    beside : (b : Store) → b.servers ≡ a.servers → b.names ≡ a.names → b.intents ≡ a.intents → Fine (idle b work)
    beside b servers names intents = far_with n s r (idle a work) b work first (record { servers = servers; names = names; intents = intents }) (beside_itself work)

    -- who is asked for leave is another server
    far_leaving : (f : FileId) (flag : Flag) → clean_gold a f ≡ Some flag → IsLive n s r flag.server
    far_leaving f flag at =
        let parts = and_parts (is_live (removed_of a) flag) (is_clean a f flag.server flag.birth) (found_passes (is_clean_gold a f) flag (flags_of a f) at) in
        let live = and_parts flag.raised (not (is_removed (removed_of a) flag.server)) parts.0 in
        record {
          other = clean_other n s a f flag.server flag.birth whole parts.1;
          stays = subst (λ (l : List ℕ). is_removed l flag.server ≡ false) first.removed (not-true (is_removed (removed_of a) flag.server) live.1);
        }

    abbrev Then : Done → Type 0
    Then d = IsFarThen n s d

    keeps_far : (c : Call) → KeepsCalls a work c Fine Then
    keeps_far c = record {
      wishes = λ found some k.
          far_then n s r _
          (far_sent n s r (idle (with_wish (with_birth a) found.file (fresh_wish a (holder a found))) work) (holder a found)
          (message.Fetch found.file (draw_birth a)) (beside _ refl refl refl));
      asks = λ file wish is some k. far_then n s r _ (far_sent n s r (idle a work) wish.target (message.Fetch file wish.birth) k);
      makes_new = λ kind policy path new is k. (
          let b = with_birth (with_id a) in
          far_begin n s r (idle b work) (beside b refl refl refl) (next_id a kind) (draw_birth (with_id a)) policy (blank_own (next_id a kind)) true
          (fresh kind));
      makes_place = λ d file place is k. far_made n s r d file place k;
      makes_flag = λ d file raised is k. far_flagged n s r d file raised k;
      makes_version = λ d file ranges is k. far_version d file ranges k;
      begins_leave = λ file flag is k. far_begins n s r (idle a work) (leave_of file flag) (λ some. far_leaving file flag is.0) (λ dir child. refl) k;
      fills = λ d id is k. far_filled n s r d id k;
      strikes = λ id dir is k. (
          let v = with_made work (update.Place id (dead_at a work.now id dir)) in
          far_work n s r (idle (unwished a id) work) v (beside (unwished a id) refl refl refl) (record { left = refl; from = refl }));
      marks = λ d id dir to is k. far_entry n s r d to (bare_entry id (dead_at a work.now id dir)) k;
      begins_lost = λ id own is away k. (
          let b = with_birth a in
          far_begin n s r (idle (unfilled b id) work) (far_ended n s r (idle b work) (intent_key.Fill id) (beside b refl refl refl)) id (draw_birth a) Last own true
          away);
      enters = λ view server is found k.
          far_then n s (r ++ server ∷ []) (enter_view a server work) (far_entered n s r (idle a work) server whole keys nobody k);
      leaves = λ d k. far_then n s r d k;
    }

    -- A CALL
    pub far_called : (x : Call) → Then (done_of (do_call a x work))
    far_called x = call_keeps a work Fine Then x (keeps_far x) first
