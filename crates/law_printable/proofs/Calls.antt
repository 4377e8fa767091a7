-- What a client is told of a call, what the call makes and what the server holds then, suits.
use Rattle.std.proofs.Common.{ℕ, ◌≡◌, ◌≤◌, true, List, Option, None, Some, Result, Ok, Err, length, take, refl, sym, ap, subst, inl, inr, arith}
use Rattle.std.proofs.lemmas.List.Elements.{All-push}
use Rattle.law_frame.specs.pg_run.pg_base.declared.id.FileId.{FileId}
use Rattle.law_frame.specs.pg_run.pg_base.declared.id.Kind.TheVariants.{Dir, File}
use Rattle.law_frame.specs.pg_run.pg_base.declared.policy.Policy.TheVariants.{Last}
use Rattle.law_frame.specs.pg_run.pg_base.declared.stamp.Stamp.{Stamp}
use Rattle.law_frame.specs.pg_run.pg_call.declared.call.Call.{Call}
use Rattle.law_frame.specs.pg_run.pg_call.declared.call.Call.TheVariants as call
use Rattle.law_frame.specs.pg_run.pg_announced.Announced.{first_of}
use Rattle.law_frame.specs.pg_run.pg_call.Call.{IsCall}
use Rattle.law_frame.specs.pg_run.pg_intent.declared.key.IntentKey.TheVariants as intent_key
use Rattle.law_frame.specs.pg_run.pg_intent.Intents.{ended}
use Rattle.law_frame.specs.pg_run.pg_msg.declared.message.Message.TheVariants as message
use Rattle.law_frame.specs.pg_run.pg_msg.declared.update.Update.{Update}
use Rattle.law_frame.specs.pg_run.pg_msg.declared.update.Update.TheVariants as update
use Rattle.law_frame.specs.pg_run.pg_msg.declared.work.Work.{Work}
use Rattle.law_frame.specs.pg_run.pg_msg.Work.{with_made}
use Rattle.law_frame.specs.pg_run.pg_names.declared.attributes.Attributes.{Attributes}
use Rattle.law_frame.specs.pg_run.pg_names.Names.{blank_own, own_or_blank}
use Rattle.law_frame.specs.pg_run.pg_patch.Ranges.{RangesValue}
use Rattle.law_frame.specs.pg_run.pg_register.declared.flag.Flag.{Flag}
use Rattle.law_frame.specs.pg_run.pg_register.declared.place.Place.{Place}
use Rattle.law_frame.specs.pg_run.pg_store.declared.store.Store.{Store}
use Rattle.law_frame.specs.pg_run.pg_store.Births.{draw_birth, with_birth}
use Rattle.law_frame.specs.pg_run.pg_lookup.declared.paths.LookupError.{LookupError}
use Rattle.law_frame.specs.pg_run.pg_lookup.declared.paths.LookupError.TheVariants as stop
use Rattle.law_frame.specs.pg_run.pg_pieces.Done.{Done, idle}
use Rattle.law_frame.specs.pg_run.pg_pieces.Making.{own_next}
use Rattle.law_frame.specs.pg_run.pg_checks.declared.checks.NewName.{NewName}
use Rattle.law_frame.specs.pg_run.pg_checks.Answer.{Answer, answered}
use Rattle.law_frame.specs.pg_run.pg_checks.Asking.{holder}
use Rattle.law_frame.specs.pg_run.pg_calls.Bodies.{when_fit}
use Rattle.law_frame.specs.pg_run.pg_calls.Calls.{do_call}
use Rattle.law_frame.specs.pg_run.pg_checks.Checks.{dir_at, empty_dir_at, file_at, in_time, move_of, new_name, target_at}
use Rattle.law_frame.specs.pg_run.pg_calls.Demoting.{demoted_at}
use Rattle.law_frame.specs.pg_run.pg_calls.Dropping.{clean_gold, dropped_at, leave_of, leaving}
use Rattle.law_frame.specs.pg_run.pg_calls.Forgetting.{bare_entry, dead_at, last_place, lost_at, unfilled}
use Rattle.law_frame.specs.pg_run.pg_calls.GivingUp.{removal_at}
use Rattle.law_frame.specs.pg_run.pg_calls.Looks.{freshness}
use Rattle.law_frame.specs.pg_run.pg_calls.Making.{drawn, make_version, version_of}
use Rattle.law_frame.specs.pg_run.pg_calls.Naming.{dead_place, next_id, place_in, with_id}
use Rattle.law_frame.proofs.pg_run.pg_calls.Checked.{fit_found}
use Rattle.pg_trace.specs.Suited.{IsCallAnswer, SuitsUpdate}
use Rattle.pg_trace.proofs.Lines.{few_taken}
use Rattle.law_frame.proofs.Called.{call_keeps}
use Rattle.law_frame.proofs.KeepsCalls.{KeepsCalls, MakesPlace, MakesVersion}
use Rattle.law_printable.proofs.Behind.{intent_suits}
use Rattle.law_printable.proofs.Entered.{given_up}
use Rattle.law_printable.proofs.Found.{IsNewIn, file_found, moved_name, named}
use Rattle.law_printable.proofs.Handlers.{full_suits, raised_suits}
use Rattle.law_printable.proofs.House.{WorkSuits}
use Rattle.law_printable.proofs.Intents.{ended_suit}
use Rattle.law_printable.proofs.Lost.{anew_suits, struck_suits}
use Rattle.law_printable.proofs.Making.{made_place}
use Rattle.law_printable.proofs.Messages.{Suits}
use Rattle.law_printable.proofs.Places.{IsOwnPlace, blank_suits, own_place, suits_place}
use Rattle.law_printable.proofs.Rows.{page_suits}
use Rattle.law_printable.proofs.Stores.{DoneSuits, StoreSuits, begun_suits, entry_noted, intended_suits, posted}

-- ---- what is told

pub record TellsWell (a : Answer) : Type 0 where
  pub told : IsCallAnswer a.reply

few_bytes : (count : ℕ) → count ≤ 32768 → (bytes : List ℕ) → length (take count bytes) ≤ 32768
few_bytes count few bytes = let h = few_taken count bytes in omega (arith, few, h)

-- that a version was announced is told by its stamp
fresh_told : (o : Option Stamp) → IsCallAnswer (freshness o)
fresh_told None = tt
fresh_told (Some stamp) = tt

module _ (s : Store) (work : Work) (first : DoneSuits (idle s work)) where
  tells : {A : Type 0} (r : Result A LookupError) (next : A → Answer) → ((x : A) → r ≡ Ok x → TellsWell (next x)) → TellsWell (answered s work r next)
  tells (Err (stop.Refused why)) next each = record { told = tt }
  tells (Err (stop.NotYet found)) next each = record { told = tt }
  tells (Ok x) next each = each x refl

  leaving_told : (f : FileId) (o : Option Flag) → TellsWell (leaving s f work o)
  leaving_told f None = record { told = tt }
  leaving_told f (Some flag) = record { told = tt }

  told_of : (c : Call) → IsCall c → TellsWell (do_call s c work)
  told_of (call.Mkdir path) k = tells (new_name s (next_id s Dir) path) _ (λ new e. record { told = tt })
  told_of (call.Create path policy) k = tells (new_name s (next_id s File) path) _ (λ new e. record { told = tt })
  told_of (call.Write path offset bytes) k = tells (file_at s path) _ (λ f e. tells (when_fit s _ f) _ (λ fit e. record { told = tt }))
  told_of (call.Cut path length) k = tells (file_at s path) _ (λ f e. tells (when_fit s _ f) _ (λ fit e. record { told = tt }))
  told_of (call.Read path offset count) k = tells (file_at s path) _ (λ f e. record { told = few_bytes count k.2 _ })
  told_of (call.Fresh path) k = tells (file_at s path) _ (λ f e. record { told = fresh_told (first_of s.announced f) })
  told_of (call.Ls path from) k = tells (dir_at s path) _ (λ dir e. record { told = page_suits s.names dir from first.store.names })
  told_of (call.Stat target) k =
      tells (target_at s target) _ (λ f e. record { told = suits_place f (own_or_blank s.names f).place (blank_suits s.names first.store.names f) })
  told_of (call.Rename from to) k = tells (move_of s from to) _ (λ move e. record { told = tt })
  told_of (call.Unlink path) k = tells (file_at s path) _ (λ f e. record { told = tt })
  told_of (call.Rmdir path) k = tells (empty_dir_at s path) _ (λ f e. record { told = tt })
  told_of (call.Forget id) k = tells (lost_at s id) _ (λ f e. record { told = tt })
  told_of (call.Demote target) k = tells (demoted_at s target) _ (λ f e. record { told = tt })
  told_of (call.Drop target) k = tells (dropped_at s target) _ (λ f e. leaving_told f (clean_gold s f))
  told_of (call.Giveup view server) k = tells (removal_at s view server) _ (λ found e. record { told = tt })
  told_of call.Status k = tells (in_time s (tt {0})) _ (λ found e. record { told = tt })
  told_of call.Stop k = tells (in_time s (tt {0})) _ (λ found e. record { told = tt })

  -- ---- what is made

  -- one update more
  more_made : (w : Work) (u : Update) → SuitsUpdate u → WorkSuits Suits w → WorkSuits Suits (with_made w u)
  more_made w u k h = record { made = All-push SuitsUpdate w.made u h.made k; sent = h.sent; left = h.left; unsure = h.unsure }

  made_version : (d : Done) (f : FileId) (ranges : RangesValue) → f.kind ≡ File → DoneSuits d → DoneSuits (make_version f (drawn d.store d.work.now) ranges d)
  made_version d f ranges k h = record {
    store = record { names = h.store.names; intents = h.store.intents };
    work = (
        let made = more_made d.work (update.Version (version_of d.store f (drawn d.store d.work.now) ranges)) k h.work in
        record { made = made.made; sent = made.sent; left = made.left; unsure = made.unsure });
  }

  -- what fits is the same file
  version_kind : (c : Call) (file : FileId) (ranges : RangesValue) → MakesVersion s work c file ranges → file.kind ≡ File
  version_kind (call.Create path policy) file ranges of = ap (λ (f : FileId). f.kind) of.0
  version_kind (call.Write path offset bytes) file ranges of =
      subst (λ (g : FileId). g.kind ≡ File) (fit_found s ranges of.0 file of.2) (file_found s path of.0 of.1)
  version_kind (call.Cut path length) file ranges of =
      subst (λ (g : FileId). g.kind ≡ File) (fit_found s ranges of.0 file of.2) (file_found s path of.0 of.1)
  version_kind c file ranges of = absurd of

  new_place : (b : Store) (new : NewName) (f : FileId) (p : Place) → IsNewIn new.dir new.name → p ≡ place_in b work.now new → IsOwnPlace f p
  new_place b new f p k is =
      subst (IsOwnPlace f) (sym is) (own_place f (place_in b work.now new) (record { parent = k.parent; name = inl k.given }))

  -- whatever is taken away keeps its parent and its name
  away_place : (f : FileId) (p : Place) → p ≡ dead_place s work.now f → IsOwnPlace f p
  away_place f p is =
      let old = blank_suits s.names first.store.names f in
      subst (IsOwnPlace f) (sym is) (record { parent = old.parent; name = old.name })

  place_made : (c : Call) (b : Store) (file : FileId) (place : Place) → MakesPlace s work b c file place → IsOwnPlace file place
  place_made (call.Mkdir path) b file place of = new_place (with_id s) of.0 file place (named s (next_id s Dir) path of.0 of.1) of.3
  place_made (call.Create path policy) b file place of = new_place (with_id s) of.0 file place (named s (next_id s File) path of.0 of.1) of.3
  place_made (call.Rename from to) b file place of = new_place s of.0.to file place (moved_name s from to of.0 of.1) of.3
  place_made (call.Unlink path) b file place of = away_place file place of.1
  place_made (call.Rmdir path) b file place of = away_place file place of.1
  place_made (call.Forget id) b file place of = subst (IsOwnPlace file) (sym of.1) (record { parent = refl; name = inr (inr refl) })
  place_made c b file place of = absurd of

  -- ---- each piece

  keeps_suited : (c : Call) → KeepsCalls s work c DoneSuits DoneSuits
  keeps_suited c = record {
    wishes = λ found is h. record {
      store = record { names = h.store.names; intents = h.store.intents };
      work = posted s (holder s found) (message.Fetch found.file (draw_birth s)) work (record { about = λ g. g; told = λ g. g; carried = tt }) h.work;
    };
    asks = λ file wish is some h. record {
      store = h.store;
      work = posted s wish.target (message.Fetch file wish.birth) work (record { about = λ g. g; told = λ g. g; carried = tt }) h.work;
    };
    makes_new = λ kind policy path is new h. (
        let b = with_birth (with_id s) in
        let id = next_id s kind in
        let blank : IsOwnPlace id (blank_own id).place = record { parent = refl; name = inr (inr refl) } in
        record {
          store = begun_suits b id (draw_birth (with_id s)) policy (blank_own id) true blank (record { names = h.store.names; intents = h.store.intents });
          work = h.work;
        });
    makes_place = λ d file place of h. made_place file place d (place_made c d.store file place of) h;
    makes_flag = λ d file raised of h. raised_suits d.store file (own_next d.store file raised) d.work h;
    makes_version = λ d file ranges of h. made_version d file ranges (version_kind c file ranges of) h;
    begins_leave = λ file flag is h. intent_suits s (leave_of file flag) work tt h;
    fills = λ d id is h. full_suits d.store id d.work h;
    strikes = λ id dir is h. (
        let dead = dead_at s work.now id dir in
        let new = struck_suits s h.store.names id work.now dir is.lists in
        record {
          store = record { names = h.store.names; intents = h.store.intents };
          work = more_made work (update.Place id dead) (suits_place id dead (own_place id dead new.place)) h.work;
        });
    marks = λ d id dir to is h.
        entry_noted d.store d.work h to (bare_entry id (dead_at s work.now id dir)) (struck_suits s first.store.names id work.now dir is.0.lists);
    begins_lost = λ id own is away h. (
        let b = with_birth s in
        let q = intent_key.Fill id in
        let place = subst (λ (o : Attributes). IsOwnPlace id o.place) (sym is.is) (anew_suits s h.store.names id (last_place s.names id) refl) in
        let born : StoreSuits b = record { names = h.store.names; intents = h.store.intents } in
        let rest = intended_suits b born (ended s.intents q) (ended_suit s.intents q h.store.intents) in
        record { store = begun_suits (unfilled b id) id (draw_birth s) Last own true place rest; work = h.work });
    enters = λ view server is found h. given_up s server work h;
    leaves = λ d h. h;
  }

-- ---- any call

-- wherever K holds, the answer suits
pub record CallSuits (K : Type 0) (a : Answer) : Type 0 where
  pub told : K → IsCallAnswer a.reply
  pub done : DoneSuits (record { store = a.store; work = a.work })

pub call_suits : (s : Store) (work : Work) → DoneSuits (idle s work) → (c : Call) → CallSuits (IsCall c) (do_call s c work)
call_suits s work h c = record {
  told = λ k. (told_of s work h c k).told;
  done = call_keeps s work DoneSuits DoneSuits c (keeps_suited s work h c) h;
}
