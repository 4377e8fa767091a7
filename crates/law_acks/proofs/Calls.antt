-- Calls keep the rule of the edges, where contents are of histories and what begins is not held.
use Rattle.std.proofs.Common.{ℕ, ◌≡◌, ◌==◌, true, false, List, Option, None, Some, Result, Ok, Err, is_some, refl, sym, subst}
use Rattle.pg_run.specs.pg_base.declared.id.FileId.{FileId}
use Rattle.pg_run.specs.pg_base.declared.id.Kind.TheVariants.{Dir, File}
use Rattle.pg_run.specs.pg_base.declared.policy.Policy.{Policy}
use Rattle.pg_run.specs.pg_base.declared.policy.Policy.TheVariants.{Last}
use Rattle.pg_run.specs.pg_base.declared.stamp.Stamp.{Stamp}
use Rattle.pg_run.specs.pg_patch.Ranges.{RangesValue, cut_to, written}
use Rattle.pg_run.specs.pg_content.History.{Made}
use Rattle.pg_run.specs.pg_msg.declared.message.Message.TheVariants as message
use Rattle.pg_run.specs.pg_msg.declared.work.Work.{Work}
use Rattle.pg_run.specs.pg_msg.Work.{new_work}
use Rattle.pg_run.specs.pg_call.declared.call.Call.{Call}
use Rattle.pg_run.specs.pg_call.declared.call.Call.TheVariants as call
use Rattle.pg_run.specs.pg_register.declared.flag.Flag.{Flag}
use Rattle.pg_run.specs.pg_register.declared.place.Place.{Place}
use Rattle.pg_run.specs.pg_names.Names.{blank_own}
use Rattle.pg_run.specs.pg_replica.declared.replica.Replica.{Replica}
use Rattle.pg_run.specs.pg_store.declared.store.Store.{Store}
use Rattle.pg_run.specs.pg_store.declared.wishes.Wish.{Wish}
use Rattle.pg_run.specs.pg_store.Births.{draw_birth, with_birth, with_wish}
use Rattle.pg_run.specs.pg_store.Store.{content_of, is_held, replica_at, write}
use Rattle.pg_run.specs.pg_pieces.Done.{Done, idle}
use Rattle.pg_run.specs.pg_pieces.Golds.{is_gold}
use Rattle.pg_run.specs.pg_pieces.Making.{lower_flag, own_next}
use Rattle.pg_run.specs.pg_pieces.Posting.{post}
use Rattle.pg_run.specs.pg_lookup.declared.paths.Found.{Found}
use Rattle.pg_run.specs.pg_lookup.declared.paths.LookupError.{LookupError}
use Rattle.pg_run.specs.pg_lookup.declared.paths.LookupError.TheVariants as stop
use Rattle.pg_run.specs.pg_checks.declared.checks.NewName.{NewName}
use Rattle.pg_run.specs.pg_checks.Answer.{Answer, answered, deny, replied}
use Rattle.pg_run.specs.pg_checks.Asking.{ask_by, fetch, fresh_wish, holder, standing}
use Rattle.pg_run.specs.pg_calls.Bodies.{change, change_file, when_fit}
use Rattle.pg_run.specs.pg_calls.Calls.{do_call}
use Rattle.pg_run.specs.pg_checks.Checks.{dir_at, empty_dir_at, file_at, in_time, move_of, new_name, target_at}
use Rattle.pg_run.specs.pg_calls.Demoting.{demoted_at}
use Rattle.pg_run.specs.pg_calls.Dropping.{clean_gold, dropped_at, leave_of, leaving}
use Rattle.pg_run.specs.pg_calls.Forgetting.{lost_at}
use Rattle.pg_run.specs.pg_calls.GivingUp.{removal_at}
use Rattle.pg_run.specs.pg_calls.Making.{drawn, first_ranges, make_place, make_version}
use Rattle.pg_run.specs.pg_calls.Naming.{begun, dead_place, next_id, place_in, with_first_version, with_id, with_thing}
use Rattle.pg_run.proofs.pg_calls.Checked.{fit_found}
use Rattle.pg_run.proofs.pg_calls.New.{thing_new}
use Rattle.pg_run.proofs.pg_calls.Walked.{file_found, full_held}
use Rattle.pg_run.specs.pg_call.declared.reply.Reply.{Reply}
use Rattle.pg_run.specs.theory_flood_pieces.Seen.{Hearing}
use Rattle.pg_run.specs.theory_flood_pieces.Histories.{IsOfHistory}
use Rattle.pg_run.specs.theory_flood_pieces.Whole.{IsWhole}
use Rattle.pg_run.proofs.theory_flood_pieces.Choices.{chosen}
use Rattle.pg_run.proofs.theory_flood_pieces.LawsOf.{write_of_held}
use Rattle.pg_run.proofs.theory_flood_pieces.Together.{replica_of_held}
use Rattle.pg_run.proofs.theory_flood_pieces.Whole.{whole_write}
use Rattle.pg_run.specs.Away.{BeginsWhatIsAway}
use Rattle.law_acks.proofs.Contents.{AreOfHistory, content_held, none_of_history}
use Rattle.law_acks.proofs.Leaving.{intent_done}
use Rattle.law_acks.proofs.Handlers.{none_sorted}
use Rattle.law_acks.proofs.Losing.{enter_view_done, forget_done, made_place}
use Rattle.law_acks.proofs.Pieces.{IsDone, Stands, begun_done, beside_done, made_flag_done, nothing_done, over_done, posted, raised_done}

replica_by : (b : Store) (f : FileId) (o : Option Replica) → replica_at b f ≡ o → is_some o ≡ true
    → (x : Replica) × (replica_at b f ≡ Some x)
replica_by b f None is h = absurd (let z : false ≡ true = h in cc)
replica_by b f (Some x) is h = (x, is)

-- Server s of n has a, and is called
module _ (n s : ℕ) (a : Store) (k : IsWhole n s a) (heard : Hearing) (of : AreOfHistory a)
    (away : BeginsWhatIsAway a) (moment : ℕ) where
  abbrev W : Work
  W = new_work moment 0

  abbrev Is : Done → Type 0
  Is d = IsDone n s a heard d

  abbrev At : Store → Work → Type 0
  At b work = Stands n s a heard b work

  abbrev pub IsAnswer : Answer → Type 0
  IsAnswer x = At x.store x.work

  nothing : At a W
  nothing = nothing_done n s a heard moment 0 k

  -- ---- a call that does not go on

  fetched : (b : Store) → At b W → (file : FileId) (wish : Wish) → At b (fetch b file wish W)
  fetched b u file wish =
      let m = message.Fetch file wish.birth in
      chosen (At b) (wish.target == 0) W (post b wish.target m W) u
      (posted n s a heard b W u wish.target m (λ from. refl) tt)

  -- the wish is kept, and what is sent names it: from the store as it was
  asked_first : (file : FileId) (target : ℕ)
      → At (with_wish (with_birth a) file (fresh_wish a target)) (fetch a file (fresh_wish a target) W)
  asked_first file target =
      let wishing = with_wish (with_birth a) file (fresh_wish a target) in
      beside_done n s a heard a (fetch a file (fresh_wish a target) W) (fetched a nothing file (fresh_wish a target))
      wishing (record { servers = refl; tags = refl; names = refl; replicas = refl }) k.patches

  asked_by : (found : Found) (o : Option Wish) → Is (ask_by a found o W)
  asked_by found None =
      let target = holder a found in
      chosen Is (target == 0) (idle a W)
      (idle (with_wish (with_birth a) found.file (fresh_wish a target))
      (fetch a found.file (fresh_wish a target) W)) nothing (asked_first found.file target)
  asked_by found (Some wish) = fetched a nothing found.file wish

  denied_on : (why : LookupError) → IsAnswer (deny a why W)
  denied_on (stop.Refused why) = nothing
  denied_on (stop.NotYet found) = asked_by found (standing a found.file)

  answered_on : {A : Type 0} (r : Result A LookupError) (next : A → Answer)
      → ((x : A) → r ≡ Ok x → IsAnswer (next x)) → IsAnswer (answered a W r next)
  answered_on (Err why) next h = denied_on why
  answered_on (Ok x) next h = h x refl

  replied_on : {A : Type 0} (r : Result A LookupError) (tell : A → Reply) → IsAnswer (replied a W r tell)
  replied_on (Err why) tell = denied_on why
  replied_on (Ok x) tell = nothing

  -- ---- what is made

  made_version : (d : Done) → Is d → (f : FileId) (x : Replica) → replica_at d.store f ≡ Some x
      → (h : List Made) → IsOfHistory h (content_of d.store f) → (stamp : Stamp) (ranges : RangesValue)
      → Is (make_version f stamp ranges d)
  made_version d u f x here h of_h stamp ranges =
      over_done n s a heard d.store d.work u (write d.store f stamp ranges)
      (write_of_held d.store f (x, here) h stamp ranges of_h heard.along) (whole_write n s d.store u.way.whole f stamp ranges)

  -- ---- new things

  module _ (id : FileId) (fresh : is_held a id ≡ false) (policy : Policy) where
    abbrev Counted : Store
    Counted = with_birth (with_id a)

    counted_on : At Counted W
    counted_on =
        beside_done n s a heard a W nothing Counted
        (record { servers = refl; tags = refl; names = refl; replicas = refl }) k.patches

    begun_on : At (begun (with_id a) id policy) W
    begun_on =
        begun_done n s a heard Counted W counted_on id (draw_birth (with_id a)) policy (blank_own id) true fresh
        none_sorted

  module _ (id : FileId) (fresh : is_held a id ≡ false) (policy : Policy) (new : NewName) where
    abbrev Thing : Done
    Thing = with_thing (with_id a) W id policy new

    thing_on : Is Thing
    thing_on =
        let place = place_in (with_id a) moment new in
        let first = idle (begun (with_id a) id policy) W in
        let placed = make_place id place first in
        raised_done n s a heard placed.store placed.work id (made_place n s a heard first (begun_on id fresh policy) id place)

    first_on : Is (with_first_version id Thing)
    first_on =
        let none = thing_new (with_id a) W id policy new in
        let x = replica_by Thing.store id (replica_at Thing.store id) refl none.0 in
        made_version Thing thing_on id x.0 x.1 (of.histories id)
        (none_of_history (of.histories id) (content_of Thing.store id) (of.are id) none.1)
        (drawn Thing.store Thing.work.now) first_ranges

  -- ---- contents

  changed_on : (ranges : RangesValue) (f : FileId) → is_held a f ≡ true → IsAnswer (change_file a ranges W f)
  changed_on ranges f held =
      answered_on (when_fit a ranges f) _ (λ fit same.
      let there : is_held a fit ≡ true = subst (λ g. is_held a g ≡ true) (fit_found a ranges f fit same) held in
      let x = replica_of_held a k.together fit there in
      made_version (idle a W) nothing fit x.0 x.1 (of.histories fit)
      (subst (IsOfHistory (of.histories fit)) (sym (content_held a fit x.0 x.1)) (of.held fit x.0 x.1)) (drawn a moment) ranges)

  change_on : (text : List ℕ) (ranges : RangesValue) → IsAnswer (change a text ranges W)
  change_on text ranges =
      answered_on (file_at a text) (change_file a ranges W)
      (λ f found. changed_on ranges f (full_held a.names f (file_found a text f found).0))

  -- ---- places

  placed_on : (f : FileId) (place : Place) → Is (make_place f place (idle a W))
  placed_on f place = made_place n s a heard (idle a W) nothing f place

  -- ---- a replica that is to go

  leaving_on : (f : FileId) (o : Option Flag) → IsAnswer (leaving a f W o)
  leaving_on f None = nothing
  leaving_on f (Some flag) = intent_done n s a heard a W nothing (leave_of f flag) tt

  -- EVERY CALL
  pub call_on : (c : Call) → IsAnswer (do_call a c W)
  call_on (call.Mkdir path) =
      answered_on (new_name a (next_id a Dir) path) _
      (λ new found. thing_on (next_id a Dir) (away.fresh Dir) Last new)
  call_on (call.Create path policy) =
      answered_on (new_name a (next_id a File) path) _
      (λ new found. first_on (next_id a File) (away.fresh File) policy new)
  call_on (call.Write path offset bytes) = change_on path (written offset bytes)
  call_on (call.Cut path length) = change_on path (cut_to length)
  call_on (call.Read path offset count) = replied_on (file_at a path) _
  call_on (call.Fresh path) = replied_on (file_at a path) _
  call_on (call.Ls path from) = replied_on (dir_at a path) _
  call_on (call.Stat target) = replied_on (target_at a target) _
  call_on (call.Rename from to) =
      answered_on (move_of a from to) _ (λ move found. placed_on move.thing (place_in a moment move.to))
  call_on (call.Unlink path) =
      answered_on (file_at a path) _ (λ f found. placed_on f (dead_place a moment f))
  call_on (call.Rmdir path) =
      answered_on (empty_dir_at a path) _ (λ f found. placed_on f (dead_place a moment f))
  call_on (call.Forget id) = answered_on (lost_at a id) _ (λ found is. forget_done n s a heard a W nothing found)
  call_on (call.Demote target) =
      answered_on (demoted_at a target) _ (λ f found.
      chosen Is (is_gold a f) (lower_flag a f W) (idle a W) (made_flag_done n s a heard a W f (own_next a f false) nothing) nothing)
  call_on (call.Drop target) =
      answered_on (dropped_at a target) _ (λ f found. leaving_on f (clean_gold a f))
  call_on (call.Giveup view server) =
      answered_on (removal_at a view server) _ (λ found is. enter_view_done n s a heard a W nothing server)
  call_on call.Status = replied_on (in_time a (tt {0})) _
  call_on call.Stop = replied_on (in_time a (tt {0})) _
