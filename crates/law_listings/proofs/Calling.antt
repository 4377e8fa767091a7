-- The first part of a step, for each call.
use Rattle.std.proofs.Common.{ℕ, ◌≡◌, ◌==◌, true, false, List, Option, None, Some, Result, Ok, Err, refl, sym, subst}
use Rattle.pg_run.specs.pg_base.declared.id.FileId.{FileId}
use Rattle.pg_run.specs.pg_base.declared.id.Kind.{Kind}
use Rattle.pg_run.specs.pg_base.declared.id.Kind.TheVariants.{Dir, File}
use Rattle.pg_run.specs.pg_base.declared.policy.Policy.{Policy}
use Rattle.pg_run.specs.pg_base.declared.policy.Policy.TheVariants.{Last}
use Rattle.pg_run.specs.pg_call.declared.call.Call.{Call}
use Rattle.pg_run.specs.pg_call.declared.call.Call.TheVariants as call
use Rattle.pg_run.specs.pg_call.declared.reply.Reply.{Reply}
use Rattle.pg_run.specs.pg_call.declared.reply.Reply.TheVariants as reply
use Rattle.pg_run.specs.pg_house.Facts.{IsOneOf}
use Rattle.pg_run.specs.pg_msg.declared.update.Update.TheVariants as update
use Rattle.pg_run.specs.pg_msg.declared.work.Work.{Work}
use Rattle.pg_run.specs.pg_msg.Work.{new_work, with_made}
use Rattle.pg_run.specs.pg_names.Names.{blank_own}
use Rattle.pg_run.specs.pg_patch.Ranges.{RangesValue, cut_to, written}
use Rattle.pg_run.proofs.theory_flood_pieces.Choices.{chosen}
use Rattle.pg_run.specs.pg_register.declared.flag.Flag.{Flag}
use Rattle.pg_run.specs.pg_register.declared.place.Place.{Place}
use Rattle.pg_run.specs.Intending.{IntendsInOrder, PatchesStand}
use Rattle.pg_run.specs.pg_store.declared.store.Store.{Store}
use Rattle.pg_run.specs.pg_store.declared.wishes.Wish.{Wish}
use Rattle.pg_run.specs.pg_store.Births.{draw_birth, with_birth, with_wish}
use Rattle.pg_run.specs.pg_store.Seen.{view_of}
use Rattle.pg_run.specs.pg_store.Store.{is_held}
use Rattle.pg_run.specs.pg_lookup.declared.paths.Found.{Found}
use Rattle.pg_run.specs.pg_lookup.declared.paths.LookupError.{LookupError}
use Rattle.pg_run.specs.pg_lookup.declared.paths.LookupError.TheVariants as stop
use Rattle.pg_run.specs.pg_pieces.Done.{Done, idle}
use Rattle.pg_run.specs.pg_pieces.Intending.{begin_intent}
use Rattle.pg_run.specs.pg_checks.declared.checks.NewName.{NewName}
use Rattle.pg_run.specs.pg_checks.Answer.{Answer, answer, answered, deny, replied, told}
use Rattle.pg_run.specs.pg_checks.Asking.{ask_by, fetch, fresh_wish, holder, standing}
use Rattle.pg_run.specs.pg_calls.Bodies.{change, change_file, when_fit}
use Rattle.pg_run.specs.pg_calls.Calls.{do_call}
use Rattle.pg_run.specs.pg_checks.Checks.{dir_at, empty_dir_at, file_at, in_time, move_of, new_name, target_at}
use Rattle.pg_run.specs.pg_calls.Demoting.{demoted_at, lowered}
use Rattle.pg_run.specs.pg_calls.Dropping.{clean_gold, dropped_at, leave_of, leaving}
use Rattle.pg_run.specs.pg_calls.Forgetting.{forget_lost, lost_at}
use Rattle.pg_run.specs.pg_calls.GivingUp.{enter_view, removal_at}
use Rattle.pg_run.specs.pg_calls.Making.{drawn, make_place, make_version}
use Rattle.pg_run.specs.pg_calls.Naming.{begun, dead_place, next_id, place_in, with_first_version, with_id, with_thing}
use Rattle.law_listings.specs.Letters.{Letter}
use Rattle.law_listings.proofs.PlacesAlone.{IsPart}
use Rattle.law_listings.proofs.Alike.{Alike, Alike-refl, alike_by, before_alike, behind_alike}
use Rattle.law_listings.proofs.Heard.{IsBehind, IsFirst, alike_is, idle_first, place_is, plainly}
use Rattle.law_listings.proofs.Leaving.{begun_alike}
use Rattle.law_listings.proofs.Lost.{lost_first}
use Rattle.law_listings.proofs.Entering.{entering_first}
use Rattle.law_listings.proofs.Placed.{IsNoted, noted_from, noted_on}
use Rattle.law_listings.proofs.Starting.{IsStarted, started, started_first, started_noted, then_placed}
use Rattle.law_listings.proofs.Unseen.{later_alike, lowered_alike, raised_alike, raised_left}

-- an id, or a birth, that is given out changes nothing else
given_behind : (a : Store) → IsBehind a → IsBehind (with_birth (with_id a))
given_behind a k = record { back = k.back }

given_patches : (a : Store) → PatchesStand a → PatchesStand (with_birth (with_id a))
given_patches a k d c e target h = (let p = k d c e target h in record { away = p.away; own = p.own; held = p.held; upto = p.upto; same = p.same })

module _ (a : Store) (behind : IsBehind a) (order : IntendsInOrder a) (fresh : (kind : Kind) → is_held a (next_id a kind) ≡ false) (heard : Letter) (view : heard.view ≡ view_of a) (moment : ℕ) where
  abbrev W : Work
  W = new_work moment 0

  abbrev First : Answer → Type 0
  First b = IsFirst a heard (idle b.store b.work)

  idle_is : (work : Work) → IsFirst a heard (idle a work)
  idle_is work = idle_first a behind heard view work

  -- ---- a call that does not go on

  asked_by : (found : Found) (o : Option Wish) → IsFirst a heard (ask_by a found o W)
  asked_by found (Some wish) = idle_is (fetch a found.file wish W)
  asked_by found None =
      let target = holder a found in
      let wish = fresh_wish a target in
      let d = idle (with_wish (with_birth a) found.file wish) (fetch a found.file wish W) in
      chosen (λ (e : Done). IsFirst a heard e) (target == 0) (idle a W) d (idle_is W) (alike_is a behind heard view d (alike_by a d.store refl refl))

  denied : (why : LookupError) → First (deny a why W)
  denied (stop.Refused why) = idle_is W
  denied (stop.NotYet found) = asked_by found (standing a found.file)

  going : {A : Type 0} (r : Result A LookupError) (next : A → Answer) → ((x : A) → First (next x)) → First (answered a W r next)
  going (Err why) next each = denied why
  going (Ok x) next each = each x

  looks : {A : Type 0} (r : Result A LookupError) (tell : A → Reply) → First (replied a W r tell)
  looks r tell = going r (λ x. told a W (tell x)) (λ x. idle_is W)

  -- ---- a new thing

  module _ (kind : Kind) (policy : Policy) (new : NewName) where
    abbrev Id : FileId
    Id = next_id a kind

    abbrev At : Place
    At = place_in (with_id a) moment new

    abbrev Given : Store
    Given = with_birth (with_id a)

    abbrev Begun : Store
    Begun = begun (with_id a) Id policy

    abbrev Placed : Done
    Placed = make_place Id At (idle Begun W)

    abbrev Thing : Done
    Thing = with_thing (with_id a) W Id policy new

    is_given : Alike a Given
    is_given = alike_by a Given refl refl

    away : is_held Given Id ≡ false
    away = fresh kind

    is_started : IsStarted Given Placed.store Id
    is_started = then_placed Given Begun Id At (started Given Id (draw_birth (with_id a)) policy (blank_own Id) true away)

    given_order : PatchesStand Given
    given_order = given_patches a order.patches

    placed_first : IsPart a Placed.store heard
    placed_first =
        behind_alike a Given is_given heard Placed.store (started_first Given Placed.store Id is_started away (given_behind a behind) given_order heard view)

    placed_noted : IsNoted a Placed
    placed_noted = noted_from a Given Placed is_given.own
        (noted_on Given (idle Placed.store Placed.work) Placed (started_noted Given Placed.store Id is_started away (given_behind a behind) given_order heard view Placed.work) (λ f. refl) (λ x h. h))

    thing_alike : Alike Placed.store Thing.store
    thing_alike = raised_alike Placed.store Id Placed.work

    thing_part : IsPart a Thing.store heard
    thing_part = before_alike Placed.store Thing.store thing_alike heard a placed_first

    thing_noted : IsNoted a Thing
    thing_noted = noted_on a Placed Thing placed_noted thing_alike.own (λ x h. subst (IsOneOf x) (sym (raised_left Placed.store Id Placed.work)) h)

    thing_first : (r : Reply) → First (answer Thing r)
    thing_first r = plainly a heard Thing thing_part thing_noted

    file_first : (r : Reply) → First (answer (with_first_version Id Thing) r)
    file_first r =
        let end = with_first_version Id Thing in
        let stamp = drawn Thing.store Thing.work.now in
        let more : Alike Thing.store end.store = later_alike Thing.store end.store stamp.time refl refl in
        plainly a heard end (before_alike Thing.store end.store more heard a thing_part) (noted_on a Thing end thing_noted more.own (λ x h. h))

  -- ---- a thing gets a place

  moved_first : (f : FileId) (place : Place) (r : Reply) → First (answer (make_place f place (idle a W)) r)
  moved_first f place r = place_is a behind heard view a f place (with_made W (update.Place f place)) (Alike-refl a)

  -- ---- a version

  change_first : (text : List ℕ) (ranges : RangesValue) → First (change a text ranges W)
  change_first text ranges =
      going (file_at a text) (change_file a ranges W)
      (λ f. going (when_fit a ranges f) _
      (λ fit. (
      let d = make_version fit (drawn a moment) ranges (idle a W) in
      alike_is a behind heard view d (later_alike a d.store (drawn a moment).time refl refl))))

  -- ---- leave is asked for

  leaving_first : (f : FileId) (flag : Option Flag) → First (leaving a f W flag)
  leaving_first f None = idle_is W
  leaving_first f (Some flag) =
      let d = begin_intent a (leave_of f flag) W in
      alike_is a behind heard view d (begun_alike a (leave_of f flag) W (record { patch = λ x c. refl; confirm = λ x c. refl }))

  -- A CALL
  pub call_first : (x : Call) → First (do_call a x W)
  call_first (call.Mkdir text) = going (new_name a (next_id a Dir) text) _ (λ new. thing_first Dir Last new (reply.Made (next_id a Dir)))
  call_first (call.Create text policy) = going (new_name a (next_id a File) text) _ (λ new. file_first File policy new (reply.Made (next_id a File)))
  call_first (call.Write text offset bytes) = change_first text (written offset bytes)
  call_first (call.Cut text length) = change_first text (cut_to length)
  call_first (call.Read text offset count) = looks (file_at a text) _
  call_first (call.Fresh text) = looks (file_at a text) _
  call_first (call.Ls text from) = looks (dir_at a text) _
  call_first (call.Stat target) = looks (target_at a target) _
  call_first (call.Rename from to) = going (move_of a from to) _ (λ move. moved_first move.thing (place_in a moment move.to) reply.Done)
  call_first (call.Unlink text) = going (file_at a text) _ (λ f. moved_first f (dead_place a moment f) reply.Done)
  call_first (call.Rmdir text) = going (empty_dir_at a text) _ (λ d. moved_first d (dead_place a moment d) reply.Done)
  call_first (call.Forget id) = going (lost_at a id) (λ f. answer (forget_lost a f W) reply.Done) (λ f. lost_first a behind order heard view moment f)
  call_first (call.Demote target) = going (demoted_at a target) _ (λ f. alike_is a behind heard view (lowered a f W) (lowered_alike a f W))
  call_first (call.Drop target) = going (dropped_at a target) _ (λ f. leaving_first f (clean_gold a f))
  call_first (call.Giveup next server) = going (removal_at a next server) (λ found. answer (enter_view a server W) reply.Done) (λ found. entering_first a server heard view moment)
  call_first call.Status = looks (in_time a (tt {0})) _
  call_first call.Stop = looks (in_time a (tt {0})) _
