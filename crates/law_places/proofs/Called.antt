-- What comes of each call: each place that is known then, and each that is told, may stand, where
-- the one that it makes may. It makes at most one, with the stamp that the server draws.
use Rattle.std.proofs.Common.{ℕ, ◌≡◌, ◌≤◌, ◌<◌, ◌==◌, Bool, true, false, if◌then◌else◌, List, [], ◌∷◌, ◌++◌, Option, None, Some, Result, Ok, Err, refl, sym, ap, subst, ◌∙◌, inl, arith}
use Rattle.law_frame.specs.pg_run.pg_base.declared.id.FileId.{FileId}
use Rattle.law_frame.specs.pg_run.pg_base.declared.id.Kind.{Kind}
use Rattle.law_frame.specs.pg_run.pg_base.declared.id.Kind.TheVariants.{Dir, File}
use Rattle.law_frame.specs.pg_run.pg_base.declared.policy.Policy.{Policy}
use Rattle.law_frame.specs.pg_run.pg_base.declared.policy.Policy.TheVariants.{Last}
use Rattle.law_frame.specs.pg_run.pg_base.declared.stamp.Stamp.{Stamp}
use Rattle.law_frame.specs.pg_run.pg_base.Id.{is_same_file}
use Rattle.law_frame.proofs.pg_run.pg_base.Orders.{is_same_file-true}
use Rattle.law_frame.specs.pg_run.pg_call.declared.call.Call.{Call}
use Rattle.law_frame.specs.pg_run.pg_call.declared.call.Call.TheVariants as call
use Rattle.law_frame.specs.pg_run.pg_call.declared.refusal.Refusal.TheVariants.{Loop, NotEmpty, Root}
use Rattle.law_frame.specs.pg_run.pg_call.declared.reply.Reply.{Reply}
use Rattle.law_frame.specs.pg_run.pg_call.declared.reply.Reply.TheVariants as reply
use Rattle.law_frame.specs.pg_run.pg_house.Facts.{IsHeld}
use Rattle.law_frame.specs.pg_run.pg_house.Work.{is_root}
use Rattle.law_frame.proofs.pg_run.pg_house.Lasting.{drawn_late}
use Rattle.law_frame.specs.pg_run.pg_msg.declared.message.Message.TheVariants as message
use Rattle.law_frame.specs.pg_run.pg_msg.declared.update.Update.{Update}
use Rattle.law_frame.specs.pg_run.pg_msg.declared.update.Update.TheVariants as update
use Rattle.law_frame.specs.pg_run.pg_msg.declared.work.Work.{Work}
use Rattle.law_frame.specs.pg_run.pg_msg.Work.{new_work}
use Rattle.law_frame.specs.pg_run.pg_names.Names.{blank_own, is_dir, is_full, known}
use Rattle.law_frame.specs.pg_run.pg_patch.Ranges.{RangesValue, cut_to, written}
use Rattle.law_frame.proofs.pg_run.theory_flood_pieces.Choices.{chosen}
use Rattle.law_frame.specs.pg_run.pg_register.declared.flag.Flag.{Flag}
use Rattle.law_frame.specs.pg_run.pg_register.declared.place.Place.{Place}
use Rattle.law_frame.specs.pg_run.pg_register.Place.{blank_place, root}
use Rattle.law_frame.specs.pg_run.pg_store.declared.store.Store.{Store}
use Rattle.law_frame.specs.pg_run.pg_store.declared.wishes.Wish.{Wish}
use Rattle.law_frame.specs.pg_run.pg_store.Births.{draw_birth, with_birth, with_wish}
use Rattle.law_frame.specs.pg_run.pg_store.Store.{write}
use Rattle.law_frame.specs.pg_run.pg_lookup.declared.paths.Found.{Found}
use Rattle.law_frame.specs.pg_run.pg_lookup.declared.paths.LookupError.{LookupError}
use Rattle.law_frame.specs.pg_run.pg_lookup.declared.paths.LookupError.TheVariants as stop
use Rattle.law_frame.specs.pg_run.pg_lookup.Chain.{is_above}
use Rattle.law_frame.specs.pg_run.pg_lookup.Walk.{and_then, reach, reach_parent}
use Rattle.law_frame.specs.pg_run.pg_pieces.Done.{Done, idle}
use Rattle.law_frame.specs.pg_run.pg_pieces.Golds.{is_gold}
use Rattle.law_frame.specs.pg_run.pg_pieces.Making.{lower_flag, own_next}
use Rattle.law_frame.specs.pg_run.pg_checks.declared.checks.Move.{Move}
use Rattle.law_frame.specs.pg_run.pg_checks.declared.checks.NewName.{NewName}
use Rattle.law_frame.specs.pg_run.pg_checks.Answer.{Answer, answer, answered, deny, replied, told, unless}
use Rattle.law_frame.specs.pg_run.pg_checks.Asking.{ask_by, fetch, fresh_wish, holder, standing}
use Rattle.law_frame.specs.pg_run.pg_calls.Bodies.{change, change_file, when_fit}
use Rattle.law_frame.specs.pg_run.pg_calls.Calls.{do_call}
use Rattle.law_frame.specs.pg_run.pg_checks.Checks.{dir_at, empty_dir_at, file_at, first_child, in_time, move_along, move_of, move_to, new_name, new_name_in, target_at, unless_child}
use Rattle.law_frame.specs.pg_run.pg_calls.Demoting.{demoted_at}
use Rattle.law_frame.specs.pg_run.pg_calls.Dropping.{clean_gold, dropped_at, leave_of, leaving}
use Rattle.law_frame.specs.pg_run.pg_calls.Forgetting.{lost_at}
use Rattle.law_frame.specs.pg_run.pg_calls.GivingUp.{removal_at}
use Rattle.law_frame.specs.pg_run.pg_calls.Making.{drawn, first_ranges, make_place, make_version, version_of, with_version}
use Rattle.law_frame.specs.pg_run.pg_calls.Naming.{begun, dead_place, next_id, place_in, with_first_version, with_id, with_thing}
use Rattle.law_frame.specs.pg_run.pg_checks.Paths.{paths_of}
use Rattle.law_frame.proofs.pg_run.pg_calls.Checked.{behind, no_ok, same_ok, unless_ok}
use Rattle.law_frame.proofs.pg_run.pg_calls.Walked.{file_found, full_own, reach_ok, thing_found}
use Rattle.law_places.proofs.Origins.{IsMade}
use Rattle.law_places.proofs.Begun.{begin_fine}
use Rattle.law_places.proofs.Leaving.{intent_begun}
use Rattle.law_places.proofs.Placing.{begun_own, flag_made, place_made}
use Rattle.law_places.proofs.Lost.{forgotten}
use Rattle.law_places.proofs.Entered.{given_up}
use Rattle.law_places.proofs.Fine.{IsFine, as_before, made_flag, made_place, making, posted, raised_flag, write_fine}

-- ---- ids are not the root's

apart_by : (f : FileId) (t : Bool) → is_same_file f root ≡ t → 1 ≤ f.server → t ≡ false
apart_by f false e some = refl
apart_by f true e some =
    let zero_is : f.server ≡ 0 = ap (λ (x : FileId). x.server) (is_same_file-true f root e) in
    absurd (omega (arith, zero_is, some))

module _ (P : FileId → Place → Type 0) (blanks : (f : FileId) → is_same_file f root ≡ false → P f (blank_place f)) (s least : ℕ) (some : 1 ≤ s) (a : Store) (moment : ℕ) where
  abbrev W : Work
  W = new_work moment 0

  abbrev Fine : Done → Type 0
  Fine d = IsFine P s least d

  -- a version is made
  version_fine : (f : FileId) (stamp : Stamp) (ranges : RangesValue) (d : Done) → Fine d → Fine (make_version f stamp ranges d)
  version_fine f stamp ranges d k =
      let made = version_of d.store f stamp ranges in
      let b = write d.store f stamp ranges in
      making P s least (idle b d.work) (with_version d.work made) (update.Version made) refl refl (λ g p h. cc) (write_fine P s least d k f stamp ranges)

  -- what a call leaves is fine, where the place that it makes may stand
  abbrev pub Called : Answer → Type 0
  Called b = ((f : FileId) (p : Place) → IsMade b.work.made f p → P f p) → Fine (idle b.store b.work)

  -- ---- a call that does not go on

  fetch_fine : (f : FileId) (wish : Wish) → Fine (idle a W) → Fine (idle a (fetch a f wish W))
  fetch_fine f wish k =
      chosen (λ (w : Work). Fine (idle a w)) (wish.target == 0) W _ k (posted P s least (idle a W) wish.target (message.Fetch f wish.birth) tt k)

  asked_by : (found : Found) (o : Option Wish) → Fine (idle a W) → Fine (ask_by a found o W)
  asked_by found (Some wish) k = fetch_fine found.file wish k
  asked_by found None k =
      let target = holder a found in
      let wish = fresh_wish a target in
      let d = idle (with_wish (with_birth a) found.file wish) (fetch a found.file wish W) in
      chosen Fine (target == 0) (idle a W) d k (as_before P s least (idle a (fetch a found.file wish W)) d refl refl refl refl (fetch_fine found.file wish k))

  denied : (why : LookupError) → Fine (idle a W) → Called (deny a why W)
  denied (stop.Refused why) k mades = k
  denied (stop.NotYet found) k mades = asked_by found (standing a found.file) k

  going : {A : Type 0} (r : Result A LookupError) (next : A → Answer) → ((x : A) → r ≡ Ok x → Called (next x)) → Fine (idle a W) → Called (answered a W r next)
  going (Err why) next each k mades = denied why k mades
  going (Ok x) next each k mades = each x refl mades

  -- a call that looks
  looks : {A : Type 0} (r : Result A LookupError) (tell : A → Reply) → Fine (idle a W) → Called (replied a W r tell)
  looks r tell k = going r (λ x. told a W (tell x)) (λ x is mades. k) k

  -- ---- a new thing

  module _ (k : Fine (idle a W)) (kind : Kind) (policy : Policy) (new : NewName) where
    abbrev Id : FileId
    Id = next_id a kind

    abbrev At : Place
    At = place_in (with_id a) moment new

    abbrev Begun : Store
    Begun = begun (with_id a) Id policy

    abbrev Placed : Done
    Placed = make_place Id At (idle Begun W)

    abbrev Thing : Done
    Thing = with_thing (with_id a) W Id policy new

    apart : is_same_file Id root ≡ false
    apart =
        let e : Id.server ≡ s = k.drawn.server in
        apart_by Id (is_same_file Id root) refl (omega (arith, e, some))

    late : a.names.last < At.stamp.time
    late = drawn_late moment a.names.last At.stamp.time refl

    begun_fine : Fine (idle Begun W)
    begun_fine =
        begin_fine P s least Id (idle (with_birth (with_id a)) W) (draw_birth (with_id a)) policy (blank_own Id) true (blanks Id apart)
        (as_before P s least (idle a W) (idle (with_birth (with_id a)) W) refl refl refl refl k)

    placed_fine : P Id At → Fine Placed
    placed_fine stands =
        made_place P s least (idle a W) (idle Begun W) Id At (blank_own Id) (begun_own (with_birth (with_id a)) Id (draw_birth (with_id a)) policy (blank_own Id) true)
        (let m = late in omega arith) k.drawn refl k.drawn.server late stands begun_fine

    thing_fine : P Id At → Fine Thing
    thing_fine stands = raised_flag P s least Id Placed (placed_fine stands)

    abbrev Raised : Update
    Raised = update.Flag Id (own_next Placed.store Id true)

    thing_made : Thing.work.made ≡ update.Place Id At ∷ Raised ∷ []
    thing_made = flag_made Id Placed ∙ ap (λ us. us ++ Raised ∷ []) (place_made (idle Begun W) Id At)

    thing_called : (r : Reply) → Called (answer Thing r)
    thing_called r mades = thing_fine (mades Id At (subst (λ us. IsMade us Id At) (sym thing_made) (inl refl)))

    file_called : (r : Reply) → Called (answer (with_first_version Id Thing) r)
    file_called r mades =
        let stamp = drawn Thing.store Thing.work.now in
        let version = update.Version (version_of Thing.store Id stamp first_ranges) in
        let is : (with_first_version Id Thing).work.made ≡ update.Place Id At ∷ Raised ∷ version ∷ [] = ap (λ us. us ++ version ∷ []) thing_made in
        version_fine Id stamp first_ranges Thing (thing_fine (mades Id At (subst (λ us. IsMade us Id At) (sym is) (inl refl))))

  -- ---- a thing gets a place

  moved_called : Fine (idle a W) → (f : FileId) (place : Place) → IsHeld a.names f → place.stamp ≡ drawn a moment → (r : Reply) → Called (answer (make_place f place (idle a W)) r)
  moved_called k f place held now r mades =
      let t = ap (λ (x : Stamp). x.time) now in
      let late : a.names.last < place.stamp.time = drawn_late moment a.names.last place.stamp.time t in
      let times = k.timed.own f held.0 held.1 in
      made_place P s least (idle a W) (idle a W) f place held.0 held.1 (omega (arith, times, late)) k.drawn refl (ap (λ (x : Stamp). x.server) now ∙ k.drawn.server) late
      (mades f place (subst (λ us. IsMade us f place) (sym (place_made (idle a W) f place)) (inl refl))) k

  -- ---- a version

  changed_called : (ranges : RangesValue) (f : FileId) → Fine (idle a W) → Called (change_file a ranges W f)
  changed_called ranges f k = going (when_fit a ranges f) _ (λ fit is mades. version_fine fit (drawn a moment) ranges (idle a W) k) k

  change_called : (text : List ℕ) (ranges : RangesValue) → Fine (idle a W) → Called (change a text ranges W)
  change_called text ranges k = going (file_at a text) (change_file a ranges W) (λ f is. changed_called ranges f k) k

  -- ---- what moves and what goes is held

  move_held : (from to : List ℕ) (move : Move) → move_of a from to ≡ Ok move → IsHeld a.names move.thing
  move_held from to move found =
      let b = behind (and_then (paths_of from to) (in_time a)) (move_along a) move found in
      let c = behind (reach a.names false b.0.from) (λ thing. and_then (reach_parent a.names b.0.to) (move_to a.names thing b.0.to)) move b.2 in
      let d = behind (reach_parent a.names b.0.to) (move_to a.names c.0 b.0.to) move c.2 in
      let e = behind (unless (is_root c.0) Root d.0) (λ parent. and_then (new_name_in a.names c.0 b.0.to parent)
      (λ new. unless (if is_dir c.0 then is_above a.names c.0 new.dir else false) Loop (record { thing = c.0; to = new }))) move d.2 in
      let g = behind (new_name_in a.names c.0 b.0.to e.0) (λ new. unless (if is_dir c.0 then is_above a.names c.0 new.dir else false) Loop (record { thing = c.0; to = new })) move e.2 in
      let h = unless_ok (if is_dir c.0 then is_above a.names c.0 g.0.dir else false) Loop (record { thing = c.0; to = g.0 }) move g.2 in
      let same : c.0 ≡ move.thing = ap (λ (m : Move). m.thing) h.1 in
      full_own a.names move.thing (subst (λ x. is_full a.names x ≡ true) same (reach_ok a.names false b.0.from c.0 c.1).0)

  empty_by : (dir : FileId) (o : Option FileId) (g : FileId) → unless_child dir o ≡ Ok g → dir ≡ g
  empty_by dir None g h = same_ok dir g h
  empty_by dir (Some c) g h = absurd (no_ok (stop.Refused (NotEmpty c)) g h)

  empty_held : (text : List ℕ) (dir : FileId) → empty_dir_at a text ≡ Ok dir → IsHeld a.names dir
  empty_held text dir found =
      let b = behind (and_then (dir_at a text) (λ d. unless (is_root d) Root d)) (λ d. unless_child d (first_child d (known a.names d))) dir found in
      let c = behind (dir_at a text) (λ d. unless (is_root d) Root d) b.0 b.1 in
      let same : c.0 ≡ dir = (unless_ok (is_root c.0) Root c.0 b.0 c.2).1 ∙ empty_by b.0 (first_child b.0 (known a.names b.0)) dir b.2 in
      full_own a.names dir (subst (λ x. is_full a.names x ≡ true) same (thing_found a true text c.0 c.1))

  -- a gold replica is asked for leave, or none
  leaving_called : (f : FileId) (o : Option Flag) → Fine (idle a W) → Called (leaving a f W o)
  leaving_called f None k mades = k
  leaving_called f (Some flag) k mades = intent_begun P s least (idle a W) (leave_of f flag) tt k

  -- A CALL
  pub called : (x : Call) → Fine (idle a W) → Called (do_call a x W)
  called (call.Mkdir text) k =
      going (new_name a (next_id a Dir) text) _ (λ new is. thing_called k Dir Last new (reply.Made (next_id a Dir))) k
  called (call.Create text policy) k =
      going (new_name a (next_id a File) text) _ (λ new is. file_called k File policy new (reply.Made (next_id a File))) k
  called (call.Write text offset bytes) k = change_called text (written offset bytes) k
  called (call.Cut text length) k = change_called text (cut_to length) k
  called (call.Read text offset count) k = looks (file_at a text) _ k
  called (call.Fresh text) k = looks (file_at a text) _ k
  called (call.Ls text from) k = looks (dir_at a text) _ k
  called (call.Stat target) k = looks (target_at a target) _ k
  called (call.Rename from to) k =
      going (move_of a from to) _
      (λ move is. moved_called k move.thing (place_in a moment move.to) (move_held from to move is) refl reply.Done) k
  called (call.Unlink text) k =
      going (file_at a text) _
      (λ f is. moved_called k f (dead_place a moment f) (full_own a.names f (file_found a text f is).0) refl reply.Done) k
  called (call.Rmdir text) k =
      going (empty_dir_at a text) _ (λ d is. moved_called k d (dead_place a moment d) (empty_held text d is) refl reply.Done) k
  called (call.Forget id) k = going (lost_at a id) _ (λ f is mades. forgotten P blanks s least a moment k f mades) k
  called (call.Demote target) k =
      going (demoted_at a target) _
      (λ f is mades. chosen Fine (is_gold a f) (lower_flag a f W) (idle a W) (made_flag P s least f (own_next a f false) (idle a W) k) k) k
  called (call.Drop target) k = going (dropped_at a target) _ (λ f is. leaving_called f (clean_gold a f) k) k
  called (call.Giveup view server) k = going (removal_at a view server) _ (λ found is mades. given_up P s least a moment k server) k
  called call.Status k = looks (in_time a (tt {0})) _ k
  called call.Stop k = looks (in_time a (tt {0})) _ k
