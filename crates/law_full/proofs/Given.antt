-- What calls leave of full replicas: new things, and what was lost and is given up, have places.
use Rattle.std.proofs.Common.{ℕ, ◌≡◌, Bool, true, false, cond, [], Option, None, Some, Ok, is_some, refl, sym, ap, subst, ◌∙◌, inr}
use Rattle.std.proofs.lemmas.Bool.{false≢true}
use Rattle.std.proofs.lemmas.Option.{none-some, same_Some}
use Rattle.law_frame.specs.pg_run.pg_base.declared.id.FileId.{FileId}
use Rattle.law_frame.specs.pg_run.pg_base.declared.id.Kind.{Kind}
use Rattle.law_frame.specs.pg_run.pg_base.declared.policy.Policy.{Policy}
use Rattle.law_frame.specs.pg_run.pg_base.declared.policy.Policy.TheVariants.{Last}
use Rattle.law_frame.specs.pg_run.pg_base.Id.{is_same_file}
use Rattle.law_frame.proofs.pg_run.pg_base.Orders.{is_same_file-refl, is_same_file-true}
use Rattle.law_frame.specs.pg_run.pg_call.declared.refusal.Refusal.TheVariants.{Held, Root}
use Rattle.law_frame.specs.pg_run.pg_register.declared.place.Place.{Place}
use Rattle.law_frame.specs.pg_run.pg_register.Place.{root}
use Rattle.law_frame.specs.pg_run.pg_entries.declared.entry.Entry.{Entry}
use Rattle.law_frame.specs.pg_run.pg_msg.declared.work.Work.{Work}
use Rattle.law_frame.specs.pg_run.pg_names.declared.attributes.Attributes.{Attributes}
use Rattle.law_frame.specs.pg_run.pg_names.Names.{InodeValue, NamesValue, begin as begin_names, blank_own, cell_at, is_dir, known, new_held, own_of, own_or_blank}
use Rattle.law_frame.proofs.pg_run.pg_names.Holding.{begun_known}
use Rattle.law_frame.specs.pg_run.pg_house.Returning.{is_root}
use Rattle.law_frame.specs.pg_run.pg_store.declared.store.Store.{Store}
use Rattle.law_frame.specs.pg_run.pg_store.Beginning.{begin, patches_of, put_new}
use Rattle.law_frame.specs.pg_run.pg_store.Births.{draw_birth, with_birth}
use Rattle.law_frame.specs.pg_run.pg_store.Store.{is_full, is_held, take_place}
use Rattle.law_frame.specs.pg_run.pg_pieces.Done.{Done, idle}
use Rattle.law_frame.specs.pg_run.pg_pieces.Making.{own_next}
use Rattle.law_frame.specs.pg_run.pg_checks.declared.checks.NewName.{NewName}
use Rattle.law_frame.specs.pg_run.pg_checks.Asking.{latest}
use Rattle.law_frame.specs.pg_run.pg_checks.Checks.{in_time}
use Rattle.law_frame.specs.pg_run.pg_calls.Forgetting.{begin_lost, begun_at, begun_with, dirs_of, fill_lost, forget_lost, has_blank_place, is_wanted, last_place, lost_at, place_in as place_in_dir, place_of, placed_in_root, placed_lost, root_place, strike_out, unfilled, unless_full}
use Rattle.law_frame.specs.pg_run.pg_calls.Demoting.{unless_root}
use Rattle.law_frame.specs.pg_run.pg_calls.Naming.{begun, next_id, place_in, raised, with_id, with_thing}
use Rattle.law_frame.proofs.pg_run.pg_calls.Checked.{behind, unless_ok}
use Rattle.law_frame.specs.pg_run.pg_lookup.Walk.{and_then}
use Rattle.law_frame.proofs.pg_run.theory_flood_pieces.Choices.{chosen, decided}
use Rattle.law_frame.proofs.pg_run.theory_flood_pieces.Together.{own_of_held}
use Rattle.law_full.specs.Filled.{IsLate, IsPlaced}
use Rattle.law_full.proofs.Calling.{CallsKeep}
use Rattle.law_full.proofs.HousePlaces.{drawn_some}
use Rattle.law_full.proofs.Losing.{fill_kept, lost_kept, strike_kept}
use Rattle.law_full.proofs.Pieces.{begin_kept, flag_kept, patches_kept, place_kept}
use Rattle.law_full.proofs.Placed.{AnyFills, AnyPlace, At, BeginsOther, FillsIt, FullIf, HeldIn, OfOwn, OtherBegins, at_kept, full_kept_if, held_kept, late_time, not_first, taken_at}

-- ---- what may be given up

-- it is not the root
pub lost_inner : (a : Store) (id found : FileId) → lost_at a id ≡ Ok found → is_root found ≡ false
lost_inner a id found h =
    let last = behind (and_then (in_time a id) unless_root) (unless_full a) found h in
    let first = behind (in_time a id) unless_root last.0 last.1 in
    let here = unless_ok (is_root first.0) Root first.0 last.0 first.2 in
    let there = unless_ok (is_full a last.0) Held last.0 found last.2 in
    ap is_root (sym (here.1 ∙ there.1)) ∙ here.0

-- ---- places that directories list

-- a live place that a directory tells of anything but the root is later than the first
abbrev pub ListsLate : Store → Type 0
ListsLate a = (dir child : FileId) (e : Entry) → cell_at a.names dir child ≡ Some e → e.place.live ≡ true → is_same_file child root ≡ false → IsLate e.place

module _ (a : Store) (lists : ListsLate a) (id : FileId) (inner : is_same_file id root ≡ false) where
  live_late : (dir : FileId) (e : Entry) (p : Place) → cell_at a.names dir id ≡ Some e → (t : Bool) → e.place.live ≡ t → cond t (Some e.place) None ≡ Some p → IsLate p
  live_late dir e p at false live h = absurd (none-some p h)
  live_late dir e p at true live h = subst IsLate (same_Some e.place p h) (lists dir id e at live inner)

  told_late : (dir : FileId) (p : Place) (o : Option Entry) → cell_at a.names dir id ≡ o → place_of o ≡ Some p → IsLate p
  told_late dir p None at h = absurd (none-some p h)
  told_late dir p (Some e) at h = live_late dir e p at e.place.live refl h

  in_late : (p : Place) (o : Option FileId) → place_in_dir a.names id o ≡ Some p → IsLate p
  in_late p None h = absurd (none-some p h)
  in_late p (Some dir) h = told_late dir p (cell_at a.names dir id) refl h

  last_late : (p : Place) → last_place a.names id ≡ Some p → IsLate p
  last_late p h = in_late p (latest a.names id None (dirs_of a.names id)) h

-- ---- the place that the latest cell tells is live

live_by : (e : Entry) (p : Place) (t : Bool) → e.place.live ≡ t → cond t (Some e.place) None ≡ Some p → p.live ≡ true
live_by e p false live h = absurd (none-some p h)
live_by e p true live h = ap (λ (q : Place). q.live) (sym (same_Some e.place p h)) ∙ live

told_live : (p : Place) (o : Option Entry) → place_of o ≡ Some p → p.live ≡ true
told_live p None h = absurd (none-some p h)
told_live p (Some e) h = live_by e p e.place.live refl h

in_live : (a : Store) (id : FileId) (p : Place) (o : Option FileId) → place_in_dir a.names id o ≡ Some p → p.live ≡ true
in_live a id p None h = absurd (none-some p h)
in_live a id p (Some dir) h = told_live p (cell_at a.names dir id) h

pub last_live : (a : Store) (id : FileId) (p : Place) → last_place a.names id ≡ Some p → p.live ≡ true
last_live a id p h = in_live a id p (latest a.names id None (dirs_of a.names id)) h

-- ---- a replica that begins

module _ (a : Store) (id : FileId) (birth : ℕ) (policy : Policy) (own : Attributes) (full : Bool) where
  abbrev Start : Store
  Start = put_new a id birth policy own full

  begun_there : known (begin_names a.names id own full) id ≡ Some (new_held own full)
  begun_there =
      begun_known a.names id own full id ∙ ap (λ (b : Bool). cond b (Some (new_held own full)) (known a.names id)) (is_same_file-refl id)

  -- it is held
  new_is_held : HeldIn id (begin a id birth policy own full).names
  new_is_held =
      patches_kept (HeldIn id) (λ f p. Unit {0}) (λ f o b. Unit {0}) (λ f. Unit {0}) (held_kept id) Start id (patches_of id a.intents)
      (ap is_some begun_there)

  -- and has its place, or a later one
  new_is_placed : IsLate own.place → At id (begin a id birth policy own full).names
  new_is_placed late =
      patches_kept (At id) (AnyPlace id) (OtherBegins id) (AnyFills id) (at_kept id) Start id (patches_of id a.intents)
      (subst (λ (o : Option InodeValue). OfOwn id (own_of o)) (sym begun_there) late)

module _ (a : Store) (file : FileId) (T : Type 0) where
  abbrev Full : NamesValue → Type 0
  Full = FullIf a file T

  abbrev Places : FileId → Place → Type 0
  Places f p = Unit {0}

  abbrev Begins : FileId → Attributes → Bool → Type 0
  Begins = BeginsOther a file T

  abbrev Fills : FileId → Type 0
  Fills = FillsIt a file T

  both : (s : NamesValue) → IsPlaced s file → Full s
  both s at = (λ is. at, λ x. at)

  -- ---- a call makes a thing

  module _ (work : Work) (kind : Kind) (policy : Policy) (new : NewName) where
    abbrev Id : FileId
    Id = next_id a kind

    abbrev Begun : Store
    Begun = begun (with_id a) Id policy

    abbrev First : Place
    First = place_in (with_id a) work.now new

    abbrev Thing : Store
    Thing = (with_thing (with_id a) work Id policy new).store

    thing_other : is_same_file file Id ≡ false → Full a.names → Full Thing.names
    thing_other other h =
        let b = take_place Begun Id First in
        let one = begin_kept Full Places Begins Fills (full_kept_if a file T) (with_birth (with_id a)) Id (draw_birth (with_id a)) policy (blank_own Id) true (inr other) h in
        let two = place_kept Full Places Begins Fills (full_kept_if a file T) Begun Id First tt one in
        flag_kept Full Places Begins Fills (full_kept_if a file T) b Id (own_next b Id true) two

    -- it is held, so it takes its place
    placed_there : IsPlaced Thing.names Id
    placed_there =
        let own = own_of_held Begun.names Id (new_is_held (with_birth (with_id a)) Id (draw_birth (with_id a)) policy (blank_own Id) true) in
        let b = take_place Begun Id First in
        flag_kept (At Id) (AnyPlace Id) (OtherBegins Id) (AnyFills Id) (at_kept Id) b Id (own_next b Id true)
        (taken_at Id Begun own.0 own.1 First (late_time First.stamp (drawn_some work.now a.names.last)))

    thing_by : (t : Bool) → is_same_file file Id ≡ t → Full a.names → Full Thing.names
    thing_by false e h = thing_other e h
    thing_by true e h = both Thing.names (subst (IsPlaced Thing.names) (sym (is_same_file-true file Id e)) placed_there)

  -- ---- what was lost is given up

  module _ (lists : ListsLate a) (work : Work) (h : Full a.names) where
    lost_other : (id : FileId) → is_same_file file id ≡ false → Full (forget_lost a id work).store.names
    lost_other id other =
        lost_kept Full Places Begins Fills (full_kept_if a file T) a id work (record {
          placed = λ b. tt;
          fills = λ e. absurd (false≢true (sym other ∙ ap (is_same_file file) (is_same_file-true id file e) ∙ is_same_file-refl file));
          known = λ p is. inr other;
          anew = inr other;
        }) h

    abbrev OfDone : Done → Type 0
    OfDone d = Full d.store.names

    -- a filling replica
    fill_lost_full : is_held a file ≡ true → OfDone (fill_lost a file work)
    fill_lost_full held =
        let own = own_of_held a.names file held in
        let place = root_place a work.now file in
        let d = placed_lost a file work in
        let there : IsPlaced d.store.names file =
        decided (λ (e : Done). IsPlaced e.store.names file) (has_blank_place a file) (placed_in_root file a work) (idle a work)
        (λ blank. taken_at file a own.0 own.1 place (late_time place.stamp (drawn_some work.now a.names.last)))
        (λ some. not_first (own_or_blank a.names file).place.stamp some) in
        both (fill_lost a file work).store.names
        (fill_kept (At file) (AnyPlace file) (OtherBegins file) (AnyFills file) (at_kept file) d.store file d.work tt there)

    -- a directory that begins
    module _ (inner : is_same_file file root ≡ false) where
      at_placed : (o : Option Place) → last_place a.names file ≡ o → IsPlaced (begun_at a file work o).store.names file
      at_placed (Some p) is =
          new_is_placed (unfilled (with_birth a) file) file (draw_birth a) Last (record { place = p; flags = [] }) true (last_late a lists file inner p is)
      at_placed None is =
          let b = begun_with a file (blank_own file) in
          let own = own_of_held b.names file (new_is_held (unfilled (with_birth a) file) file (draw_birth a) Last (blank_own file) true) in
          let place = root_place b work.now file in
          taken_at file b own.0 own.1 place (late_time place.stamp (drawn_some work.now b.names.last))

      begin_lost_full : OfDone (begin_lost a file work)
      begin_lost_full =
          let d = begun_at a file work (last_place a.names file) in
          chosen OfDone (is_wanted a file) (raised file d) (idle a work)
          (both (raised file d).store.names
          (flag_kept (At file) (AnyPlace file) (OtherBegins file) (AnyFills file) (at_kept file) d.store file (own_next d.store file true)
          (at_placed (last_place a.names file) refl))) h

      lost_same : OfDone (forget_lost a file work)
      lost_same =
          decided OfDone (is_held a file) (fill_lost a file work) (cond (is_dir file) (begin_lost a file work) (strike_out a file work)) fill_lost_full
          (λ away. chosen OfDone (is_dir file) (begin_lost a file work) (strike_out a file work) begin_lost_full
          (strike_kept Full Places Begins Fills (full_kept_if a file T) a file work h))

    lost_by : (id : FileId) → is_root id ≡ false → (t : Bool) → is_same_file file id ≡ t → Full (forget_lost a id work).store.names
    lost_by id inner false other = lost_other id other
    lost_by id inner true same =
        let one : file ≡ id = is_same_file-true file id same in
        subst (λ (f : FileId). OfDone (forget_lost a f work)) one (lost_same (ap (λ (f : FileId). is_same_file f root) one ∙ inner))

  pub calls_full : ListsLate a → (work : Work) → CallsKeep Full a work
  calls_full lists work = record {
    thing = λ kind policy new h. thing_by work kind policy new (is_same_file file (next_id a kind)) refl h;
    place = λ f p drawn h. place_kept Full Places Begins Fills (full_kept_if a file T) a f p tt h;
    flag = λ f g h. flag_kept Full Places Begins Fills (full_kept_if a file T) a f g h;
    raised = λ s time h. h;
    lost = λ id found is h. lost_by lists work h found (lost_inner a id found is) (is_same_file file found) refl;
    removed = λ server h. h;
  }
