-- Where a run is quiet and its things are connected, names form a tree, and no dead directory holds
-- what survives.
use Rattle.std.proofs.Common.{ℕ, zero, suc, ◌≡◌, ◌+◌, not, Bool, true, false, length, Option, Some, refl, sym, ap, ◌∙◌}
use Rattle.std.proofs.lemmas.Bool.{false≢true, and_from, not_from_false}
use Rattle.pg_run.specs.pg_base.declared.id.FileId.{FileId}
use Rattle.pg_run.specs.pg_base.Id.{is_same_file}
use Rattle.pg_run.proofs.pg_base.Orders.{is_same_file-true}
use Rattle.pg_run.specs.pg_names.declared.attributes.Attributes.{Attributes}
use Rattle.pg_run.specs.pg_names.Names.{NamesValue, directories, is_dir, or_blank, own_at}
use Rattle.pg_run.specs.pg_register.declared.place.Place.{Place}
use Rattle.pg_run.specs.pg_register.Place.{root}
use Rattle.pg_run.specs.pg_house.Cycles.{above, climb, is_inner, is_live_own}
use Rattle.pg_run.specs.pg_house.Placing.{place_at, place_of}
use Rattle.pg_run.specs.pg_house.Returning.{is_root}
use Rattle.pg_run.proofs.pg_house.Counting.{among_kept}
use Rattle.pg_run.proofs.pg_house.Ends.{key_of_held}
use Rattle.pg_run.proofs.pg_house.Truths.{chosen_true}
use Rattle.pg_run.specs.Run.{World, is_live}
use Rattle.pg_run.specs.Laws.{IsBroughtBack, IsTree, LeadsToRoot, Stands, Survives}
use Rattle.law_quiet.proofs.Facts.{Facts, holds_of}
use Rattle.law_quiet.proofs.Standing.{parent_dir, parent_held, parent_live}

module _ (n : ℕ) (w : World) (k : Facts n w) where
  -- ---- the way to the root

  module _ (s : ℕ) (there : is_live n w s ≡ true) where
    abbrev Names : NamesValue
    Names = (w.stores s).names

    -- a live thing stands here
    here : (f : FileId) (own : Attributes) → own_at Names f ≡ Some own → own.place.live ≡ true → Stands n w f own.place
    here f own held live = record { server = s; there = there; own = own; held = held; is = refl; live = live }

    inner : (f : FileId) (own : Attributes) → own_at Names f ≡ Some own → own.place.live ≡ true → is_same_file f root ≡ false → is_dir f ≡ true → is_inner Names f ≡ true
    inner f own held live apart dir = and_from (is_dir f) _ dir (and_from (not (is_root f)) _ (not_from_false (is_root f) apart) (ap is_live_own held ∙ live))

    -- one step more
    step : (f : FileId) (own : Attributes) → own_at Names f ≡ Some own → own.place.live ≡ true → (i : ℕ) → LeadsToRoot n w i own.place.parent → (j : ℕ) × LeadsToRoot n w j f
    step f own held live i leads = (suc i, (own.place, here f own held live, leads))

    -- from its parent, or the parent is the root
    from_parent : (f : FileId) (own : Attributes) → own_at Names f ≡ Some own → own.place.live ≡ true → (t : Bool) → is_same_file own.place.parent root ≡ t → (t ≡ false → (i : ℕ) × LeadsToRoot n w i own.place.parent) → (j : ℕ) × LeadsToRoot n w j f
    from_parent f own held live true e rest = step f own held live 0 (is_same_file-true own.place.parent root e)
    from_parent f own held live false e rest = let r = rest refl in step f own held live r.0 r.1

    -- so many steps up from a live directory come out of the live directories
    leads_within : (i : ℕ) (f : FileId) (own : Attributes) → own_at Names f ≡ Some own → own.place.live ≡ true → is_same_file f root ≡ false → is_dir f ≡ true → is_inner Names (climb Names i f) ≡ false → (j : ℕ) × LeadsToRoot n w j f
    leads_within zero f own held live apart dir out = absurd (false≢true (sym out ∙ inner f own held live apart dir))
    leads_within (suc i) f own held live apart dir out =
        let p = own.place.parent in
        let up : above Names f ≡ p = chosen_true (is_inner Names f) (place_at Names f).parent root (inner f own held live apart dir) ∙ ap (λ (o : Option Attributes). (place_of o).parent) held in
        let over = parent_held n w k s there f own held apart live in
        let alive = parent_live n w k s there f own held apart live in
        let dirs = parent_dir n w k s there f own held apart live in
        from_parent f own held live (is_same_file p root) refl
        (λ other. leads_within i p over.0 over.1 alive other dirs (ap (λ (x : FileId). is_inner Names (climb Names i x)) (sym up) ∙ out))

    leads_dir : (f : FileId) (own : Attributes) → own_at Names f ≡ Some own → own.place.live ≡ true → is_same_file f root ≡ false → is_dir f ≡ true → (j : ℕ) × LeadsToRoot n w j f
    leads_dir f own held live apart dir =
        let many = length (directories Names) in
        leads_within (many + many) f own held live apart dir ((k.named s there).found f (among_kept is_dir _ f (key_of_held Names f own held) dir))

    leads_by : (f : FileId) (own : Attributes) → own_at Names f ≡ Some own → own.place.live ≡ true → (t : Bool) → is_same_file f root ≡ t → (j : ℕ) × LeadsToRoot n w j f
    leads_by f own held live true e = (0, is_same_file-true f root e)
    leads_by f own held live false apart =
        let over = parent_held n w k s there f own held apart live in
        let alive = parent_live n w k s there f own held apart live in
        let dirs = parent_dir n w k s there f own held apart live in
        from_parent f own held live (is_same_file own.place.parent root) refl (λ other. leads_dir own.place.parent over.0 over.1 alive other dirs)

  survivor : (f : FileId) → Survives n w f → (j : ℕ) × LeadsToRoot n w j f
  survivor f h =
      let t = h.1 in
      leads_by t.server t.there f t.own t.held (ap (λ (q : Place). q.live) t.is ∙ t.live) (is_same_file f root) refl

  -- A TREE
  pub tree : IsTree n w
  tree = record { leads = survivor; distinct = λ s there. (k.named s there).distinct }

  -- ---- directories that come back

  -- NO DIRECTORY THAT IS DEAD AT A SERVER HOLDS A SURVIVOR
  pub brought_back : IsBroughtBack n w
  brought_back f place t apart s there own at =
      let live : t.own.place.live ≡ true = ap (λ (q : Place). q.live) t.is ∙ t.live in
      let over = parent_held n w k t.server t.there f t.own t.held apart live in
      let alive = parent_live n w k t.server t.there f t.own t.held apart live in
      let p = t.own.place.parent in
      let same : p ≡ place.parent = ap (λ (q : Place). q.parent) t.is in
      let here : own_at (w.stores s).names p ≡ Some own = ap (own_at (w.stores s).names) same ∙ at in
      let agreed = k.agreed p s there t.server t.there (holds_of n s w p own (k.whole s there) here)
      (holds_of n t.server w p over.0 (k.whole t.server t.there) over.1) in
      let one : own ≡ over.0 = sym (ap (or_blank p) here) ∙ agreed.own ∙ ap (or_blank p) over.1 in
      ap (λ (o : Attributes). o.place.live) one ∙ alive
