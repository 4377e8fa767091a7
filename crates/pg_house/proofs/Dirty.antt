-- What is not dirty has passed, does not come back, and is not held back.
use Rattle.std.proofs.Common.{◌≡◌, ℕ, Bool, true, false, ◌&&◌, ◌||◌, not, List, length, Option, None, Some, is_some, refl, sym, ap, ◌∙◌, subst, inl}
use Rattle.std.specs.List.{count_by, filter, find, slice_get}
use Rattle.std.specs.List.Sorted.{IsStrictlySortedBy}
use Rattle.std.specs.Map.{keys_of}
use Rattle.std.proofs.lemmas.Bool.{false≢true, and_left, and_right, not-false, or_left, or_parts}
use Rattle.std.proofs.lemmas.List.Kept.{IsStrictlySortedBy-filter}
use Rattle.std.proofs.lemmas.List.Sums.{length-filter}
use Rattle.std.proofs.lemmas.Option.{none-some, same_Some}
use Rattle.pg_base.specs.declared.id.FileId.{FileId}
use Rattle.pg_base.specs.Id.{file_cmp}
use Rattle.pg_base.specs.Stamp.{is_before}
use Rattle.pg_index.specs.Ids.{is_one_of}
use Rattle.pg_names.specs.declared.attributes.Attributes.{Attributes}
use Rattle.pg_names.specs.Names.{InodeValue, NamesValue, cell_at, directories, is_dir, is_held, known, own_at, own_of}
use Rattle.pg_names.specs.Calm.{AreCalm, IsCalm}
use Rattle.pg_names.specs.Calm as calm
use Rattle.pg_entries.specs.declared.entry.Entry.{Entry}
use Rattle.pg_house.specs.Work.{State}
use Rattle.pg_house.specs.Passing.{cell_for, greatest, is_cell, is_held_back, is_update, pass_all}
use Rattle.pg_house.specs.Returning.{first_returning, is_returning, is_returning_held, is_root, return_first}
use Rattle.pg_register.specs.Place.{first_stamp}
use Rattle.pg_entries.specs.Entry.{lists_any}
use Rattle.pg_house.specs.Holding.{held_back, is_back, is_dir_back}
use Rattle.pg_house.specs.House.{house, house_with, is_movable, movable}
use Rattle.pg_house.specs.Placing.{repeated}
use Rattle.pg_house.specs.Cycles.{break_first}
use Rattle.pg_house.specs.Facts.{HasOwnParent, HasPassed, IsPassed, is_among}
use Rattle.pg_house.proofs.Truths.{before_itself}
use Rattle.pg_house.proofs.Flags.{join_same}
use Rattle.pg_house.proofs.Greatest.{AllAre, greatest_same}
use Rattle.pg_house.proofs.Among.{among_keys, among_where, both_tests, first_is, one_of_among, same_members, same_where}
use Rattle.pg_house.proofs.Idle.{AreHeld}
use Rattle.pg_house.proofs.Skipping.{pass_some}
use Rattle.pg_house.proofs.Settling.{dirs_held}

-- ---- what is held

held_is : (o : Option InodeValue) (own : Attributes) → own_of o ≡ Some own → (x : InodeValue) × (o ≡ Some x) × (x.own ≡ own)
held_is None own h = absurd (none-some own h)
held_is (Some x) own h = (x, refl, same_Some x.own own h)

held_some : (o : Option InodeValue) (own : Attributes) → own_of o ≡ Some own → is_some o ≡ true
held_some None own h = absurd (none-some own h)
held_some (Some x) own h = refl

-- a cell is there, in the words of names
cells_are : (o : Option Entry) → calm.is_cell o ≡ is_cell o
cells_are None = refl
cells_are (Some e) = refl

has_cell : (up dir held cell : Bool) → (up && (dir && (held && not cell))) ≡ false → up ≡ true → dir ≡ true → held ≡ true → cell ≡ true
has_cell true true true cell h u d k = not-false cell h
has_cell true true false cell h u d k = absurd (false≢true k)
has_cell true false held cell h u d k = absurd (false≢true d)
has_cell false dir held cell h u d k = absurd (false≢true u)

-- ---- a calm thing

module _ (s : NamesValue) (q : FileId) (x : InodeValue) (held : known s q ≡ Some x) (c : IsCalm s q x) where
  all : AllAre s q x.own
  all = c.cells

  same : (ds : List FileId) → greatest s q x.own ds ≡ x.own
  same ds = greatest_same s q x.own ds (join_same x.own.flags c.by_server) all

  abbrev HasParent : Attributes → Type 0
  HasParent top = (a : Attributes) → is_update top.place ≡ true → own_at s top.place.parent ≡ Some a → is_dir top.place.parent ≡ true → is_cell (cell_at s top.place.parent q) ≡ true

  module _ (apart : is_root q ≡ false) where
    there : HasParent x.own
    there a up h dir =
        sym (cells_are (cell_at s x.own.place.parent q))
        ∙ has_cell (is_update x.own.place) (is_dir x.own.place.parent) (is_held s x.own.place.parent) (calm.is_cell (cell_at s x.own.place.parent q)) (c.settled apart).cell up dir
        (held_some (known s x.own.place.parent) a h)

    -- it has passed
    passed : (ds : List FileId) → IsPassed s ds q x.own
    passed ds =
        let e = sym (same ds) in
        record {
          cells = λ d cell h. all d cell h ∙ ap (cell_for q) e;
          parent = subst HasParent e there;
          flags = ap (λ (a : Attributes). a.flags) e;
          place = inl e;
        }

    own_parent : HasOwnParent s q x.own
    own_parent a live h d = there a (or_left x.own.place.live _ live) h d

  -- it is not held back
  not_back : is_dir_back s q ≡ false
  not_back =
      let own = x.own in
      let by : is_back s (directories s) q (own_at s q) ≡ is_held_back s.removed q own own =
      ap (λ (o : Option InodeValue). is_back s (directories s) q (own_of o)) held ∙ ap (is_held_back s.removed q own) (same (directories s)) in
      and_right (not (is_root q)) _ (by
      ∙ and_right (is_dir q) _ (and_right (not own.place.live) _ (and_left (is_before own.place.stamp own.place.stamp) _ (before_itself own.place.stamp))))

returning_by : (t a b : Bool) → ((t ≡ false) → (a && b) ≡ false) → ((not t && a) && b) ≡ false
returning_by true a b h = refl
returning_by false a b h = h refl

-- it does not come back
not_returning : (s : NamesValue) (q : FileId) (x : InodeValue) → known s q ≡ Some x → IsCalm s q x → is_returning s q ≡ false
not_returning s q x held c =
    ap (λ (o : Option InodeValue). is_returning_held q o) held ∙ returning_by (is_root q) (not x.own.place.live && is_before first_stamp x.own.place.stamp) (lists_any x.entries q) (λ r. (c.settled r).returning)

-- ---- what is not dirty is calm

module _ (s : NamesValue) (ids : List FileId) (sorted : IsStrictlySortedBy file_cmp (keys_of s.held)) (ordered : IsStrictlySortedBy file_cmp ids) (quiet_ones : AreCalm s ids) where
  -- what passes a test that neither calm things pass nor what is not held is dirty
  module _ (p : FileId → Bool) (unheld : (q : FileId) → known s q ≡ None → p q ≡ false) (quiet : (q : FileId) (x : InodeValue) → known s q ≡ Some x → IsCalm s q x → p q ≡ false) where
    dirty_by : (q : FileId) (x : InodeValue) → known s q ≡ Some x → p q ≡ true → (t : Bool) → is_among q ids ≡ t → t ≡ true
    dirty_by q x h passes true e = refl
    dirty_by q x h passes false e = absurd (false≢true (sym (quiet q x h (quiet_ones q x h (one_of_among q ids ∙ e))) ∙ passes))

    agree : (q : FileId) → p q ≡ true → (o : Option InodeValue) → known s q ≡ o → is_among q (keys_of s.held) ≡ is_among q ids
    agree q passes None h = absurd (false≢true (sym (unheld q h) ∙ passes))
    agree q passes (Some x) h = among_keys q s.held ∙ ap is_some h ∙ sym (dirty_by q x h passes (is_among q ids) refl)

    pub of_dirty : filter p (keys_of s.held) ≡ filter p ids
    of_dirty = same_where p (keys_of s.held) ids sorted ordered (λ q passes. agree q passes (known s q) refl)

  -- ---- passing

  passed_at : (ds : List FileId) (q : FileId) → is_root q ≡ false → is_one_of q ids ≡ false → HasPassed s ds q
  passed_at ds q apart out own h =
      let held = held_is (known s q) own h in
      let c = quiet_ones q held.0 held.1 out in
      subst (λ (a : Attributes). (IsPassed s ds q a) × (HasOwnParent s q a)) held.2 (passed s q held.0 held.1 c apart ds, own_parent s q held.0 held.1 c apart)

  abbrev Test : FileId → Bool
  Test q = is_root q || is_one_of q ids

  test_passed : (ds : List FileId) (q : FileId) → Test q ≡ false → HasPassed s ds q
  test_passed ds q h = let both = or_parts (is_root q) (is_one_of q ids) h in passed_at ds q both.0 both.1

  members : (r h a : Bool) → ((not r && h) && a) ≡ ((r || a) && (not r && h))
  members true h a = refl
  members false true true = refl
  members false true false = refl
  members false false true = refl
  members false false false = refl

  files_are : filter (is_movable s) ids ≡ filter Test (movable s)
  files_are =
      let keys = keys_of s.held in
      let other : FileId → Bool = λ q. not (is_root q) in
      same_members (filter (is_movable s) ids) (filter Test (movable s))
      (IsStrictlySortedBy-filter file_cmp (is_movable s) ids ordered)
      (IsStrictlySortedBy-filter file_cmp Test (movable s) (IsStrictlySortedBy-filter file_cmp other keys sorted))
      (λ q.
      among_where (is_movable s) q ids ∙ members (is_root q) (is_held s q) (is_among q ids)
      ∙ ap (λ a. (is_root q || a) && (not (is_root q) && is_held s q)) (sym (one_of_among q ids))
      ∙ ap (λ a. Test q && (not (is_root q) && a)) (sym (among_keys q s.held))
      ∙ sym (ap (λ a. Test q && a) (among_where other q keys))
      ∙ sym (among_where Test q (movable s)))

  -- the dirty things pass, and all have passed
  pub dirty_pass : (files : List FileId) → files ≡ filter (is_movable s) ids → (st : State) → st.names ≡ s
      → pass_all st (directories st.names) files ≡ pass_all st (directories st.names) (movable st.names)
  dirty_pass files are st is =
      let ds = directories s in
      let back : s ≡ st.names = sym is in
      let some = pass_some Test st ds (movable s) (subst (λ (n : NamesValue). AreHeld n ds) back (dirs_held s))
      (λ g h. subst (λ (n : NamesValue). HasPassed n ds g) back (test_passed ds g h)) in
      subst (λ (n : NamesValue). pass_all st (directories n) files ≡ pass_all st (directories n) (movable n)) back
      (ap (pass_all st ds) (are ∙ files_are) ∙ some)

  -- ---- directories, by a test

  module _ (test : FileId → Bool) (unheld : (q : FileId) → known s q ≡ None → test q ≡ false) (quiet : (q : FileId) (x : InodeValue) → known s q ≡ Some x → IsCalm s q x → test q ≡ false) where
    abbrev Both : FileId → Bool
    Both q = is_dir q && test q

    pub both_of_dirty : filter Both ids ≡ filter test (directories s)
    both_of_dirty =
        sym (of_dirty Both (λ q h. and_right (is_dir q) _ (unheld q h)) (λ q x h c. and_right (is_dir q) _ (quiet q x h c)))
        ∙ both_tests is_dir test (keys_of s.held)

    pub dirs_of_dirty : filter test (filter is_dir ids) ≡ filter test (directories s)
    dirs_of_dirty = sym (both_tests is_dir test ids) ∙ both_of_dirty

  -- ---- what comes back

  pub dirty_returns : find (is_returning s) (filter is_dir ids) ≡ first_returning s (directories s)
  dirty_returns =
      first_is (is_returning s) (filter is_dir ids)
      ∙ ap (λ xs. slice_get xs 0) (dirs_of_dirty (is_returning s) (λ q h. ap (is_returning_held q) h) (λ q x h c. not_returning s q x h c))
      ∙ sym (first_is (is_returning s) (directories s))

  -- ---- what is held back

  unheld_back : (q : FileId) → known s q ≡ None → is_dir_back s q ≡ false
  unheld_back q h = and_right (not (is_root q)) _ (ap (λ (o : Option InodeValue). is_back s (directories s) q (own_of o)) h)

  pub dirty_back : filter (is_dir_back s) (filter is_dir ids) ≡ held_back s
  dirty_back = dirs_of_dirty (is_dir_back s) unheld_back (λ q x h c. not_back s q x h c)

  pub dirty_count : count_by (λ q. is_dir q && is_dir_back s q) ids ≡ length (held_back s)
  dirty_count =
      sym (length-filter (λ q. is_dir q && is_dir_back s q) ids)
      ∙ ap length (both_of_dirty (is_dir_back s) unheld_back (λ q x h c. not_back s q x h c))

-- ---- so the rules need no more than the dirty things

pub house_by : (moment : ℕ) (st : State) (fs gs : List FileId) (new : State) → new ≡ house_with moment (directories st.names) fs st
    → pass_all st (directories st.names) gs ≡ pass_all st (directories st.names) (movable st.names) → fs ≡ gs → new ≡ house moment st
house_by moment st fs gs new are all same =
    let ds = directories st.names in
    are
    ∙ ap (λ hs. house_with moment ds hs st) same
    ∙ ap (λ (u : State). repeated (length ds) (break_first moment ds) (repeated (length ds) (return_first moment ds) u)) all
