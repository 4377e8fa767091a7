-- Just the live places that the rules replace are noted.
use Rattle.std.proofs.Common.{◌≡◌, ℕ, zero, suc, Bool, true, false, List, [], ◌∷◌, length, Option, None, Some, refl, sym, ap, ◌∙◌, subst, inl, inr, ◌⊎◌}
use Rattle.std.proofs.lemmas.Option.{none-some, same_Some}
use Rattle.pg_base.specs.declared.id.FileId.{FileId}
use Rattle.pg_base.specs.Id.{is_same_file}
use Rattle.pg_base.proofs.Orders.{is_same_file-true}
use Rattle.pg_register.specs.declared.place.Place.{Place}
use Rattle.pg_register.specs.Place.{root, tilde_name}
use Rattle.pg_entries.specs.declared.entry.Entry.{Entry}
use Rattle.pg_edges.specs.declared.key.Key.TheVariants as key
use Rattle.pg_msg.specs.declared.update.Update.{Update}
use Rattle.pg_msg.specs.declared.update.Update.TheVariants as update
use Rattle.pg_msg.specs.declared.work.Slot.{Slot}
use Rattle.pg_msg.specs.declared.work.Work.{Work}
use Rattle.pg_msg.specs.Work.{with_made, with_touched}
use Rattle.pg_names.specs.declared.attributes.Attributes.{Attributes}
use Rattle.pg_names.specs.Names.{NamesValue, cell_at, directories, known, own_at, with_last}
use Rattle.pg_names.proofs.Lookups.{apart_back, own_cell, own_other, own_same}
use Rattle.pg_house.specs.Work.{State, is_root}
use Rattle.pg_house.specs.Passing.{gets, given, greatest, is_held_back, offered, own_taken, pass, pass_own, pass_all, passed, spread}
use Rattle.pg_house.specs.Placing.{drawn, live_place, made_at, own_with, place_at, place_of, placed, repeated}
use Rattle.pg_house.specs.Returning.{first_returning, is_returning, return_first, returned}
use Rattle.pg_house.specs.Cycles.{break_first, first_moving, moved}
use Rattle.pg_house.specs.House.{house, movable}
use Rattle.pg_house.specs.Facts.{IsHeld, IsKeptOrLeft, IsKnownPlace, IsLeft, IsNoted, IsOneOf, IsReplaced}
use Rattle.pg_house.proofs.Truths.{bool_cases, chosen}
use Rattle.pg_house.proofs.Telling.{in_front, in_last, left_stays, spread_tells}
use Rattle.pg_house.proofs.Spreading.{spread_cell, spread_own}
use Rattle.pg_house.proofs.Taking.{taking_cell}
use Rattle.pg_house.proofs.AfterPassing.{after_child, after_other, after_own}
use Rattle.pg_house.proofs.Greatest.{cell_held, greatest_place}
use Rattle.pg_house.proofs.Made.{left_made, spread_made, taking_made}
use Rattle.pg_house.proofs.Counting.{find_found}
use Rattle.pg_house.proofs.AllReturned.{returning_by}
use Rattle.pg_house.proofs.AllClimb.{IsDeep, member_deep, moving_member}
use Rattle.pg_house.proofs.NoCycles.{inner_parts, some_dirs}
use Rattle.pg_house.proofs.Going.{Goes, Goes-refl, Goes-trans, HaveChildren, moved_replaced}
use Rattle.pg_house.proofs.Noting.{IsMoved, Notes, moved_this, noted_live, noted_only, noted_stays, one_front, one_last, slot, taking_notes}

-- ---- a pass

spread_left : (st : State) (f : FileId) (own top : Attributes) (back : Bool) (ds : List FileId) → (spread st f own top back ds).work.left ≡ st.work.left
spread_left st f own top back [] = refl
spread_left st f own top back (d ∷ ds) =
    spread_left (offered st f own top back d) f own top back ds
    ∙ chosen (λ (s : State). s.work.left ≡ st.work.left) (gets st.names f own top back d) (given st f top d) st refl refl

module _ (st : State) (ds : List FileId) (f : FileId) (own : Attributes) (held : own_at st.names f ≡ Some own) (back : Bool) where
  abbrev Top : Attributes
  Top = greatest st.names f own ds

  abbrev Mid : State
  Mid = spread st f own Top back ds

  abbrev Taken : Attributes
  Taken = own_taken own Top back

  abbrev Then : State
  Then = passed st ds f own Top back

  abbrev Known : FileId → Place → Type 0
  Known q p = IsKnownPlace st.names Then.work.made q p

  notes : Notes Mid Then
  notes = taking_notes Mid f own Taken (spread_own st f own Top back ds f ∙ held)

  top_known : Known f Top.place
  top_known = greatest_place (Known f) st.names f (λ d c h. inr (inl (d, c, h, refl))) own ds (inl (own, held, refl))

  taken_known : (t : Bool) → Known f (own_taken own Top t).place
  taken_known true = inl (own, held, refl)
  taken_known false = top_known

  own_known : (q : FileId) (a : Attributes) → own_at Then.names q ≡ Some a → (is_same_file f q ≡ true) ⊎ (is_same_file f q ≡ false) → Known q a.place
  own_known q a h (inr apart) = inl (a, sym (after_other st ds f own Top back q apart) ∙ h, refl)
  own_known q a h (inl same) =
      let is : f ≡ q = is_same_file-true f q same in
      let e : Taken ≡ a = same_Some Taken a (sym (after_own st ds f own Top back held) ∙ ap (own_at Then.names) is ∙ h) in
      subst (λ (x : FileId). Known x a.place) is (subst (λ (x : Attributes). Known f x.place) e (taken_known back))

  cell_here : (d : FileId) (c : Entry) → cell_at Then.names d f ≡ Some c → Known f c.place
  cell_here d c h =
      let there = sym (taking_cell Mid f own Taken d f) ∙ h in
      let dir = cell_held Mid.names d f c there in
      elim (spread_cell st f own Top back ds d dir.0 c (sym (spread_own st f own Top back ds d) ∙ dir.1) there) [
        | inl same ↦ subst (λ (x : Entry). Known f x.place) (sym same) top_known
        | inr old ↦ inr (inl (d, c, old, refl))
      ]

  cell_known : (d q : FileId) (c : Entry) → cell_at Then.names d q ≡ Some c → (is_same_file f q ≡ true) ⊎ (is_same_file f q ≡ false) → Known q c.place
  cell_known d q c h (inr apart) = inr (inl (d, c, sym (after_child st ds f own Top back d q (apart_back f q apart)) ∙ h, refl))
  cell_known d q c h (inl same) =
      let is : f ≡ q = is_same_file-true f q same in
      subst (λ (x : FileId). Known x c.place) is (cell_here d c (ap (cell_at Then.names d) is ∙ h))

  child_here : HaveChildren st.names → (d : FileId) (c : Entry) → cell_at Then.names d f ≡ Some c → c.child ≡ f
  child_here own_child d c h =
      let there = sym (taking_cell Mid f own Taken d f) ∙ h in
      let dir = cell_held Mid.names d f c there in
      elim (spread_cell st f own Top back ds d dir.0 c (sym (spread_own st f own Top back ds d) ∙ dir.1) there) [
        | inl same ↦ ap (λ (x : Entry). x.child) same
        | inr old ↦ own_child d f c old
      ]

  child_kept : HaveChildren st.names → (d q : FileId) (c : Entry) → cell_at Then.names d q ≡ Some c → (is_same_file f q ≡ true) ⊎ (is_same_file f q ≡ false) → c.child ≡ q
  child_kept own_child d q c h (inr apart) = own_child d q c (sym (after_child st ds f own Top back d q (apart_back f q apart)) ∙ h)
  child_kept own_child d q c h (inl same) =
      let is : f ≡ q = is_same_file-true f q same in
      child_here own_child d c (ap (cell_at Then.names d) is ∙ h) ∙ is

  same_made : Then.work.made ≡ st.work.made
  same_made = taking_made Mid f own Taken ∙ spread_made st f own Top back ds

  -- own places are the same before the thing takes its own
  moved_before : (x : Slot) → IsMoved Mid Then x → IsMoved st Then x
  moved_before x m = record { own = m.own; was = sym (spread_own st f own Top back ds x.child) ∙ m.was; live = m.live; parent = m.parent; other = m.other; held = m.held; touched = m.touched }

  passed_only : (x : Slot) → IsOneOf x Then.work.left → IsOneOf x st.work.left ⊎ IsReplaced st Then x
  passed_only x h =
      elim (notes.only x h) [
        | inl was ↦ inl (subst (IsOneOf x) (spread_left st f own Top back ds) was)
        | inr new ↦ inr (moved_replaced st Then x (moved_before x new))
      ]

  passed_goes : Goes st Then
  passed_goes = record {
    noted = record {
      all = λ q a h. notes.all q a (spread_own st f own Top back ds q ∙ h);
      only = passed_only;
      stays = λ x h. notes.stays x (subst (IsOneOf x) (sym (spread_left st f own Top back ds)) h);
    };
    told = λ x h. notes.told x ((spread_tells st f own Top back ds).stays x h);
    made = λ x h. subst (IsOneOf x) (sym same_made) h;
    own = λ q a h. own_known q a h (bool_cases (is_same_file f q));
    cells = λ d q c h. cell_known d q c h (bool_cases (is_same_file f q));
    child = λ own_child d q c h. child_kept own_child d q c h (bool_cases (is_same_file f q));
  }

pass_own_goes : (st : State) (ds : List FileId) (f : FileId) (o : Option Attributes) → own_at st.names f ≡ o → Goes st (pass_own st ds f o)
pass_own_goes st ds f None h = Goes-refl st
pass_own_goes st ds f (Some own) h = passed_goes st ds f own h (is_held_back st.names.removed f own (greatest st.names f own ds))

pass_goes : (st : State) (ds : List FileId) (f : FileId) → Goes st (pass st ds f)
pass_goes st ds f = pass_own_goes st ds f (own_at st.names f) refl

all_goes : (st : State) (ds fs : List FileId) → Goes st (pass_all st ds fs)
all_goes st ds [] = Goes-refl st
all_goes st ds (f ∷ fs) = Goes-trans st (pass st ds f) (pass_all (pass st ds f) ds fs) (pass_goes st ds f) (all_goes (pass st ds f) ds fs)

-- ---- a place is made

module _ (st : State) (f : FileId) (place : Place) (held : IsHeld st.names f) where
  abbrev Made : State
  Made = made_at st f place

  abbrev Late : NamesValue
  Late = with_last st.names place.stamp.time

  abbrev Mine : Attributes
  Mine = own_with st.names f place

  abbrev Before : Work
  Before = with_touched (with_made st.work (update.Place f place)) f key.Place

  abbrev Old : Place
  Old = place_at st.names f

  old_is : Old ≡ held.0.place
  old_is = ap place_of held.1

  made_own : own_at Made.names f ≡ Some Mine
  made_own = own_same Late f held.0 Mine held.1

  made_here : IsKeptOrLeft Made f held.0
  made_here = (
    Mine,
    made_own,
    λ other live. inr (subst (λ (p : Place). IsLeft Made.work p.parent f) old_is (noted_live Before f Old other (ap (λ (p : Place). p.live) old_is ∙ live))),
  )

  made_all : (q : FileId) (a : Attributes) → own_at st.names q ≡ Some a → (is_same_file f q ≡ true) ⊎ (is_same_file f q ≡ false) → IsKeptOrLeft Made q a
  made_all q a g (inr apart) = (a, own_other Late f Mine q apart ∙ g, λ other live. inl refl)
  made_all q a g (inl same) =
      let is : f ≡ q = is_same_file-true f q same in
      let one : held.0 ≡ a = same_Some held.0 a (sym held.1 ∙ ap (own_at st.names) is ∙ g) in
      subst (λ (x : FileId). IsKeptOrLeft Made x a) is (subst (IsKeptOrLeft Made f) one made_here)

  made_only : (x : Slot) → IsOneOf x Made.work.left → IsOneOf x st.work.left ⊎ IsReplaced st Made x
  made_only x g =
      elim (noted_only Before f Old x g) [
        | inl was ↦ inl was
        | inr this ↦
            let P : Place → Type 0 = λ p. (slot p.parent f ≡ x) × (p.live ≡ true) × (is_root f ≡ false) in
            inr (moved_replaced st Made x
            (moved_this st Made f held.0 held.1 (Mine, made_own) (left_stays Before f Old _ (in_last (record { file = f; key = key.Place }) st.work.touched)) x (subst P old_is this)))
      ]

  abbrev Since : FileId → Place → Type 0
  Since q p = IsKnownPlace st.names Made.work.made q p

  new_made : IsOneOf (update.Place f place) Made.work.made
  new_made = subst (IsOneOf (update.Place f place)) (sym (left_made Before f Old)) (one_last (update.Place f place) st.work.made)

  made_own_known : (q : FileId) (a : Attributes) → own_at Made.names q ≡ Some a → (is_same_file f q ≡ true) ⊎ (is_same_file f q ≡ false) → Since q a.place
  made_own_known q a h (inr apart) = inl (a, sym (own_other Late f Mine q apart) ∙ h, refl)
  made_own_known q a h (inl same) =
      let is : f ≡ q = is_same_file-true f q same in
      let e : Mine ≡ a = same_Some Mine a (sym made_own ∙ ap (own_at Made.names) is ∙ h) in
      subst (λ (x : FileId). Since x a.place) is (subst (λ (x : Attributes). Since f x.place) e (inr (inr new_made)))

  made_goes : Goes st Made
  made_goes = record {
    noted = record { all = λ q a g. made_all q a g (bool_cases (is_same_file f q)); only = made_only; stays = λ x g. noted_stays Before f Old x g };
    told = λ x i. left_stays Before f Old x (in_front x st.work.touched _ i);
    made = λ x h. subst (IsOneOf x) (sym (left_made Before f Old)) (one_front x st.work.made _ h);
    own = λ q a h. made_own_known q a h (bool_cases (is_same_file f q));
    cells = λ d q c h. inr (inl (d, c, sym (own_cell Late f Mine d q) ∙ h, refl));
    child = λ own_child d q c h. own_child d q c (sym (own_cell Late f Mine d q) ∙ h);
  }

placed_goes : (moment : ℕ) (ds : List FileId) (st : State) (f p : FileId) (name : List ℕ) → IsHeld st.names f → Goes st (placed moment ds st f p name)
placed_goes moment ds st f p name held =
    let place = live_place (drawn moment st.names) p name in
    let made = made_at st f place in
    Goes-trans st made (pass made ds f) (made_goes st f place held) (pass_goes made ds f)

-- ---- a directory comes back, and one moves

returned_goes : (moment : ℕ) (ds : List FileId) (st : State) (o : Option FileId) → first_returning st.names ds ≡ o → Goes st (returned moment ds st o)
returned_goes moment ds st None h = Goes-refl st
returned_goes moment ds st (Some d) h =
    let found = find_found (is_returning st.names) ds d h in
    placed_goes moment ds st d (place_at st.names d).parent (place_at st.names d).name (returning_by st.names d (known st.names d) refl found.0).held

moved_goes : (moment : ℕ) (ds : List FileId) (st : State) (o : Option FileId) → first_moving st.names (length ds) None ds ≡ o → Goes st (moved moment ds st o)
moved_goes moment ds st None h = Goes-refl st
moved_goes moment ds st (Some d) h =
    elim (moving_member st.names (length ds) None ds d h) [
      | inl never ↦ absurd (none-some d never)
      | inr m ↦
          let deep : IsDeep st.names d = subst (IsDeep st.names) m.2 (member_deep st.names (length ds) m.0 (some_dirs moment ds st.names (length ds) ds d h) m.1) in
          placed_goes moment ds st d root (tilde_name d) (inner_parts st.names d deep.0).held
    ]

repeated_goes : (step : State → State) → ((st : State) → Goes st (step st)) → (n : ℕ) (st : State) → Goes st (repeated n step st)
repeated_goes step each zero st = Goes-refl st
repeated_goes step each (suc n) st = Goes-trans st (step st) (repeated n step (step st)) (each st) (repeated_goes step each n (step st))

-- ---- to the end

house_goes : (moment : ℕ) (st : State) → Goes st (house moment st)
house_goes moment st =
    let ds = directories st.names in
    let one = pass_all st ds (movable st.names) in
    let two = repeated (length ds) (return_first moment ds) one in
    Goes-trans st one (house moment st) (all_goes st ds (movable st.names))
    (Goes-trans one two (house moment st) (repeated_goes (return_first moment ds) (λ t. returned_goes moment ds t (first_returning t.names ds) refl) (length ds) one)
    (repeated_goes (break_first moment ds) (λ t. moved_goes moment ds t (first_moving t.names (length ds) None ds) refl) (length ds) two))

pub noted : (moment : ℕ) (st : State) → IsNoted st (house moment st)
noted moment st = (house_goes moment st).noted

-- the places that are known then were known, or were made
pub own_places : (moment : ℕ) (st : State) (q : FileId) (a : Attributes) → own_at (house moment st).names q ≡ Some a → IsKnownPlace st.names (house moment st).work.made q a.place
own_places moment st q a h = (house_goes moment st).own q a h

pub cell_places : (moment : ℕ) (st : State) (d q : FileId) (c : Entry) → cell_at (house moment st).names d q ≡ Some c → IsKnownPlace st.names (house moment st).work.made q c.place
cell_places moment st d q c h = (house_goes moment st).cells d q c h

pub cell_children : (moment : ℕ) (st : State) → HaveChildren st.names → HaveChildren (house moment st).names
cell_children moment st h = (house_goes moment st).child h

-- and what was made before is there
pub made_stays : (moment : ℕ) (st : State) (x : Update) → IsOneOf x st.work.made → IsOneOf x (house moment st).work.made
made_stays moment st x h = (house_goes moment st).made x h
