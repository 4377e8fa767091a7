-- A thing that has passed passes again without a change.
use Rattle.std.proofs.Common.{◌≡◌, Bool, true, false, ◌&&◌, not, List, [], ◌∷◌, Option, None, Some, refl, sym, ap, ◌∙◌, subst, inl, inr}
use Rattle.std.proofs.lemmas.Bool.{false≢true, and_right, and_parts, and_left, or_left, or_right}
use Rattle.pg_base.specs.declared.id.FileId.{FileId}
use Rattle.pg_base.specs.Id.{is_same_file}
use Rattle.pg_base.proofs.Orders.{is_same_file-true, is_same_file-refl}
use Rattle.pg_register.specs.declared.flag.Flag.{Flag}
use Rattle.pg_names.specs.declared.attributes.Attributes.{Attributes}
use Rattle.pg_names.specs.Names.{NamesValue, cell_at, is_dir, own_at}
use Rattle.pg_names.specs.Same.{is_same_own}
use Rattle.pg_names.proofs.Alike.{entry-refl, own-refl}
use Rattle.pg_house.specs.Work.{State}
use Rattle.pg_house.specs.Passing.{cell_for, differs, gets, given, greatest, is_cell, is_held_back, is_in, is_update, offered, own_taken, pass, pass_own, passed, spread, taking, took, wants}
use Rattle.pg_house.specs.Facts.{IsPassed, HasOwnParent, HasPassed, is_among}
use Rattle.pg_house.proofs.Truths.{chosen_false, chosen_true, or_cases}
use Rattle.pg_house.proofs.Greatest.{cell_is}
use Rattle.pg_house.proofs.Touches.{IsHeld}

-- ---- what would not change is not written

offered_same : (st : State) (f : FileId) (own top : Attributes) (back : Bool) (d : FileId) → ((wants st.names f own top back d ≡ true) → cell_at st.names d f ≡ Some (cell_for f top)) → (t : Bool) → wants st.names f own top back d ≡ t → offered st f own top back d ≡ st
offered_same st f own top back d all false h = chosen_false (gets st.names f own top back d) (given st f top d) st (and_left (wants st.names f own top back d) _ h)
offered_same st f own top back d all true h =
    let same : differs (cell_at st.names d f) (cell_for f top) ≡ false = ap (λ o. differs o (cell_for f top)) (all h) ∙ ap not (entry-refl (cell_for f top)) in
    chosen_false (gets st.names f own top back d) (given st f top d) st (and_right (wants st.names f own top back d) _ same)

spread_same : (st : State) (f : FileId) (own top : Attributes) (back : Bool) (ds : List FileId) → ((d : FileId) → is_among d ds ≡ true → wants st.names f own top back d ≡ true → cell_at st.names d f ≡ Some (cell_for f top)) → spread st f own top back ds ≡ st
spread_same st f own top back [] all = refl
spread_same st f own top back (d ∷ ds) all =
    ap (λ (s : State). spread s f own top back ds) (offered_same st f own top back d (all d (or_left (is_same_file d d) _ (is_same_file-refl d))) (wants st.names f own top back d) refl)
    ∙ spread_same st f own top back ds (λ q among. all q (or_right (is_same_file d q) _ among))

pub taking_same : (st : State) (f : FileId) (own taken : Attributes) → taken ≡ own → taking st f own taken ≡ st
taking_same st f own taken h = chosen_true (is_same_own own taken) st (took st f own taken) (ap (is_same_own own) h ∙ own-refl own)

-- these are held directories
abbrev pub AreHeld : NamesValue → List FileId → Type 0
AreHeld s ds = (q : FileId) → is_among q ds ≡ true → (IsHeld s q) × (is_dir q ≡ true)

module _ (st : State) (ds : List FileId) (f : FileId) (own : Attributes) (dirs : AreHeld st.names ds) (h : own_at st.names f ≡ Some own) (k : IsPassed st.names ds f own) (p : HasOwnParent st.names f own) where
  abbrev Top : Attributes
  Top = greatest st.names f own ds

  has_top : (q : FileId) → is_cell (cell_at st.names q f) ≡ true → cell_at st.names q f ≡ Some (cell_for f Top)
  has_top q is = let c = cell_is (cell_at st.names q f) is in c.1 ∙ ap Some (k.cells q c.0 c.1)

  pub wanting : (t : Bool) (q : FileId) → is_among q ds ≡ true → wants st.names f own Top t q ≡ true → is_cell (cell_at st.names q f) ≡ true
  wanting t q among w =
      let d = dirs q among in
      let P : FileId → Type 0 = λ r. is_cell (cell_at st.names r f) ≡ true in
      elim (or_cases (is_cell (cell_at st.names q f)) _ w) [
        | inl is ↦ is
        | inr other ↦ elim (or_cases (is_update Top.place && is_in q Top.place) _ other) [
          | inl up ↦
              let u = and_parts (is_update Top.place) _ up in
              let e : Top.place.parent ≡ q = is_same_file-true Top.place.parent q u.1 in
              subst P e (k.parent d.0.0 u.0 (ap (own_at st.names) e ∙ d.0.1) (ap is_dir e ∙ d.1))
          | inr back ↦
              let b = and_parts own.place.live _ (and_parts t _ back).1 in
              let e : own.place.parent ≡ q = is_same_file-true own.place.parent q b.1 in
              subst P e (p d.0.0 b.0 (ap (own_at st.names) e ∙ d.0.1) (ap is_dir e ∙ d.1))
        ]
      ]

  same_own : (t : Bool) → is_held_back st.names.removed f own Top ≡ t → own_taken own Top t ≡ own
  same_own true b = ap (λ (n : List Flag). let c : Attributes = record { place = own.place; flags = n } in c) (sym k.flags)
  same_own false b =
      elim k.place [
        | inl same ↦ sym same
        | inr back ↦ absurd (false≢true (sym b ∙ back))
      ]

  passed_same : (t : Bool) → is_held_back st.names.removed f own Top ≡ t → passed st ds f own Top t ≡ st
  passed_same t b =
      ap (λ (u : State). taking u f own (own_taken own Top t)) (spread_same st f own Top t ds (λ q among w. has_top q (wanting t q among w))) ∙ taking_same st f own (own_taken own Top t) (same_own t b)

pass_own_idle : (st : State) (ds : List FileId) (f : FileId) → AreHeld st.names ds → HasPassed st.names ds f → (o : Option Attributes) → own_at st.names f ≡ o → pass_own st ds f o ≡ st
pass_own_idle st ds f dirs k None h = refl
pass_own_idle st ds f dirs k (Some own) h =
    let both = k own h in
    passed_same st ds f own dirs h both.0 both.1 (is_held_back st.names.removed f own (greatest st.names f own ds)) refl

-- so a thing that has passed need not pass again
pub pass_idle : (st : State) (ds : List FileId) (f : FileId) → AreHeld st.names ds → HasPassed st.names ds f → pass st ds f ≡ st
pass_idle st ds f dirs k = pass_own_idle st ds f dirs k (own_at st.names f) refl
