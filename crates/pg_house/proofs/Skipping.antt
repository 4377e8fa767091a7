-- Only the things that have not passed need to pass.
use Rattle.std.proofs.Common.{◌≡◌, Bool, true, false, cond, List, [], ◌∷◌, Option, None, Some, refl, sym, ap, ◌∙◌, subst, inl, inr}
use Rattle.std.specs.List.{filter}
use Rattle.pg_base.specs.declared.id.FileId.{FileId}
use Rattle.pg_base.specs.Id.{is_same_file}
use Rattle.pg_base.proofs.Orders.{is_same_file-true}
use Rattle.pg_names.specs.declared.attributes.Attributes.{Attributes}
use Rattle.pg_names.specs.Names.{own_at}
use Rattle.pg_house.specs.Work.{State}
use Rattle.pg_house.specs.Passing.{greatest, is_held_back, own_taken, pass, pass_own, pass_all, passed}
use Rattle.pg_house.specs.Facts.{HasPassed}
use Rattle.pg_house.proofs.Truths.{bool_cases}
use Rattle.pg_house.proofs.AfterPassing.{after_own, after_other}
use Rattle.pg_house.proofs.Touches.{IsHeld, kept_by}
use Rattle.pg_house.proofs.Passes.{pass_touches}
use Rattle.pg_house.proofs.Idle.{AreHeld, pass_idle}

-- ---- what is held stays held

still_by : (st : State) (ds : List FileId) (f : FileId) (o : Option Attributes) → own_at st.names f ≡ o → (q : FileId) → IsHeld st.names q → IsHeld (pass_own st ds f o).names q
still_by st ds f None h q held = held
still_by st ds f (Some own) h q held =
    let top = greatest st.names f own ds in
    let back = is_held_back st.names.removed f own top in
    elim (bool_cases (is_same_file f q)) [
      | inl same ↦ (own_taken own top back, ap (own_at (passed st ds f own top back).names) (sym (is_same_file-true f q same)) ∙ after_own st ds f own top back h)
      | inr apart ↦ (held.0, after_other st ds f own top back q apart ∙ held.1)
    ]

pass_held : (st : State) (ds : List FileId) (f : FileId) → AreHeld st.names ds → AreHeld (pass st ds f).names ds
pass_held st ds f dirs q among = let d = dirs q among in (still_by st ds f (own_at st.names f) refl q d.0, d.1)

-- ---- so the others may be left out

left_out : (p : FileId → Bool) (st : State) (ds fs : List FileId) (f : FileId) (t : Bool) → p f ≡ t → ((t ≡ false) → pass st ds f ≡ st)
    → (pass_all (pass st ds f) ds (filter p fs) ≡ pass_all (pass st ds f) ds fs) → pass_all st ds (cond t (f ∷ filter p fs) (filter p fs)) ≡ pass_all (pass st ds f) ds fs
left_out p st ds fs f true h idle rest = rest
left_out p st ds fs f false h idle rest = ap (λ (s : State). pass_all s ds (filter p fs)) (sym (idle refl)) ∙ rest

-- another pass leaves what has passed
still_passed : (p : FileId → Bool) (st : State) (ds : List FileId) (f : FileId) → AreHeld st.names ds → ((g : FileId) → p g ≡ false → HasPassed st.names ds g) → (g : FileId) → p g ≡ false → HasPassed (pass st ds f).names ds g
still_passed p st ds f held done g h =
    elim (bool_cases (is_same_file f g)) [
      | inl same ↦
          let idle : pass st ds f ≡ st = pass_idle st ds f held (done f (ap p (is_same_file-true f g same) ∙ h)) in
          subst (λ (u : State). HasPassed u.names ds g) (sym idle) (done g h)
      | inr apart ↦ kept_by f st.names (pass st ds f).names (pass_touches st ds f) ds g apart (done g h)
    ]

pub pass_some : (p : FileId → Bool) (st : State) (ds fs : List FileId) → AreHeld st.names ds → ((g : FileId) → p g ≡ false → HasPassed st.names ds g) → pass_all st ds (filter p fs) ≡ pass_all st ds fs
pass_some p st ds [] held done = refl
pass_some p st ds (f ∷ fs) held done =
    left_out p st ds fs f (p f) refl (λ h. pass_idle st ds f held (done f h))
    (pass_some p (pass st ds f) ds fs (pass_held st ds f held) (still_passed p st ds f held done))
