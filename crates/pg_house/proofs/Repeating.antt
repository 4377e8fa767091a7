-- A step that is taken so many times.
use Rattle.std.proofs.Common.{◌≡◌, ℕ, zero, suc, ◌<◌, ◌+◌, ◌-◌, refl, sym, ap, ◌∙◌, arith, List, length, None}
use Rattle.pg_base.specs.declared.id.FileId.{FileId}
use Rattle.pg_house.specs.Work.{State}
use Rattle.pg_house.specs.Placing.{repeated}
use Rattle.pg_house.specs.Returning.{return_first, returned, first_returning}
use Rattle.pg_house.specs.Cycles.{break_first, moved, first_moving}

pub repeated_next : (step : State → State) (n i : ℕ) (st : State) → i < n → repeated (n - i) step st ≡ repeated (n - (i + 1)) step (step st)
repeated_next step n i st lt = let e : n - i ≡ suc (n - (i + 1)) = omega arith in ap (λ k. repeated k step st) e

-- where it changes nothing it may be taken as often as one likes
pub repeated_still : (step : State → State) (n : ℕ) (st : State) → step st ≡ st → repeated n step st ≡ st
repeated_still step zero st h = refl
repeated_still step (suc n) st h = ap (repeated n step) h ∙ repeated_still step n st h

-- what each step keeps holds in the end
pub repeated_keeps : (P : State → Type 0) (step : State → State) → ((st : State) → P st → P (step st)) → (n : ℕ) (st : State) → P st → P (repeated n step st)
repeated_keeps P step keeps zero st h = h
repeated_keeps P step keeps (suc n) st h = repeated_keeps P step keeps n (step st) (keeps st h)

-- one step of the loop
pub stepped : (step : State → State) (n i : ℕ) (st t end : State) → i < n → t ≡ step st → repeated (n - i) step st ≡ end → repeated (n - (i + 1)) step t ≡ end
stepped step n i st t end lt h k = ap (repeated (n - (i + 1)) step) h ∙ sym (repeated_next step n i st lt) ∙ k

-- and where it ends early
pub ended : (step : State → State) (n i : ℕ) (st t end : State) → i < n → t ≡ step st → step t ≡ t → repeated (n - i) step st ≡ end → t ≡ end
ended step n i st t end lt h still k = sym (repeated_still step (n - (i + 1)) t still) ∙ stepped step n i st t end lt h k

pub none_returns : (moment : ℕ) (ds : List FileId) (st : State) → first_returning st.names ds ≡ None → return_first moment ds st ≡ st
none_returns moment ds st h = ap (returned moment ds st) h

pub none_moves : (moment : ℕ) (ds : List FileId) (st : State) → first_moving st.names (length ds) None ds ≡ None → break_first moment ds st ≡ st
none_moves moment ds st h = ap (moved moment ds st) h
