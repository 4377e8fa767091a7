-- The house rules hold what was held.
use Rattle.std.proofs.Common.{◌≡◌, ℕ, List, [], ◌∷◌, length, Option, None, Some, refl, ap, ◌∙◌}
use Rattle.std.specs.List.{filter}
use Rattle.std.specs.Map.{keys_of}
use Rattle.pg_base.specs.declared.id.FileId.{FileId}
use Rattle.pg_register.specs.declared.place.Place.{Place}
use Rattle.pg_names.specs.declared.attributes.Attributes.{Attributes}
use Rattle.pg_names.specs.Names.{NamesValue, own_at, directories, is_dir, with_last, with_own}
use Rattle.pg_names.proofs.Lookups.{update_frame}
use Rattle.pg_house.specs.Work.{State}
use Rattle.pg_house.specs.Passing.{greatest, is_held_back, pass, pass_own, pass_all}
use Rattle.pg_house.specs.Placing.{drawn, live_place, made_at, own_with, placed, repeated}
use Rattle.pg_house.specs.Returning.{return_first, returned, first_returning}
use Rattle.pg_house.specs.Cycles.{break_first, moved, first_moving}
use Rattle.pg_house.specs.House.{house, movable}
use Rattle.pg_house.proofs.AfterPassing.{after_frame}
use Rattle.pg_house.proofs.Repeating.{repeated_keeps}

abbrev pub keys : State → List FileId
keys st = keys_of st.names.held

pub pass_own_keys : (st : State) (ds : List FileId) (f : FileId) (o : Option Attributes) → keys (pass_own st ds f o) ≡ keys st
pass_own_keys st ds f None = refl
pass_own_keys st ds f (Some own) = (after_frame st ds f own (greatest st.names f own ds) (is_held_back st.names.removed f own (greatest st.names f own ds))).keys

pass_all_keys : (st : State) (ds fs : List FileId) → keys (pass_all st ds fs) ≡ keys st
pass_all_keys st ds [] = refl
pass_all_keys st ds (f ∷ fs) = pass_all_keys (pass st ds f) ds fs ∙ pass_own_keys st ds f (own_at st.names f)

-- so the same directories are held
pub pass_dirs : (st : State) (ds : List FileId) (f : FileId) → directories (pass st ds f).names ≡ directories st.names
pass_dirs st ds f = ap (filter is_dir) (pass_own_keys st ds f (own_at st.names f))

pub pass_all_dirs : (st : State) (ds fs : List FileId) → directories (pass_all st ds fs).names ≡ directories st.names
pass_all_dirs st ds fs = ap (filter is_dir) (pass_all_keys st ds fs)

pub made_dirs : (st : State) (f : FileId) (place : Place) → directories (made_at st f place).names ≡ directories st.names
made_dirs st f place = ap (filter is_dir) (update_frame (with_last st.names place.stamp.time) f (with_own (own_with st.names f place))).keys

pub placed_keys : (moment : ℕ) (ds : List FileId) (st : State) (f p : FileId) (name : List ℕ) → keys (placed moment ds st f p name) ≡ keys st
placed_keys moment ds st f p name =
    let place = live_place (drawn moment st.names) p name in
    let made = made_at st f place in
    pass_own_keys made ds f (own_at made.names f) ∙ (update_frame (with_last st.names place.stamp.time) f (with_own (own_with st.names f place))).keys

returned_keys : (moment : ℕ) (ds : List FileId) (st : State) (o : Option FileId) → keys (returned moment ds st o) ≡ keys st
returned_keys moment ds st None = refl
returned_keys moment ds st (Some d) = placed_keys moment ds st d _ _

moved_keys : (moment : ℕ) (ds : List FileId) (st : State) (o : Option FileId) → keys (moved moment ds st o) ≡ keys st
moved_keys moment ds st None = refl
moved_keys moment ds st (Some d) = placed_keys moment ds st d _ _

pub return_dirs : (moment : ℕ) (ds : List FileId) (st : State) → directories (return_first moment ds st).names ≡ directories st.names
return_dirs moment ds st = ap (filter is_dir) (returned_keys moment ds st (first_returning st.names ds))

pub break_dirs : (moment : ℕ) (ds : List FileId) (st : State) → directories (break_first moment ds st).names ≡ directories st.names
break_dirs moment ds st = ap (filter is_dir) (moved_keys moment ds st (first_moving st.names (length ds) None ds))

pub returns_dirs : (moment : ℕ) (ds : List FileId) (n : ℕ) (st : State) → directories (repeated n (return_first moment ds) st).names ≡ directories st.names
returns_dirs moment ds n st = repeated_keeps (λ (t : State). directories t.names ≡ directories st.names) (return_first moment ds) (λ t h. return_dirs moment ds t ∙ h) n st refl

pub rules_keys : (moment : ℕ) (st : State) → keys_of (house moment st).names.held ≡ keys_of st.names.held
rules_keys moment st =
    let ds = directories st.names in
    repeated_keeps (λ (t : State). keys t ≡ keys st) (break_first moment ds) (λ t h. moved_keys moment ds t (first_moving t.names (length ds) None ds) ∙ h) (length ds) _
    (repeated_keeps (λ (t : State). keys t ≡ keys st) (return_first moment ds) (λ t h. returned_keys moment ds t (first_returning t.names ds) ∙ h) (length ds) _ (pass_all_keys st ds (movable st.names)))

-- ---- and whose names they are, and who is removed

module _ (s : NamesValue) where
  abbrev pub IsBy : State → Type 0
  IsBy st = (st.names.server ≡ s.server) × (st.names.removed ≡ s.removed)

  pass_own_by : (st : State) (ds : List FileId) (f : FileId) (o : Option Attributes) → IsBy st → IsBy (pass_own st ds f o)
  pass_own_by st ds f None k = k
  pass_own_by st ds f (Some own) k =
      let frame = after_frame st ds f own (greatest st.names f own ds) (is_held_back st.names.removed f own (greatest st.names f own ds)) in
      (frame.server ∙ k.0, frame.removed ∙ k.1)

  pass_all_by : (st : State) (ds fs : List FileId) → IsBy st → IsBy (pass_all st ds fs)
  pass_all_by st ds [] k = k
  pass_all_by st ds (f ∷ fs) k = pass_all_by (pass st ds f) ds fs (pass_own_by st ds f (own_at st.names f) k)

  placed_by : (moment : ℕ) (ds : List FileId) (st : State) (f p : FileId) (name : List ℕ) → IsBy st → IsBy (placed moment ds st f p name)
  placed_by moment ds st f p name k =
      let place = live_place (drawn moment st.names) p name in
      let made = made_at st f place in
      let frame = update_frame (with_last st.names place.stamp.time) f (with_own (own_with st.names f place)) in
      pass_own_by made ds f (own_at made.names f) (frame.server ∙ k.0, frame.removed ∙ k.1)

  returned_by : (moment : ℕ) (ds : List FileId) (st : State) (o : Option FileId) → IsBy st → IsBy (returned moment ds st o)
  returned_by moment ds st None k = k
  returned_by moment ds st (Some d) k = placed_by moment ds st d _ _ k

  moved_by : (moment : ℕ) (ds : List FileId) (st : State) (o : Option FileId) → IsBy st → IsBy (moved moment ds st o)
  moved_by moment ds st None k = k
  moved_by moment ds st (Some d) k = placed_by moment ds st d _ _ k

pub rules_by : (moment : ℕ) (st : State) → IsBy st.names (house moment st)
rules_by moment st =
    let ds = directories st.names in
    repeated_keeps (IsBy st.names) (break_first moment ds) (λ t h. moved_by st.names moment ds t (first_moving t.names (length ds) None ds) h) (length ds) _
    (repeated_keeps (IsBy st.names) (return_first moment ds) (λ t h. returned_by st.names moment ds t (first_returning t.names ds) h) (length ds) _
    (pass_all_by st.names st ds (movable st.names) (refl, refl)))
