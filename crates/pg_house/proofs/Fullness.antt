-- The house rules leave what is full.
use Rattle.std.proofs.Common.{◌≡◌, ℕ, Bool, List, [], ◌∷◌, length, Option, None, Some, refl, ◌∙◌}
use Rattle.pg_base.specs.declared.id.FileId.{FileId}
use Rattle.pg_register.specs.Place.{root, tilde_name}
use Rattle.pg_names.specs.declared.attributes.Attributes.{Attributes}
use Rattle.pg_names.specs.Names.{directories, is_full, own_at, with_entry, with_last, with_own}
use Rattle.pg_names.specs.Same.{is_same_own}
use Rattle.pg_names.proofs.Holding.{full_kept}
use Rattle.pg_house.specs.Work.{State}
use Rattle.pg_house.specs.Passing.{cell_for, gets, given, greatest, is_held_back, offered, own_taken, pass, pass_own, pass_all, spread, taking, took}
use Rattle.pg_house.specs.Placing.{drawn, live_place, made_at, own_with, place_at, placed}
use Rattle.pg_house.specs.Returning.{first_returning, return_first, returned}
use Rattle.pg_house.specs.Cycles.{break_first, first_moving, moved}
use Rattle.pg_house.specs.House.{house, movable}
use Rattle.pg_house.proofs.Truths.{chosen}
use Rattle.pg_house.proofs.Repeating.{repeated_keeps}

module _ (q : FileId) where
  abbrev pub full : State → Bool
  full st = is_full st.names q

  pub spread_full : (st : State) (f : FileId) (own top : Attributes) (back : Bool) (ds : List FileId) → full (spread st f own top back ds) ≡ full st
  spread_full st f own top back [] = refl
  spread_full st f own top back (d ∷ ds) =
      spread_full (offered st f own top back d) f own top back ds
      ∙ chosen (λ (s : State). full s ≡ full st) (gets st.names f own top back d) (given st f top d) st (full_kept st.names d (with_entry (cell_for f top)) (λ x. refl) q) refl

  taking_full : (st : State) (f : FileId) (own taken : Attributes) → full (taking st f own taken) ≡ full st
  taking_full st f own taken = chosen (λ (s : State). full s ≡ full st) (is_same_own own taken) st (took st f own taken) refl (full_kept st.names f (with_own taken) (λ x. refl) q)

  pass_own_full : (st : State) (ds : List FileId) (f : FileId) (o : Option Attributes) → full (pass_own st ds f o) ≡ full st
  pass_own_full st ds f None = refl
  pass_own_full st ds f (Some own) =
      let top = greatest st.names f own ds in
      let back = is_held_back st.names.removed f own top in
      taking_full (spread st f own top back ds) f own (own_taken own top back) ∙ spread_full st f own top back ds

  pass_all_full : (st : State) (ds fs : List FileId) → full (pass_all st ds fs) ≡ full st
  pass_all_full st ds [] = refl
  pass_all_full st ds (f ∷ fs) = pass_all_full (pass st ds f) ds fs ∙ pass_own_full st ds f (own_at st.names f)

  placed_full : (moment : ℕ) (ds : List FileId) (st : State) (f p : FileId) (name : List ℕ) → full (placed moment ds st f p name) ≡ full st
  placed_full moment ds st f p name =
      let place = live_place (drawn moment st.names) p name in
      let made = made_at st f place in
      pass_own_full made ds f (own_at made.names f) ∙ full_kept (with_last st.names place.stamp.time) f (with_own (own_with st.names f place)) (λ x. refl) q

  returned_full : (moment : ℕ) (ds : List FileId) (st : State) (o : Option FileId) → full (returned moment ds st o) ≡ full st
  returned_full moment ds st None = refl
  returned_full moment ds st (Some d) = placed_full moment ds st d (place_at st.names d).parent (place_at st.names d).name

  moved_full : (moment : ℕ) (ds : List FileId) (st : State) (o : Option FileId) → full (moved moment ds st o) ≡ full st
  moved_full moment ds st None = refl
  moved_full moment ds st (Some d) = placed_full moment ds st d root (tilde_name d)

pub rules_full : (moment : ℕ) (st : State) (q : FileId) → is_full (house moment st).names q ≡ is_full st.names q
rules_full moment st q =
    let ds = directories st.names in
    repeated_keeps (λ (t : State). is_full t.names q ≡ is_full st.names q) (break_first moment ds) (λ t h. moved_full q moment ds t (first_moving t.names (length ds) None ds) ∙ h) (length ds) _
    (repeated_keeps (λ (t : State). is_full t.names q ≡ is_full st.names q) (return_first moment ds) (λ t h. returned_full q moment ds t (first_returning t.names ds) ∙ h) (length ds) _ (pass_all_full q st ds (movable st.names)))
