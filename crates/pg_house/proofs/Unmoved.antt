-- Names in which all stands where it stood: the same directories stand in cycles.
use Rattle.std.proofs.Common.{◌≡◌, ℕ, zero, suc, ◌+◌, Bool, ◌&&◌, not, false, if◌then◌else◌, List, [], ◌∷◌, Option, None, Some, refl, sym, ap, ◌∙◌}
use Rattle.pg_base.specs.declared.id.FileId.{FileId}
use Rattle.pg_base.specs.Stamp.{is_before}
use Rattle.pg_register.specs.declared.place.Place.{Place}
use Rattle.pg_register.specs.Place.{root, root_place}
use Rattle.pg_names.specs.declared.attributes.Attributes.{Attributes}
use Rattle.pg_names.specs.Names.{NamesValue, is_dir, own_at}
use Rattle.pg_house.specs.Placing.{place_at, place_of}
use Rattle.pg_house.specs.Returning.{is_root}
use Rattle.pg_house.specs.Calm.{held_place}
use Rattle.pg_house.specs.Cycles.{above, climb, first_moving, is_inner, is_live_own, is_lost, later, latest, latest_member, least, least_moving}

-- ---- where a thing stands

abbrev place_in : Option Place → Place
place_in None = root_place
place_in (Some place) = place

abbrev is_live_in : Option Place → Bool
is_live_in None = false
is_live_in (Some place) = place.live

place_is : (o : Option Attributes) → place_of o ≡ place_in (held_place o)
place_is None = refl
place_is (Some own) = refl

live_is : (o : Option Attributes) → is_live_own o ≡ is_live_in (held_place o)
live_is None = refl
live_is (Some own) = refl

same_place : (o p : Option Attributes) → held_place o ≡ held_place p → place_of o ≡ place_of p
same_place o p h = place_is o ∙ ap place_in h ∙ sym (place_is p)

same_live : (o p : Option Attributes) → held_place o ≡ held_place p → is_live_own o ≡ is_live_own p
same_live o p h = live_is o ∙ ap is_live_in h ∙ sym (live_is p)

-- ---- so the steps up are the same

module _ (s t : NamesValue) (same : (q : FileId) → held_place (own_at t q) ≡ held_place (own_at s q)) where
  place_same : (d : FileId) → place_at t d ≡ place_at s d
  place_same d = same_place (own_at t d) (own_at s d) (same d)

  inner_same : (d : FileId) → is_inner t d ≡ is_inner s d
  inner_same d = ap (λ live. is_dir d && (not (is_root d) && live)) (same_live (own_at t d) (own_at s d) (same d))

  above_same : (d : FileId) → above t d ≡ above s d
  above_same d =
      ap (λ b. if b then (place_at t d).parent else root) (inner_same d)
      ∙ ap (λ (p : Place). if is_inner s d then p.parent else root) (place_same d)

  climb_same : (n : ℕ) (d : FileId) → climb t n d ≡ climb s n d
  climb_same zero d = refl
  climb_same (suc n) d = climb_same n (above t d) ∙ ap (climb s n) (above_same d)

  later_same : (a b : FileId) → later t a b ≡ later s a b
  later_same a b =
      ap (λ (p : Place). if is_before p.stamp (place_at t b).stamp then b else a) (place_same a)
      ∙ ap (λ (p : Place). if is_before (place_at s a).stamp p.stamp then b else a) (place_same b)

  latest_same : (n : ℕ) (best d : FileId) → latest t n best d ≡ latest s n best d
  latest_same zero best d = refl
  latest_same (suc n) best d =
      latest_same n (later t best d) (above t d)
      ∙ ap (λ b. latest s n b (above t d)) (later_same best d) ∙ ap (latest s n (later s best d)) (above_same d)

  lost_same : (n : ℕ) (d : FileId) → is_lost t n d ≡ is_lost s n d
  lost_same n d = ap (is_inner t) (climb_same (n + n) d) ∙ inner_same (climb s (n + n) d)

  member_same : (n : ℕ) (d : FileId) → latest_member t n d ≡ latest_member s n d
  member_same n d = ap (λ c. latest t n c c) (climb_same n d) ∙ latest_same n (climb s n d) (climb s n d)

  moving_same : (n : ℕ) (first : Option FileId) (d : FileId) → least_moving t n first d ≡ least_moving s n first d
  moving_same n first d =
      ap (λ b. if b then least first (latest_member t n d) else first) (lost_same n d)
      ∙ ap (λ m. if is_lost s n d then least first m else first) (member_same n d)

  -- and the same one moves
  pub first_same : (n : ℕ) (first : Option FileId) (ds : List FileId) → first_moving t n first ds ≡ first_moving s n first ds
  first_same n first [] = refl
  first_same n first (d ∷ ds) =
      first_same n (least_moving t n first d) ds ∙ ap (λ o. first_moving s n o ds) (moving_same n first d)
