-- Steps up, from one directory and from the next.
use Rattle.std.proofs.Common.{◌≡◌, ℕ, zero, suc, ◌<◌, ◌+◌, ◌-◌, Bool, true, false, List, [], ◌∷◌, Option, None, Some, refl, sym, ap, ◌∙◌, arith, inl, inr, ◌⊎◌}
use Rattle.std.proofs.lemmas.Bool.{false≢true}
use Rattle.std.proofs.lemmas.Option.{none-some, same_Some}
use Rattle.std.specs.Ordering.{is_lt}
use Rattle.pg_base.specs.declared.id.FileId.{FileId}
use Rattle.pg_base.specs.Id.{is_same_file, file_cmp}
use Rattle.pg_base.specs.Stamp.{is_before}
use Rattle.pg_register.specs.Place.{root}
use Rattle.pg_names.specs.Names.{NamesValue}
use Rattle.pg_house.specs.Placing.{place_at}
use Rattle.pg_house.specs.Cycles.{above, climb, first_moving, is_inner, is_lost, later, latest, latest_member, least, least_moving}
use Rattle.pg_house.proofs.Truths.{chosen, chosen_false, chosen_true, or_cases}
use Rattle.pg_base.proofs.Orders.{is_same_file-true}
use Rattle.pg_house.proofs.Climbing.{climb_root}
use Rattle.pg_house.specs.Facts.{is_among}

pub climb_add : (s : NamesValue) (j k : ℕ) (d : FileId) → climb s (j + k) d ≡ climb s k (climb s j d)
climb_add s zero k d = let e : zero + k ≡ k = omega arith in ap (λ n. climb s n d) e
climb_add s (suc j) k d = let e : suc j + k ≡ suc (j + k) = omega arith in ap (λ n. climb s n d) e ∙ climb_add s j k (above s d)

-- above what is no live directory there is none
pub out_stays : (s : NamesValue) (k : ℕ) (e : FileId) → is_inner s e ≡ false → is_inner s (climb s k e) ≡ false
out_stays s zero e h = h
out_stays s (suc k) e h = ap (λ q. is_inner s (climb s k q)) (chosen_false (is_inner s e) (place_at s e).parent root h) ∙ ap (is_inner s) (climb_root s k)

below_by : (s : NamesValue) (j k : ℕ) (d : FileId) → is_inner s (climb s (j + k) d) ≡ true → (t : Bool) → is_inner s (climb s j d) ≡ t → t ≡ true
below_by s j k d h true e = refl
below_by s j k d h false e = absurd (false≢true (sym (ap (is_inner s) (climb_add s j k d) ∙ out_stays s k (climb s j d) e) ∙ h))

-- so below a live directory there are live ones
pub inner_below : (s : NamesValue) (j k : ℕ) (d : FileId) → is_inner s (climb s (j + k) d) ≡ true → is_inner s (climb s j d) ≡ true
inner_below s j k d h = below_by s j k d h (is_inner s (climb s j d)) refl

pub above_one : (s : NamesValue) (j : ℕ) (d : FileId) → climb s (j + 1) d ≡ above s (climb s j d)
above_one s j d = climb_add s j 1 d

-- what holds of all members holds of the latest
pub latest_has : (Q : FileId → Type 0) (s : NamesValue) (n : ℕ) (best d : FileId) → Q best → ((i : ℕ) → i < n → Q (climb s i d)) → Q (latest s n best d)
latest_has Q s zero best d b h = b
latest_has Q s (suc n) best d b h =
    latest_has Q s n (later s best d) (above s d) (chosen Q (is_before (place_at s best).stamp (place_at s d).stamp) d best (h 0 (omega arith)) b) (λ i lt. h (suc i) (omega arith))

-- a live directory that stands in a live directory
abbrev pub IsDeep : NamesValue → FileId → Type 0
IsDeep s d = (is_inner s d ≡ true) × (is_inner s (above s d) ≡ true)

deep_at : (s : NamesValue) (n i : ℕ) (d : FileId) → i < n → is_lost s n d ≡ true → IsDeep s (climb s i (climb s n d))
deep_at s n i d lt lost =
    let at = climb_add s n i d in
    let one : n + n ≡ (n + i) + (n - i) = omega arith in
    let two : n + n ≡ ((n + i) + 1) + (n - (i + 1)) = omega arith in
    let here = inner_below s (n + i) (n - i) d (ap (λ k. is_inner s (climb s k d)) (sym one) ∙ lost) in
    let next = inner_below s ((n + i) + 1) (n - (i + 1)) d (ap (λ k. is_inner s (climb s k d)) (sym two) ∙ lost) in
    (ap (is_inner s) (sym at) ∙ here, ap (is_inner s) (sym (above_one s (n + i) d ∙ ap (above s) at)) ∙ next)

-- the one that moves is such a one
pub member_deep : (s : NamesValue) (n : ℕ) (d : FileId) → 0 < n → is_lost s n d ≡ true → IsDeep s (latest_member s n d)
member_deep s n d some lost = latest_has (IsDeep s) s n (climb s n d) (climb s n d) (deep_at s n 0 d some lost) (λ i lt. deep_at s n i d lt lost)

-- ---- which one moves

module _ (s : NamesValue) (n : ℕ) where
  abbrev IsMember : FileId → Type 0
  IsMember m = (d : FileId) × (is_lost s n d ≡ true) × (latest_member s n d ≡ m)

  least_of : (first : Option FileId) (f m : FileId) → least first f ≡ Some m → (first ≡ Some m) ⊎ (f ≡ m)
  least_of None f m h = inr (same_Some f m h)
  least_of (Some held) f m h = chosen (λ o. o ≡ Some m → (Some held ≡ Some m) ⊎ (f ≡ m)) (is_lt (file_cmp f held)) (Some f) (Some held) (λ g. inr (same_Some f m g)) (λ g. inl g) h

  one_member : (first : Option FileId) (d m : FileId) → least_moving s n first d ≡ Some m → (t : Bool) → is_lost s n d ≡ t → (first ≡ Some m) ⊎ IsMember m
  one_member first d m h false e = inl (sym (chosen_false (is_lost s n d) (least first (latest_member s n d)) first e) ∙ h)
  one_member first d m h true e =
      elim (least_of first (latest_member s n d) m (sym (chosen_true (is_lost s n d) (least first (latest_member s n d)) first e) ∙ h)) [
        | inl before ↦ inl before
        | inr here ↦ inr (d, e, here)
      ]

  pub moving_member : (first : Option FileId) (ds : List FileId) (m : FileId) → first_moving s n first ds ≡ Some m → (first ≡ Some m) ⊎ IsMember m
  moving_member first [] m h = inl h
  moving_member first (d ∷ ds) m h =
      elim (moving_member (least_moving s n first d) ds m h) [
        | inl here ↦ one_member first d m here (is_lost s n d) refl
        | inr more ↦ inr more
      ]

  -- once one is found there is one
  least_some : (first : Option FileId) (f : FileId) → (m : FileId) × (least first f ≡ Some m)
  least_some None f = (f, refl)
  least_some (Some held) f = chosen (λ o. (m : FileId) × (o ≡ Some m)) (is_lt (file_cmp f held)) (Some f) (Some held) (f, refl) (held, refl)

  some_stays : (first : Option FileId) (d f : FileId) → first ≡ Some f → (m : FileId) × (least_moving s n first d ≡ Some m)
  some_stays first d f h = chosen (λ o. (m : FileId) × (o ≡ Some m)) (is_lost s n d) (least first (latest_member s n d)) first (least_some first (latest_member s n d)) (f, h)

  some_moves : (first : Option FileId) (ds : List FileId) (f : FileId) → first ≡ Some f → (m : FileId) × (first_moving s n first ds ≡ Some m)
  some_moves first [] f h = (f, h)
  some_moves first (d ∷ ds) f h = let next = some_stays first d f h in some_moves (least_moving s n first d) ds next.0 next.1

  lost_moves : (first : Option FileId) (d : FileId) → is_lost s n d ≡ true → (m : FileId) × (least_moving s n first d ≡ Some m)
  lost_moves first d h = let some = least_some first (latest_member s n d) in (some.0, chosen_true (is_lost s n d) (least first (latest_member s n d)) first h ∙ some.1)

  -- so where none moves no directory is lost
  none_lost_by : (first : Option FileId) (d f : FileId) (ds : List FileId) → first_moving s n (least_moving s n first d) ds ≡ None → (t : Bool) → is_lost s n d ≡ t → (is_same_file d f ≡ true) ⊎ (is_among f ds ≡ true) → ((is_among f ds ≡ true) → is_lost s n f ≡ false) → is_lost s n f ≡ false
  none_lost_by first d f ds h true e among rest =
      let one = lost_moves first d e in
      let more = some_moves (least_moving s n first d) ds one.0 one.1 in
      absurd (none-some more.0 (sym h ∙ more.1))
  none_lost_by first d f ds h false e (inl same) rest = ap (is_lost s n) (sym (is_same_file-true d f same)) ∙ e
  none_lost_by first d f ds h false e (inr later) rest = rest later

  pub none_lost : (first : Option FileId) (ds : List FileId) (f : FileId) → first_moving s n first ds ≡ None → is_among f ds ≡ true → is_lost s n f ≡ false
  none_lost first [] f h among = absurd (false≢true among)
  none_lost first (d ∷ ds) f h among =
      none_lost_by first d f ds h (is_lost s n d) refl (or_cases (is_same_file d f) (is_among f ds) among) (λ later. none_lost (least_moving s n first d) ds f h later)

-- ---- a directory in a cycle never comes out

pub comes_back : (s : NamesValue) (k : ℕ) (d : FileId) → climb s (suc k) d ≡ d → (m : ℕ) → (r : ℕ) × (climb s (m + r) d ≡ d)
comes_back s k d h zero = (0, refl)
comes_back s k d h (suc m) =
    let r = comes_back s k d h m in
    let e : suc m + (r.0 + k) ≡ (m + r.0) + suc k = omega arith in
    (r.0 + k, ap (λ n. climb s n d) e ∙ climb_add s (m + r.0) (suc k) d ∙ ap (climb s (suc k)) r.1 ∙ h)

pub cycle_lost : (s : NamesValue) (n k : ℕ) (d : FileId) → is_inner s d ≡ true → climb s (suc k) d ≡ d → is_lost s n d ≡ true
cycle_lost s n k d inner h = let r = comes_back s k d h (n + n) in inner_below s (n + n) r.0 d (ap (is_inner s) r.1 ∙ inner)
