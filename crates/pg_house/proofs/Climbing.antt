-- Steps up.
use Rattle.std.proofs.Common.{◌≡◌, ℕ, zero, suc, ◌<◌, ◌+◌, ◌-◌, false, refl, ap, ◌∙◌, arith}
use Rattle.pg_base.specs.declared.id.FileId.{FileId}
use Rattle.pg_register.specs.Place.{root}
use Rattle.pg_names.specs.Names.{NamesValue}
use Rattle.pg_house.specs.Placing.{place_at}
use Rattle.pg_house.specs.Cycles.{above, climb, is_inner, later, latest}
use Rattle.pg_house.proofs.Truths.{chosen_false}

-- above the root there is the root
pub climb_root : (s : NamesValue) (n : ℕ) → climb s n root ≡ root
climb_root s zero = refl
climb_root s (suc n) = climb_root s n

pub climb_next : (s : NamesValue) (n i : ℕ) (d : FileId) → i < n → climb s (n - i) d ≡ climb s (n - (i + 1)) (above s d)
climb_next s n i d lt = let e : n - i ≡ suc (n - (i + 1)) = omega arith in ap (λ k. climb s k d) e

-- and above what is no live directory
pub climb_out : (s : NamesValue) (n i : ℕ) (d : FileId) → i < n → is_inner s d ≡ false → climb s (n - i) d ≡ root
climb_out s n i d lt h = climb_next s n i d lt ∙ ap (climb s (n - (i + 1))) (chosen_false (is_inner s d) (place_at s d).parent root h) ∙ climb_root s (n - (i + 1))

pub latest_next : (s : NamesValue) (n i : ℕ) (best d : FileId) → i < n → latest s (n - i) best d ≡ latest s (n - (i + 1)) (later s best d) (above s d)
latest_next s n i best d lt = let e : n - i ≡ suc (n - (i + 1)) = omega arith in ap (λ k. latest s k best d) e
