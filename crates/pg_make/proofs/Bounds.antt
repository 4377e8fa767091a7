-- What is drawn is within its bounds.
use Rattle.std.proofs.Common.{ℕ, ◌<◌, ◌/◌, ◌^◌, arith, lt_of_le_of_lt}
use Rattle.std.specs.Int.{w32, rotate_right, to_be_bytes}
use Rattle.std.specs.List.{AllByRecursion}
use Rattle.std.proofs.Math.Nat.{div-le_self}
use Rattle.std.proofs.lemmas.Nat.{mod_below, or_of_32}
use Rattle.rand_pcg.specs.Lcg.{Lcg}
use Rattle.rand_pcg.specs.Pcg.{pcg32}
use Rattle.pg_make.specs.Draw.{below}

rotated : (n by : ℕ) → n < 2 ^ 32 → rotate_right w32 n by < 2 ^ 32
rotated n by lt =
    or_of_32 _ _ (lt_of_le_of_lt (div-le_self n _) lt) (mod_below _ (2 ^ 32) (omega arith))

pub word_below : (words : Lcg) → (pcg32 words).0 < 2 ^ 32
word_below words = rotated _ _ (mod_below _ (2 ^ 32) (omega arith))

pub below_bound : (bound : ℕ) (words : Lcg) → 0 < bound → (below bound words).0 < bound
below_bound bound words some = mod_below (pcg32 words).0 bound some

pub four_bytes : (n : ℕ) → AllByRecursion (λ b. b < 256) (to_be_bytes w32 n)
four_bytes n = (
  mod_below (n / 256 ^ 3) 256 (omega arith),
  (
    mod_below (n / 256 ^ 2) 256 (omega arith),
    (mod_below (n / 256 ^ 1) 256 (omega arith), (mod_below n 256 (omega arith), tt)),
  ),
)
