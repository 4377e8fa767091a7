-- Numbers drawn one after the other. What is drawn goes along with the generator that is left.
use Rattle.std.specs.Prelude.{ℕ, ◌%◌}
use Rattle.rand_pcg.specs.Lcg.{Lcg}
use Rattle.rand_pcg.specs.Pcg.{pcg32}

-- a number below the bound, from the next word
abbrev pub below : ℕ → Lcg → ℕ × Lcg
below bound words = ((pcg32 words).0 % bound, (pcg32 words).1)
