-- Bytes of which some were read.
use Rattle.std.specs.Prelude.{ℕ, List}

-- what is not read yet, and the place in all bytes at which that begins
pub record Unread : Type 0 where
  pub place : ℕ
  pub rest : List ℕ
