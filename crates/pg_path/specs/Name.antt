-- Client names: which texts they are.
use Rattle.std.specs.Prelude.{ℕ, ◌≢◌, ◌≤◌, List, length, All}
use Rattle.pg_path.specs.First.{IsFirstWithout}

-- a byte of a component: it can be seen (0x21 to 0x7E) and is no `/`
pub record IsComponentByte (byte : ℕ) : Type 0 where
  pub least : 33 ≤ byte
  pub most : byte ≤ 126
  pub no_slash : byte ≢ 47

-- a byte of a client name: the same, and no `~`
pub record IsNameByte (byte : ℕ) : Type 0 where
  pub least : 33 ≤ byte
  pub most : byte ≤ 126
  pub no_slash : byte ≢ 47
  pub no_tilde : byte ≢ 126

-- 1 to 255 bytes, each one of a client name
pub record IsClientName (text : List ℕ) : Type 0 where
  pub some : 1 ≤ length text
  pub most : length text ≤ 255
  pub each : All IsNameByte text

-- a text of fitting length, and the first byte that no client name has
pub record HasBadByte (text : List ℕ) (index : ℕ) : Type 0 where
  pub most : length text ≤ 255
  pub first : IsFirstWithout IsNameByte text index
