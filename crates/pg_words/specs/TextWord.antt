-- Words that are texts as they stand.
use Rattle.std.specs.Prelude.{ℕ, ◌≤◌, ◌<◌, List, All, length}

-- a byte that can be seen, and so no space
pub record IsVisible (byte : ℕ) : Type 0 where
  pub least : 33 ≤ byte
  pub most : byte ≤ 126

-- a byte at least, and each can be seen
pub record IsText (text : List ℕ) : Type 0 where
  pub some : 0 < length text
  pub each : All IsVisible text
