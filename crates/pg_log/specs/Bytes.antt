-- What the bytes of a log stand for.
use Rattle.std.specs.Prelude.{ℕ, ◌≡◌, ◌≢◌, ◌+◌, ◌≤◌, ◌<◌, ◌⊎◌, List, [], ◌∷◌, ◌++◌, length, take, drop, codes}
use Rattle.std.specs.Int.{to_be_bytes, w32}

-- how a log begins
abbrev pub start : List ℕ
start = codes "pangaea-log-0001"

-- each entry behind an open gate and its length in four bytes, the highest first
abbrev pub blocks : List (List ℕ) → List ℕ
blocks [] = []
blocks (entry ∷ entries) = (1 ∷ to_be_bytes w32 (length entry)) ++ entry ++ blocks entries

-- an entry has at most 65,536 bytes
abbrev pub AllFit : List (List ℕ) → Type 0
AllFit [] = Unit {0}
AllFit (entry ∷ entries) = (length entry ≤ 65536) × AllFit entries

-- a log with these entries, up to the closed gate behind them
abbrev pub front : List (List ℕ) → List ℕ
front entries = start ++ blocks entries

-- entries, a closed gate, and anything behind it
pub record IsTail (bytes : List ℕ) (entries : List (List ℕ)) : Type 0 where
  pub gate : ℕ
  pub rest : List ℕ
  pub spelled : bytes ≡ blocks entries ++ gate ∷ rest
  pub closed : gate ≢ 1
  pub fit : AllFit entries

-- the start and such a tail
pub record IsLog (bytes : List ℕ) (entries : List (List ℕ)) : Type 0 where
  pub tail : List ℕ
  pub spelled : bytes ≡ start ++ tail
  pub is_tail : IsTail tail entries

-- What a file opens to. One of at most 17 bytes is an empty log.
abbrev pub OpensTo : List ℕ → List (List ℕ) → Type 0
OpensTo file entries =
    ((length file ≤ 17) × (entries ≡ [])) ⊎ ((17 < length file) × IsLog file entries)

-- some log of more than 17 bytes, or of a start and a closed gate, begins so
abbrev pub IsLogStart : List ℕ → Type 0
IsLogStart bytes = (more : List ℕ) × (entries : List (List ℕ)) × IsLog (bytes ++ more) entries

-- The file is no log, and this is the place of the first byte that no log continues: the file's
-- length, where only its end is too early.
pub record IsBadAt (file : List ℕ) (place : ℕ) : Type 0 where
  pub long : 17 < length file
  pub within : place ≤ length file
  pub before : IsLogStart (take place file)
  pub byte : place < length file → IsLogStart (take (place + 1) file) → ⊥
  pub no_log : (entries : List (List ℕ)) → IsLog file entries → ⊥

-- some tail begins so
abbrev pub IsTailStart : List ℕ → Type 0
IsTailStart bytes = (more : List ℕ) × (entries : List (List ℕ)) × IsTail (bytes ++ more) entries

-- the same of the bytes at a gate, where the place is counted from there
pub record IsBadTail (bytes : List ℕ) (place : ℕ) : Type 0 where
  pub within : place ≤ length bytes
  pub before : IsTailStart (take place bytes)
  pub byte : place < length bytes → IsTailStart (take (place + 1) bytes) → ⊥
  pub no_tail : (entries : List (List ℕ)) → IsTail bytes entries → ⊥

-- an entry behind an open gate
pub record BeginsWith (bytes entry : List ℕ) : Type 0 where
  pub fits : length entry ≤ 65536
  pub spelled : bytes
      ≡ (1 ∷ to_be_bytes w32 (length entry)) ++ entry ++ drop (5 + length entry) bytes

-- a closed gate
abbrev pub IsAtEnd : List ℕ → Type 0
IsAtEnd bytes = (gate : ℕ) × (rest : List ℕ) × (bytes ≡ gate ∷ rest) × (gate ≢ 1)
