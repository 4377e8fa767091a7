-- What a disk tells: the name whose files the calls speak of, and what was done to all files.
use Rattle.std.specs.Prelude.{ℕ, ◌≡◌, ◌≤◌, ◌<◌, ◌==◌, ◌&&◌, ◌⊎◌, List, [], ◌∷◌, length, take, drop, bytes_eq, if◌then◌else◌, MatchResult, Result}
use Rattle.pg_disk.specs.Disk.{Change, Step, Done, Failing, contents, IsImage}

-- a step of one file of one name
pub record Event : Type 0 where
  pub name : List ℕ
  pub file : ℕ
  pub step : Step

-- the name that was chosen last, and all steps so far, the latest first
pub record Told : Type 0 where
  pub chosen : List ℕ
  pub history : List Event

-- of a disk that does not tell
abbrev pub untold : Told
untold = record { chosen = []; history = [] }

-- the steps of one file of a name
abbrev pub steps_of : List ℕ → ℕ → List Event → List Step
steps_of name file [] = []
steps_of name file (event ∷ earlier) = if bytes_eq event.name name && (event.file == file)
    then event.step ∷ steps_of name file earlier else steps_of name file earlier

-- what a read gives of one file of a name
abbrev pub given_of : List ℕ → ℕ → List Event → List ℕ
given_of name file history = contents (steps_of name file history)

-- of each file of each name a read gives one of the things that a crash may leave
abbrev pub ReadsImages : List Event → Type 0
ReadsImages history = (name : List ℕ) (file : ℕ)
    → IsImage (steps_of name file history) (given_of name file history)

-- the steps of a file of the chosen name
abbrev pub steps : Told → ℕ → List Step
steps told file = steps_of told.chosen file told.history

-- what a read gives of a file of the chosen name
abbrev pub given : Told → ℕ → List ℕ
given told file = contents (steps told file)

-- what a crash now may leave of all files: an image of each, whatever it leaves of the others
abbrev pub IsLeft : List Event → (List ℕ → ℕ → List ℕ) → Type 0
IsLeft history left = (name : List ℕ) (file : ℕ)
    → IsImage (steps_of name file history) (left name file)

-- one step more of a file of the chosen name; no other file or name has a step more
abbrev pub with_step : Told → ℕ → Step → Told
with_step told file step = record {
  chosen = told.chosen;
  history = record { name = told.chosen; file = file; step = step } ∷ told.history;
}

-- A call that changes a file did it. Or it failed: then it may have begun, and what a read gives is
-- told with it.
abbrev pub IsTried : {E : Type 0} → Result Unit E → ℕ → Change → Told → Told → Type 0
IsTried result file change old new = MatchResult result
    (λ _. new ≡ with_step old file (Done change))
    (λ _. (new ≡ old) ⊎ ((left : List ℕ) × (new ≡ with_step old file (Failing change left))))

-- a read of n bytes into a buffer: bytes of the file from an offset on; into a buffer with room
-- none comes only at or behind the end
pub record IsRead (file : List ℕ) (at n : ℕ) (buf : List ℕ) : Type 0 where
  pub bytes : take n buf ≡ take n (drop at file)
  pub within : n ≤ length (drop at file)
  pub end : n ≡ 0 → 0 < length buf → length file ≤ at
