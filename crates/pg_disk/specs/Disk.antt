-- One file of a disk: what was done to it, what a read gives, and what a crash may leave.
use Rattle.std.specs.Prelude.{ℕ, ◌≡◌, ◌+◌, ◌-◌, ◌≤◌, min, List, [], ◌∷◌, ◌++◌, length, take, drop, replicate}

-- a change of a file: bytes are written from an offset on, it is cut to a length, or it is synced
pub data Change : Type 0 where
  Write : (at : ℕ) (bytes : List ℕ) → Change
  Cut : (longest : ℕ) → Change
  Sync : Change

-- a call that changes a file: it was done, or it failed and this is what a read gives behind it
pub data Step : Type 0 where
  Done : (change : Change) → Step
  Failing : (change : Change) (left : List ℕ) → Step

-- the file with these bytes from an offset on; a gap behind its end is filled with zeros
abbrev pub written : ℕ → List ℕ → List ℕ → List ℕ
written at [] file = file
written at (byte ∷ bytes) file =
    take at file ++ replicate (at - length file) 0 ++ (byte ∷ bytes) ++ drop
    (at + length (byte ∷ bytes)) file

-- the file behind a change
abbrev pub changed : Change → List ℕ → List ℕ
changed (Write at bytes) file = written at bytes file
changed (Cut longest) file = take longest file
changed Sync file = file

-- what a read gives behind these steps, of which the latest stands first; a file begins empty
abbrev pub contents : List Step → List ℕ
contents [] = []
contents (Done change ∷ earlier) = changed change (contents earlier)
contents (Failing change left ∷ earlier) = left

-- What a write that a crash cuts short makes of a file: any bytes in the range and behind the old
-- end, and the same bytes elsewhere.
pub record IsTorn (at : ℕ) (bytes old new : List ℕ) : Type 0 where
  pub before : take (min at (length old)) new ≡ take (min at (length old)) old
  pub behind : drop (at + length bytes) new ≡ drop (at + length bytes) old
  pub no_shorter : length old ≤ length new
  pub no_longer : length new ≤ length (written at bytes old)

-- What a cut that a crash cuts short makes of a file: behind the new length nothing, or any bytes
-- up to any place.
pub record IsCutShort (longest : ℕ) (old new : List ℕ) : Type 0 where
  pub before : take longest new ≡ take longest old
  pub no_shorter : min longest (length old) ≤ length new
  pub no_longer : length new ≤ length old

-- what a crash during a change, or behind it and before the next sync, may make of a file
abbrev pub MayMake : Change → List ℕ → List ℕ → Type 0
MayMake (Write at bytes) old new = IsTorn at bytes old new
MayMake (Cut longest) old new = IsCutShort longest old new
MayMake Sync old new = new ≡ old

-- What a crash may leave of a file behind these steps. Behind a sync that was done it is what a
-- read gives.
abbrev pub IsImage : List Step → List ℕ → Type 0
IsImage [] image = image ≡ []
IsImage (Done Sync ∷ earlier) image = image ≡ contents earlier
IsImage (Done (Write at bytes) ∷ earlier) image = (was : List ℕ) × IsImage earlier was
    × IsTorn at bytes was image
IsImage (Done (Cut longest) ∷ earlier) image = (was : List ℕ) × IsImage earlier was
    × IsCutShort longest was image
IsImage (Failing change left ∷ earlier) image = (was : List ℕ) × IsImage earlier was
    × MayMake change was image

-- a crash leaves just what a read gives
abbrev pub IsSettled : List Step → Type 0
IsSettled steps = (image : List ℕ) → IsImage steps image → image ≡ contents steps
