-- What an opening answers where the entries could not be read.
use Rattle.std.proofs.Common.{◌≡◌, ◌⊎◌, inl, inr, ℕ, List, ◌∙◌, ap}
use Rattle.pg_log.specs.Bytes.{OpensTo, IsBadAt}
use Rattle.pg_log.specs.declared.error.LogError.{LogError}
use Rattle.pg_log.specs.declared.error.LogError.TheVariants.{OutOfMemory, DiskFault, BadLog}
use Rattle.pg_log.proofs.Unique.{one_place, never_both}

-- why entries are not read
abbrev pub Cause : List ℕ → LogError → Type 0
Cause file error = (error ≡ OutOfMemory) ⊎ ((place : ℕ) × (error ≡ BadLog place) × IsBadAt file place)

pub opens_refused : (file : List ℕ) (entries : List (List ℕ)) (error : LogError) → Cause file error → OpensTo file entries → (error ≡ OutOfMemory) ⊎ (error ≡ DiskFault)
opens_refused file entries error (inl memory) opens = inl memory
opens_refused file entries error (inr bad) opens = absurd (never_both file entries bad.0 opens bad.2)

pub bad_refused : (file : List ℕ) (place : ℕ) (error : LogError) → Cause file error → IsBadAt file place → (error ≡ BadLog place) ⊎ ((error ≡ OutOfMemory) ⊎ (error ≡ DiskFault))
bad_refused file place error (inl memory) bad = inr (inl memory)
bad_refused file place error (inr found) bad = inl (found.1 ∙ ap BadLog (one_place file found.0 place found.2 bad))
