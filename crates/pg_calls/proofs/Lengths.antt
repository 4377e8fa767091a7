-- Changes that are too long for every body.
use Rattle.std.proofs.Common.{◌≡◌, ℕ, ◌+◌, ◌<◌, Bool, true, false, cond, eqb, length, refl, List, [], ◌∷◌, sym, subst, arith}
use Rattle.pg_patch.specs.Ranges.{RangesValue, applied, write_end, written}
use Rattle.pg_patch.proofs.Composed.{length-applied}
use Rattle.pg_content.specs.Content.{body_limit}

-- a result is as long as its `least` at the least
pub long_result : (r : RangesValue) → body_limit < r.least → (body : List ℕ) → body_limit < length (applied body r)
long_result r h body = let P : ℕ → Type 0 = λ n. body_limit < n in subst P (sym (length-applied body r)) (omega arith)

least_by : (offset : ℕ) (bytes : List ℕ) (b : Bool) → cond b 0 (offset + length bytes) ≡ (cond {A = RangesValue} b (record { keep = 4294967295; least = 0; parts = [] }) (record { keep = 4294967295; least = offset + length bytes; parts = record { offset = offset; bytes = bytes } ∷ [] })).least
least_by offset bytes true = refl
least_by offset bytes false = refl

pub long_write : (offset : ℕ) (bytes : List ℕ) → body_limit < write_end offset bytes → (body : List ℕ) → body_limit < length (applied body (written offset bytes))
long_write offset bytes h = let P : ℕ → Type 0 = λ n. body_limit < n in long_result (written offset bytes) (subst P (least_by offset bytes (eqb (length bytes) 0)) h)
