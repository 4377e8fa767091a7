-- Ways up, step by step.
use Rattle.std.proofs.Common.{◌≡◌, ℕ, zero, suc, ◌<◌, ◌≤◌, ◌+◌, ◌-◌, true, false, if◌then◌else◌, ap, ◌∙◌, arith}
use Rattle.pg_base.specs.declared.id.FileId.{FileId}
use Rattle.pg_names.specs.Names.{NamesValue}
use Rattle.pg_names.specs.Calm.{above, is_inner}
use Rattle.pg_names.specs.Tests.{comes}

one_more : (s : NamesValue) (n i : ℕ) (d : FileId) → i < n → comes s (n - i) d ≡ (if is_inner s d then comes s (n - (i + 1)) (above s d) else true)
one_more s n i d lt = let e : n - i ≡ suc (n - (i + 1)) = omega arith in ap (λ k. comes s k d) e

pub comes_on : (s : NamesValue) (n i : ℕ) (d : FileId) → i < n → is_inner s d ≡ true → comes s (n - i) d ≡ comes s (n - (i + 1)) (above s d)
comes_on s n i d lt h = one_more s n i d lt ∙ ap (λ b. if b then comes s (n - (i + 1)) (above s d) else true) h

pub comes_out : (s : NamesValue) (n i : ℕ) (d : FileId) → i < n → is_inner s d ≡ false → comes s (n - i) d ≡ true
comes_out s n i d lt h = one_more s n i d lt ∙ ap (λ b. if b then comes s (n - (i + 1)) (above s d) else true) h

pub comes_end : (s : NamesValue) (n i : ℕ) (d : FileId) → n ≤ i → comes s (n - i) d ≡ false
comes_end s n i d le = let e : n - i ≡ zero = omega arith in ap (λ k. comes s k d) e
