-- Why a version is not made.
use Rattle.std.proofs.Common.{ℕ, ◌≡◌, ◌≢◌, ◌↔◌, ◌<◌, ◌≤◌, true, false, cond, nat_lt, Option, None, Some, Result, Ok, Err, IfErr, IsErrOf, refl, ap, ◌∙◌, arith}
use Rattle.std.proofs.lemmas.Bool.Decides.{nat_tests}
use Rattle.pg_content.specs.declared.error.WriteError.{WriteError}
use Rattle.pg_content.specs.declared.error.WriteError.TheVariants.{TooLong, ManyActors, OutOfMemory}
use Rattle.pg_content.specs.Content.{actor_limit, body_limit}

is_above : (a b : ℕ) → a < b → nat_lt a b ≡ true
is_above a b h = grind (arith, nat_tests)

not_above : (a b : ℕ) → b ≤ a → nat_lt a b ≡ false
not_above a b h = grind (arith, nat_tests)

-- the reason by the length of the body and the number of actors
abbrev pub reason : ℕ → ℕ → Option WriteError
reason n m = cond (nat_lt body_limit n) (Some TooLong) (cond (nat_lt actor_limit m) (Some ManyActors) None)

module _ {T : Type 0} where
  pub reason_told : (r : Result T WriteError) (n m : ℕ) → IsErrOf r TooLong ↔ (body_limit < n)
      → IsErrOf r ManyActors ↔ ((n ≤ body_limit) × (actor_limit < m)) → IfErr r (λ e. e ≢ OutOfMemory → reason n m ≡ Some e)
  reason_told (Ok x) n m h k = tt
  reason_told (Err TooLong) n m h k = λ other.
      ap (λ b. cond b (Some TooLong) (cond (nat_lt actor_limit m) (Some ManyActors) None)) (is_above body_limit n (h.0 refl))
  reason_told (Err ManyActors) n m h k = λ other.
      ap (λ b. cond b (Some TooLong) (cond (nat_lt actor_limit m) (Some ManyActors) None)) (not_above body_limit n (k.0 refl).0)
      ∙ ap (λ b. cond b (Some ManyActors) None) (is_above actor_limit m (k.0 refl).1)
  reason_told (Err OutOfMemory) n m h k = λ other. absurd (other refl)
