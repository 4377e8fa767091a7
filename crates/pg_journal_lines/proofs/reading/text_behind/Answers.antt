use Rattle.std.proofs.Common.{◌≡◌, ◌≢◌, ◌++◌, ℕ, List, Bor, Option, Some, None, IfSome, IfNone, MatchOption}
use Rattle.std.proofs.lemmas.Bool.Decides.{Decides-eqb}
use Rattle.std.proofs.lemmas.Slice.Eq.{strip_prefix_is}
use Rattle.pg_journal_lines.proofs.reading.text_behind.Goals as goal

found : (s p : List ℕ) (r : Option (Bor (List ℕ))) → MatchOption r ((rest : List ℕ) → s ≢ p ++ rest) (λ x. s ≡ p ++ x.now) → IfSome r (λ x. s ≡ p ++ x.now)
found s p None m = tt
found s p (Some x) m = m

none : (s p : List ℕ) (r : Option (Bor (List ℕ))) → MatchOption r ((rest : List ℕ) → s ≢ p ++ rest) (λ x. s ≡ p ++ x.now) → IfNone r ((rest : List ℕ) → s ≡ p ++ rest → ⊥)
none s p None m = m
none s p (Some x) m = tt

pub returns-clause-found : goal.returns-clause-found
returns-clause-found c = found c.args.text.now c.args.prefix.now c.strip_prefix.result (strip_prefix_is Decides-eqb c.args.text.now c.args.prefix.now c.strip_prefix.result c.strip_prefix.ensures.cases)

pub returns-clause-none : goal.returns-clause-none
returns-clause-none c = none c.args.text.now c.args.prefix.now c.strip_prefix.result (strip_prefix_is Decides-eqb c.args.text.now c.args.prefix.now c.strip_prefix.result c.strip_prefix.ensures.cases)
