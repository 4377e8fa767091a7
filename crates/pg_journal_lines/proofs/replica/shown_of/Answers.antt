use Rattle.std.proofs.Common.{List, ℕ, ◌∷◌, arith, decimal, subst}
use Rattle.pg_base.specs.Id.{spelling}
use Rattle.pg_journal_lines.specs.Reading.{Reads}
use Rattle.pg_journal_lines.specs.declared.verb.Verb.TheVariants.{At}
use Rattle.pg_journal_lines.proofs.Held.{gold_held, some_held}
use Rattle.pg_journal_lines.proofs.replica.shown_of.Goals as goal
use Rattle.pg_words.proofs.ListWords.{texts}

pub returns-in_default-clause-none : goal.returns-in_default-clause-none
returns-in_default-clause-none c p h =
    let P : List (List ℕ) → Type 0 = λ ws. Reads At (decimal c.args.server ∷ spelling c.args.id ∷ ws) p in
    some_held c.args.server c.args.id p (omega arith) (subst P c.in_default.ensures.none h)

pub returns-in_default-read_gold-clause-none : goal.returns-in_default-read_gold-clause-none
returns-in_default-read_gold-clause-none c p h =
    let P : List (List ℕ) → Type 0 = λ ws. Reads At (decimal c.args.server ∷ spelling c.args.id ∷ ws) p in
    gold_held c.args.server c.args.id c.in-Some.word.now (texts c.in-Some.rest.now) p (omega arith) c.in_default-read_gold.ensures.none (subst P c.in-Some.ensures.found h)
