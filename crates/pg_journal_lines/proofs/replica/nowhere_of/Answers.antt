use Rattle.pg_journal_lines.proofs.Held.{nowhere_is}
use Rattle.pg_journal_lines.proofs.replica.nowhere_of.Goals as goal
use Rattle.pg_words.proofs.ListWords.{texts}

pub returns-in_default-clause-none : goal.returns-in_default-clause-none
returns-in_default-clause-none c p h = let t = nowhere_is (texts c.args.words.now) p h in c.in_default.ensures.none t.0 t.1 t.2
