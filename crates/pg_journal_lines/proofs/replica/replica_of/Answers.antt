use Rattle.std.proofs.Common.{ap, sym, ◌∙◌}
use Rattle.pg_trace.specs.JournalLine.{contents_words}
use Rattle.pg_journal_lines.proofs.Held.{replica_is}
use Rattle.pg_journal_lines.proofs.replica.replica_of.Goals as goal
use Rattle.pg_words.proofs.ListWords.{texts}
use Rattle.pg_words.proofs.Splitting.{behind}

pub returns-in_default-2-clause-none : goal.returns-in_default-2-clause-none
returns-in_default-2-clause-none c p h =
    let t = replica_is c.args.server c.args.id c.args.gold (texts c.args.words.now) p c.requires h in
    let none = rw c.in_default-2.is at c.in_ok-place.ensures.none in
    none t.1 (contents_words t.2) t.3 (ap behind (sym c.in-Some.ensures.found ∙ t.5))
