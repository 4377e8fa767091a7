use Rattle.std.proofs.Common.{sym}
use Rattle.pg_entries.proofs.Found.{stays_there, stays_nowhere}
use Rattle.pg_entries.proofs.entries.Entries.covers.Goals as goal

pub returns-in-Some-clause-no_change : goal.returns-in-Some-clause-no_change
returns-in-Some-clause-no_change c =
    stays_there c.args.self.now c.args.entry.now c.in-Some.held.now c.covers.result c.count-count.ensures.by_child.rising (sym c.in-Some.ensures) c.covers.ensures.no_change

pub returns-in-None-clause-no_change : goal.returns-in-None-clause-no_change
returns-in-None-clause-no_change c = stays_nowhere c.args.self.now c.args.entry.now (sym c.in-None.ensures)
