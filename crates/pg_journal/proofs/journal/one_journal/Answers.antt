use Rattle.pg_journal.proofs.OneJournal.{one_journal}
use Rattle.pg_journal.proofs.journal.one_journal.Goals as goal

pub returns : goal.returns
returns c x y hx hy e = one_journal x y hx hy e
