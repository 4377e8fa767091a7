use Rattle.pg_unacked.proofs.Places.{there_again}
use Rattle.pg_unacked.proofs.list.DueList.insert.Goals as goal

pub returns-in-Ok-clause-ok : goal.returns-in-Ok-clause-ok
returns-in-Ok-clause-ok c = λ d. there_again c.args.self.now c.args.due d c.in-Ok.ensures.found.there
