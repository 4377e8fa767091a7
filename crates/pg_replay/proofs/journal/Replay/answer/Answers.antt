use Rattle.pg_replay.proofs.Journals.{settled}
use Rattle.pg_replay.proofs.journal.Replay.answer.Goals as goal

pub returns-in_ok-tell-in-Settle : goal.returns-in_ok-tell-in-Settle
returns-in_ok-tell-in-Settle c =
    rw c.in-Settle.is (settled c.args.self.now c.settle.new.self c.tell.new.self _
    c.in_ok-settle-in-Settle.ensures c.in_ok-tell-in-Settle.ensures)
