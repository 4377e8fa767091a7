use Rattle.std.proofs.Common.{◌∙◌, ap, cond, sym}
use Rattle.pg_edges.specs.Edges.{taken_off}
use Rattle.pg_unacked.proofs.Redues.{redues_off}
use Rattle.pg_unacked.proofs.changes.acknowledge_due.Goals as goal

pub returns-clause-due : goal.returns-clause-due
returns-clause-due c =
    let es = c.args.edges.now in
    redues_off c.args.file es _ c.args.peer c.args.key c.remove.ensures
    (c.ack.ensures.edges ∙ ap (λ b. cond b (taken_off es c.args.peer c.args.key) es) (sym c.ack.ensures.test ∙ c.if-not-ack.false))
