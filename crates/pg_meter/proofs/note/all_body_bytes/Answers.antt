use Rattle.pg_meter.specs.Note.{body_bytes}
use Rattle.pg_meter.proofs.Steps.{sum_done}
use Rattle.pg_meter.proofs.note.all_body_bytes.Goals as goal

pub returns : goal.returns
returns c =
    sum_done (λ m. body_bytes m.packet.message) c.args.sent.now c.loop-message.message-index c.loop-message.total _ _
    c.loop-message-test.false c.loop-message.invariant.small c.loop-message.invariant.whole
