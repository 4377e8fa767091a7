use Rattle.pg_disk.proofs.Calls.{contents_more}
use Rattle.pg_disk.proofs.call.replayed.Goals as goal

pub loop-call-preserved : goal.loop-call-preserved
loop-call-preserved c =
    contents_more c.args.calls.now c.call-item.result c.loop-call.call-index c.args.name.now c.args.file c.loop-call.bytes.items c.in_ok-bytes.bytes.items
    c.loop-call-test.true c.call-item.is c.loop-call.invariant c.in_ok-bytes.ensures
