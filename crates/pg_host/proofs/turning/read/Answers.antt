use Rattle.std.proofs.Common.{arith}
use Rattle.pg_host.proofs.Readable.{unread}
use Rattle.pg_host.proofs.turning.read.Goals as goal

pub returns-in-OutOfMemory-clause-unread : goal.returns-in-OutOfMemory-clause-unread
returns-in-OutOfMemory-clause-unread c = λ port.
    unread c.entries_read_back.ensures.written c.packets_read_back.ensures.spelled c.entries_are_short.ensures.packet port c.args.bytes.now (λ i. (let b = c.type_inv.bytes i in omega arith))
