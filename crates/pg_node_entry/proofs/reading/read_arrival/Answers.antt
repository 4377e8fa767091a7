use Rattle.std.proofs.Common.{arith}
use Rattle.pg_node_entry.proofs.Within.{failed_few}
use Rattle.pg_node_entry.proofs.reading.read_arrival.Goals as goal

pub fault_behind_one-requires : goal.fault_behind_one-requires
fault_behind_one-requires c = failed_few c.args.bytes.now c.in-Err.error (λ i. omega (arith, c.type_inv.bytes i)) c.in-Err.ensures.read
