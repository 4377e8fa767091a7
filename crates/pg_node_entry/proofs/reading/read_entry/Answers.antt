use Rattle.std.proofs.Common.{arith}
use Rattle.pg_node_entry.proofs.Readings.{given_fits}
use Rattle.pg_node_entry.proofs.reading.read_entry.Goals as goal

pub returns-clause-fits : goal.returns-clause-fits
returns-clause-fits c = given_fits c.args.bytes.now c.read_by_number.result (λ i. omega (arith, c.type_inv.bytes i)) c.read_by_number.ensures
