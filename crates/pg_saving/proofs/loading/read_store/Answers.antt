use Rattle.std.proofs.Common.{arith}
use Rattle.pg_saving.proofs.loading.read_store.Goals as goal

pub returns-in-Ok-clause-fits : goal.returns-in-Ok-clause-fits
returns-in-Ok-clause-fits c = (c.states_are_spelled.ensures c.args.bytes.now c.in-Ok.store (λ i. omega (arith, c.type_inv.bytes i)) c.in-Ok.ensures).0
