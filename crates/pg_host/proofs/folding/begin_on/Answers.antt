use Rattle.pg_host.proofs.Starts.{on_fits, on_none, on_some, on_usable}
use Rattle.pg_host.proofs.folding.begin_on.Goals as goal

pub overflow_sub-result : goal.overflow_sub-result
overflow_sub-result c = (on_usable c.args.checkpoint c.in-Some.checkpoint c.in-Some.is c.requires.usable).1

pub returns-in-Ok-clause-on : goal.returns-in-Ok-clause-on
returns-in-Ok-clause-on c = on_none c.args.server c.args.servers c.args.checkpoint c.in-Ok.node.store c.in-None.is c.in-Ok.ensures.store

pub returns-in-Ok-clause-going : goal.returns-in-Ok-clause-going
returns-in-Ok-clause-going c = c.in-Ok.ensures.going

pub returns-in-Ok-clause-fits : goal.returns-in-Ok-clause-fits
returns-in-Ok-clause-fits c = c.in-Ok.ensures.fits

pub returns-in-Some-clause-on : goal.returns-in-Some-clause-on
returns-in-Some-clause-on c = on_some c.args.server c.args.servers c.args.checkpoint c.in-Some.checkpoint c.from_store.result.store c.in-Some.is c.from_store.ensures.store

pub returns-in-Some-clause-going : goal.returns-in-Some-clause-going
returns-in-Some-clause-going c = c.from_store.ensures.going

pub returns-in-Some-clause-fits : goal.returns-in-Some-clause-fits
returns-in-Some-clause-fits c = on_fits c.args.checkpoint c.in-Some.checkpoint c.from_store.result.store c.in-Some.is c.requires.usable c.from_store.ensures.store
