use Rattle.pg_names.proofs.Steps.{settle_step}
use Rattle.pg_names.proofs.names.Names.settle_one.Goals as goal

pub invariant_of-self : goal.invariant_of-self
invariant_of-self c =
    let i = c.self.inside in
    settle_step i.held c.args.file.now i.dirty c.remove.new.self i.dirs c.get.result.now i.spots i.holders c.len.result c.is_calm.result c.is_calm.ensures.calm c.get.ensures c.if-is_calm.true c.is_calm.ensures.by_server
    c.remove.ensures c.self.invariant
