use Rattle.std.proofs.Common.{refl}
use Rattle.pg_names.proofs.Shifting.{shift_other, shift_same}
use Rattle.pg_names.proofs.spots.Spots.shift.Goals as goal

pub returns-then-is_same-clause-ok : goal.returns-then-is_same-clause-ok
returns-then-is_same-clause-ok c =
    shift_same c.args.self.now c.put.new.self c.put.new.self c.args.file c.args.from c.args.to c.in_ok-put.ensures.ok c.is_same.result c.is_same.ensures c.if-is_same.true refl

pub returns-clause-ok : goal.returns-clause-ok
returns-clause-ok c =
    shift_other c.args.self.now c.put.new.self c.cut.new.self c.args.file c.args.from c.args.to c.in_ok-put.ensures.ok c.is_same.result c.is_same.ensures c.if-is_same.false c.cut.ensures
