use Rattle.std.proofs.Common.{◌∙◌, sym}
use Rattle.pg_unacked.proofs.Comings.{gone_unless, stays_unless}
use Rattle.pg_unacked.proofs.replacing.drop_unless.Goals as goal

pub returns-then-not-has_key-clause-own : goal.returns-then-not-has_key-clause-own
returns-then-not-has_key-clause-own c =
    gone_unless c.args.unacked.now c.remove.new.self c.args.file c.args.peer c.args.key c.args.kept.now (sym c.has_key.ensures ∙ c.if-not-has_key.true) c.remove.ensures

pub returns-else-not-has_key-clause-own : goal.returns-else-not-has_key-clause-own
returns-else-not-has_key-clause-own c =
    stays_unless c.args.unacked.now c.args.file c.args.peer c.args.key c.args.kept.now (sym c.has_key.ensures ∙ c.if-not-has_key.false)
