use Rattle.std.proofs.Common.{ap, sym, ◌∙◌, ◌+◌, ◌-◌}
use Rattle.pg_names.specs.Tests.{comes}
use Rattle.pg_names.proofs.Ascending.{comes_on, comes_out}
use Rattle.pg_names.proofs.calm.comes.Goals as goal

pub returns-then-not-is_inner : goal.returns-then-not-is_inner
returns-then-not-is_inner c =
    sym (comes_out c.args.held.now c.args.count c.loop-i.i c.loop-i.at c.loop-i-test.true (sym c.is_inner.ensures ∙ c.if-not-is_inner.true)) ∙ c.loop-i.invariant

pub loop-i-preserved : goal.loop-i-preserved
loop-i-preserved c =
    ap (comes c.args.held.now (c.args.count - (c.loop-i.i + 1))) c.above-at.ensures ∙ sym (comes_on c.args.held.now c.args.count c.loop-i.i c.loop-i.at c.loop-i-test.true (sym c.is_inner.ensures ∙ c.if-not-is_inner.false)) ∙ c.loop-i.invariant
