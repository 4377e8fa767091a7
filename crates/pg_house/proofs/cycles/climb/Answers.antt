use Rattle.std.proofs.Common.{ap, sym, ◌∙◌, ◌+◌, ◌-◌}
use Rattle.pg_house.specs.Cycles.{climb}
use Rattle.pg_house.proofs.Climbing.{climb_next, climb_out}
use Rattle.pg_house.proofs.cycles.climb.Goals as goal

pub returns-then-not-is_inner : goal.returns-then-not-is_inner
returns-then-not-is_inner c =
    c.root.ensures ∙ sym (climb_out c.args.names.now c.args.steps c.loop-i.i c.loop-i.at c.loop-i-test.true (sym c.is_inner.ensures ∙ c.if-not-is_inner.true)) ∙ c.loop-i.invariant

pub loop-i-preserved : goal.loop-i-preserved
loop-i-preserved c =
    ap (climb c.args.names.now (c.args.steps - (c.loop-i.i + 1))) c.above-at.ensures ∙ sym (climb_next c.args.names.now c.args.steps c.loop-i.i c.loop-i.at c.loop-i-test.true) ∙ c.loop-i.invariant
