use Rattle.std.proofs.Common.{◌≡◌, ◌-◌}
use Rattle.pg_intent.specs.Target.{first_above, is_live_other}
use Rattle.pg_intent.proofs.target.first_above.Given as goal

abbrev pub invariant-loop-below : goal.invariant-loop-below
invariant-loop-below l = first_above (is_live_other l.server l.removed) l.below (l.servers - l.below) ≡ first_above (is_live_other l.server l.removed) l.fn.number (l.servers - l.fn.number)
