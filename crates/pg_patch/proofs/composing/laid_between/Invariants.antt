use Rattle.std.proofs.Common.{◌≤◌, ◌-◌, length, drop, max}
use Rattle.pg_patch.specs.Laying.{laid, IsLaid, Between}
use Rattle.pg_patch.proofs.composing.laid_between.Given as goal

abbrev pub invariant-loop-next : goal.invariant-loop-next
invariant-loop-next l = record {
  low : l.from ≤ l.at;
  high : l.at ≤ max l.from l.until;
  order : IsLaid l.laying l.at;
  between : Between (laid l.fn.laying) (laid l.laying) (drop l.first l.parts) (drop l.next l.parts) l.from l.at;
}

abbrev pub decreases-loop-next : goal.decreases-loop-next
decreases-loop-next l = length l.parts - l.next
