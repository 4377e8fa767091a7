use Rattle.std.proofs.Common.{◌+◌, ◌≤◌, drop}
use Rattle.pg_patch.specs.Parts.{AreInOrder}
use Rattle.pg_patch.proofs.ranges.are_in_order.Given as goal

abbrev pub invariant-loop-part : goal.invariant-loop-part
invariant-loop-part l = record {
  within : l.from ≤ l.least + 1;
  there : AreInOrder 0 l.parts l.least → AreInOrder l.from (drop l.part-index l.parts) l.least;
  back : AreInOrder l.from (drop l.part-index l.parts) l.least → AreInOrder 0 l.parts l.least;
}
