use Rattle.std.proofs.Common.{length, drop}
use Rattle.pg_patch.proofs.Built.{Built}
use Rattle.pg_patch.proofs.Passing.{Passed}
use Rattle.pg_patch.proofs.applying.apply.Given as goal

abbrev pub invariant-loop-part : goal.invariant-loop-part
invariant-loop-part l = record {
  built : Built l.ranges.parts l.kept l.out.items;
  passed : Passed l.ranges.parts (drop l.part-index l.ranges.parts) (length l.out.items) l.ranges.least;
}
