use Rattle.std.proofs.Common.{drop}
use Rattle.pg_patch.specs.Laying.{laid, IsLaid}
use Rattle.pg_patch.proofs.Over.{Over}
use Rattle.pg_patch.proofs.Passing.{Passed}
use Rattle.pg_patch.proofs.composing.laid_over.Given as goal

abbrev pub invariant-loop-part : goal.invariant-loop-part
invariant-loop-part l = record {
  order : IsLaid l.laying l.at;
  over : Over l.a.parts l.b.parts (laid l.laying) (drop l.next l.a.parts) l.limit l.at;
  passed : Passed l.b.parts (drop l.part-index l.b.parts) l.at l.b.least;
}
