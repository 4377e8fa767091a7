use Rattle.std.proofs.Common.{◌≡◌, ◌+◌, ◌++◌, drop}
use Rattle.pg_picture.specs.Sketch.{hanging}
use Rattle.pg_picture.specs.declared.mark.LegEnd.TheVariants.{UnderWay}
use Rattle.pg_picture.proofs.picture.hang_each.Given as goal

abbrev pub invariant-loop-message : goal.invariant-loop-message
invariant-loop-message l = record {
  until : l.until ≡ l.height + l.message-index;
  legs : l.legs ++ hanging UnderWay l.until (drop l.message-index l.bag) ≡ l.fn.legs ++ hanging UnderWay l.height l.bag;
}
