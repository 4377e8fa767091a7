use Rattle.std.proofs.Common.{◌≡◌, ◌≤◌, ◌+◌, ◌++◌, drop, filter, length}
use Rattle.pg_picture.specs.Messages.{is_for}
use Rattle.pg_picture.specs.Sketch.{hanging}
use Rattle.pg_picture.specs.declared.mark.LegEnd.TheVariants.{Fallen}
use Rattle.pg_picture.proofs.sketch.fall_each.Given as goal

abbrev pub invariant-loop-message : goal.invariant-loop-message
invariant-loop-message l = record {
  until : l.until ≤ l.height + l.message-index;
  low : l.until + length (filter (is_for l.server) (drop l.message-index l.bag))
      ≡ l.height + length (filter (is_for l.server) l.bag);
  legs : l.legs ++ hanging Fallen l.until (filter (is_for l.server) (drop l.message-index l.bag))
      ≡ l.fn.legs ++ hanging Fallen l.height (filter (is_for l.server) l.bag);
}
