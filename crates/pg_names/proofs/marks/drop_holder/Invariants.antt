use Rattle.std.specs.Map.{keys_of}
use Rattle.pg_names.proofs.Marking.{Drops}
use Rattle.pg_names.proofs.marks.drop_holder.Given as goal

abbrev pub invariant-loop-child : goal.invariant-loop-child
invariant-loop-child l = Drops l.dir l.initial.holders l.holders (keys_of l.entries) l.child-iterator
