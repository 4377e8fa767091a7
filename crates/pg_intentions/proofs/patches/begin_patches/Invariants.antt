use Rattle.pg_intentions.specs.Patches.{begin_patch, begin_patches}
use Rattle.pg_graph.proofs.pg_pieces.Each.{Comes}
use Rattle.pg_intentions.proofs.patches.begin_patches.Given as goal

abbrev pub invariant-loop-slot : goal.invariant-loop-slot
invariant-loop-slot l = Comes begin_patch l.store l.slot-iterator l.work (begin_patches l.initial.store l.initial.work)
