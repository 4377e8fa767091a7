use Rattle.pg_intentions.specs.Confirms.{begin_confirm, begin_confirms}
use Rattle.pg_graph.proofs.pg_pieces.Each.{Comes}
use Rattle.pg_intentions.proofs.confirms.begin_confirms.Given as goal

abbrev pub invariant-loop-slot : goal.invariant-loop-slot
invariant-loop-slot l = Comes begin_confirm l.store l.slot-iterator l.work (begin_confirms l.initial.store l.initial.work)
