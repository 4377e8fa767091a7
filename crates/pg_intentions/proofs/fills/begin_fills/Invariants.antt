use Rattle.std.specs.Map.{keys_of}
use Rattle.pg_intentions.specs.Fills.{begin_fill, begin_fills}
use Rattle.pg_graph.proofs.pg_pieces.Each.{Comes}
use Rattle.pg_intentions.proofs.fills.begin_fills.Given as goal

abbrev pub invariant-loop-file : goal.invariant-loop-file
invariant-loop-file l =
    Comes begin_fill l.store l.file-iterator l.work (begin_fills l.initial.store (keys_of l.files.entries) l.initial.work)
