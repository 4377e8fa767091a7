use Rattle.std.proofs.Common.{drop}
use Rattle.pg_intentions.specs.Seeks.{begin_seek, begin_seeks}
use Rattle.pg_graph.proofs.pg_pieces.Each.{Comes}
use Rattle.pg_intentions.proofs.seeks.begin_seeks.Given as goal

abbrev pub invariant-loop-file : goal.invariant-loop-file
invariant-loop-file l =
    Comes begin_seek l.store (drop l.file-index l.files) l.work (begin_seeks l.initial.store l.files l.initial.work)
