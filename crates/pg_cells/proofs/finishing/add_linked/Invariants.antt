use Rattle.std.proofs.Common.{take, List}
use Rattle.pg_pieces.specs.pg_msg.declared.work.Touched.{Touched}
use Rattle.pg_cells.specs.KeyFilter.{ListsLinked, ListsTouched}
use Rattle.pg_cells.proofs.finishing.add_linked.Given as goal

abbrev pub invariant-loop-edge : goal.invariant-loop-edge
invariant-loop-edge l =
    ListsLinked l.files.entries (take l.edge-index l.linked)
    × ((ts : List Touched) → ListsTouched l.initial.files.entries ts → ListsTouched l.files.entries ts)
