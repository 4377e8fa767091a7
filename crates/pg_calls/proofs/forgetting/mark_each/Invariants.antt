use Rattle.std.proofs.Common.{drop}
use Rattle.pg_calls.specs.Forgetting.{mark, marked_each}
use Rattle.pg_cells.proofs.pg_pieces.Each.{Comes}
use Rattle.pg_calls.proofs.forgetting.mark_each.Given as goal

abbrev pub invariant-loop-dir : goal.invariant-loop-dir
invariant-loop-dir l =
    Comes (mark l.id l.place) l.store (drop l.dir-index l.dirs) l.work (marked_each l.initial.store l.id l.place l.dirs l.initial.work)
