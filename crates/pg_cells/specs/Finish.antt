-- The end of an event.
use Rattle.std.specs.Prelude.{◌++◌}
use Rattle.pg_pieces.specs.pg_msg.declared.work.Work.{Work}
use Rattle.pg_pieces.specs.pg_store.declared.store.Store.{Store}
use Rattle.pg_cells.specs.Sending.{cells_where, is_chosen}

-- each key with a new tag on an edge is sent: what tells of its present cell to that peer, once and
-- under its present tag, but for those that wait
abbrev pub finish : Store → Work → Work
finish store work = record work {
  sent = work.sent ++ cells_where store (is_chosen work.touched work.linked);
}
