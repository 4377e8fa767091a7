-- A tick.
use Rattle.std.specs.Prelude.{◌++◌}
use Rattle.pg_pieces.specs.pg_msg.declared.work.Work.{Work}
use Rattle.pg_pieces.specs.pg_store.declared.store.Store.{Store}
use Rattle.pg_cells.specs.Sending.{cells_where, is_any}

-- what tells of the cell of each unacknowledged key is sent again, but for those that wait
abbrev pub tick : Store → Work → Work
tick store work = record work { sent = work.sent ++ cells_where store is_any }
