-- The other servers of the run.
use Rattle.std.specs.Prelude.{ℕ, ◌==◌, ◌&&◌, Bool, not, nat_le, if◌then◌else◌}
use Rattle.pg_register.specs.Flag.{is_removed}
use Rattle.pg_intent.specs.Target as target
use Rattle.pg_store.specs.declared.store.Store.{Store}
use Rattle.pg_store.specs.Seen.{removed_of, server_of}

-- another server of the run, and not removed in this view
abbrev pub is_live_other : Store → ℕ → Bool
is_live_other store server = nat_le 1 server && (nat_le server store.servers
    && (not (server == server_of store) && not (is_removed (removed_of store) server)))

-- the server that is asked behind this one: the least live other server above it, else the least
-- live other server, else 0
abbrev pub next_target : Store → ℕ → ℕ
next_target store server =
    target.next_target store.servers (server_of store) (removed_of store) server

-- the server that is asked first in an event: the sender of its message, else the next behind this
-- server
abbrev pub first_target : Store → ℕ → ℕ
first_target store from =
    if from == 0 then next_target store (server_of store) else from
