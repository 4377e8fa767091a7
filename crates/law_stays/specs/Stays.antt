-- Who a server is.
use Rattle.std.specs.Prelude.{◌≡◌}
use Rattle.law_frame.specs.pg_run.pg_store.declared.store.Store.{Store}
use Rattle.law_frame.specs.pg_run.pg_store.Seen.{server_of}

-- it has the number that it had, and is one of as many
abbrev pub IsSameServer : (old new : Store) → Type 0
IsSameServer old new =
    (server_of new ≡ server_of old) × (new.servers ≡ old.servers)
