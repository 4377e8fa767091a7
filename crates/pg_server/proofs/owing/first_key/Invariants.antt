use Rattle.std.proofs.Common.{◌≡◌}
use Rattle.std.specs.List.{flat_map, slice_get}
use Rattle.pg_calls.specs.pg_store.Seen.{server_of}
use Rattle.pg_calls.specs.pg_store.Store.{replica_at}
use Rattle.pg_server.specs.Owing.{file_owes, owed_keys}
use Rattle.pg_server.proofs.owing.first_key.Given as goal

abbrev pub invariant-loop-file : goal.invariant-loop-file
invariant-loop-file l =
    slice_get (owed_keys l.store) 0
    ≡ slice_get (flat_map (λ k. file_owes (server_of l.store) k (replica_at l.store k)) l.file-iterator) 0
