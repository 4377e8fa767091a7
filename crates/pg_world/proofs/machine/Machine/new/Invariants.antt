use Rattle.std.proofs.Common.{ℕ, ◌≡◌, ◌<◌, ◌+◌, length}
use Rattle.std.specs.Prelude.{slice_index_or}
use Rattle.pg_server.specs.declared.server.Server.{Server}
use Rattle.pg_store.specs.Store.{new_store}
use Rattle.pg_world.proofs.machine.Machine.new.Given as goal

abbrev pub invariant-loop-k : goal.invariant-loop-k
invariant-loop-k l = record {
  count : length l.all.items ≡ l.k;
  each : (i : ℕ) (d : Server) → i < l.k → (slice_index_or l.all.items i d).store ≡ new_store l.servers (i + 1);
}
