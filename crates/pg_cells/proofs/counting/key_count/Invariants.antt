use Rattle.std.proofs.Common.{◌≡◌, ◌+◌, ◌-◌, ◌^◌, ◌<◌, min}
use Rattle.pg_pieces.specs.pg_store.Store.{replica_at}
use Rattle.pg_cells.specs.Counts.{key_count}
use Rattle.pg_cells.proofs.Counted.{listed_keys}
use Rattle.pg_cells.proofs.counting.key_count.Given as goal

abbrev pub invariant-loop-file : goal.invariant-loop-file
invariant-loop-file l =
    (l.count < 2 ^ 64)
    × (min (l.count + listed_keys (replica_at l.store) l.file-iterator) (2 ^ 64 - 1) ≡ min (key_count l.store) (2 ^ 64 - 1))
