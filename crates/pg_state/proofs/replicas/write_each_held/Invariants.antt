use Rattle.std.proofs.Common.{◌≡◌, ◌++◌}
use Rattle.std.specs.List.{AllByRecursion, flat_map}
use Rattle.pg_state.specs.Fits.{FitsHeld}
use Rattle.pg_state.specs.Spelling.{held_bytes}
use Rattle.pg_state.proofs.replicas.write_each_held.Given as goal

abbrev pub invariant-loop-id : goal.invariant-loop-id
invariant-loop-id l =
    (l.out ++ flat_map (held_bytes l.replicas) l.id-iterator ≡ l.initial.out ++ flat_map (held_bytes l.replicas) l.held.entries)
    × AllByRecursion (FitsHeld l.replicas) l.id-iterator
