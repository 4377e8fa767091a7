use Rattle.std.proofs.Common.{◌≡◌, ◌++◌, drop}
use Rattle.std.specs.List.{flat_map}
use Rattle.pg_calls.specs.GivingUp.{cells_of}
use Rattle.pg_calls.proofs.giving_up.push_cells.Given as goal

abbrev pub invariant-loop-dir : goal.invariant-loop-dir
invariant-loop-dir l =
    l.slots ++ flat_map (cells_of l.names) (drop l.dir-index l.dirs) ≡ l.fn.slots ++ flat_map (cells_of l.names) l.dirs
