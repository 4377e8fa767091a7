use Rattle.std.proofs.Common.{◌≡◌, ◌+◌, drop, take}
use Rattle.pg_lookup.specs.Walk.{walk, walk_from}
use Rattle.pg_lookup.proofs.paths.walk.Given as goal

-- what is left of the way leads from what was found to where all of it leads from the root
abbrev pub invariant-loop-index : goal.invariant-loop-index
invariant-loop-index l =
    walk_from l.names l.found (l.index + 1) l.needs_dir (drop l.index (take l.count l.path))
    ≡ walk l.names l.needs_dir (take l.count l.path)
