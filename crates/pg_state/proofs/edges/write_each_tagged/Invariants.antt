use Rattle.std.proofs.Common.{◌≡◌, ◌++◌, take}
use Rattle.std.specs.List.{flat_map}
use Rattle.pg_state.specs.Spelling.{tagged_bytes}
use Rattle.pg_state.proofs.edges.write_each_tagged.Given as goal

abbrev pub invariant-loop-tagged : goal.invariant-loop-tagged
invariant-loop-tagged l = l.out ≡ l.fn.out ++ flat_map tagged_bytes (take l.tagged-index l.keys)
