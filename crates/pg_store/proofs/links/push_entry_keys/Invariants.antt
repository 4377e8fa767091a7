use Rattle.std.proofs.Common.{◌≡◌, ◌++◌}
use Rattle.std.specs.Map.{keys_of}
use Rattle.pg_store.specs.Links.{entry_keys}
use Rattle.pg_store.proofs.links.push_entry_keys.Given as goal

abbrev pub invariant-loop-child : goal.invariant-loop-child
invariant-loop-child l = l.keys ++ entry_keys l.child-iterator ≡ l.fn.keys ++ entry_keys (keys_of l.held.entries)
