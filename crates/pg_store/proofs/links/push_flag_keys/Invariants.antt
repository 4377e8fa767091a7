use Rattle.std.proofs.Common.{◌≡◌, ◌++◌, drop}
use Rattle.pg_store.specs.Links.{flag_keys}
use Rattle.pg_store.proofs.links.push_flag_keys.Given as goal

abbrev pub invariant-loop-flag : goal.invariant-loop-flag
invariant-loop-flag l = l.keys ++ flag_keys (drop l.flag-index l.flags) ≡ l.fn.keys ++ flag_keys l.flags
