use Rattle.std.proofs.Common.{◌≡◌}
use Rattle.pg_names.proofs.names.Names.settle.Given as goal

abbrev pub invariant-loop-file : goal.invariant-loop-file
invariant-loop-file l = l.self ≡ l.fn.self
