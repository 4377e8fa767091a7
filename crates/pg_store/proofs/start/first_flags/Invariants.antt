use Rattle.std.proofs.Common.{◌≡◌}
use Rattle.pg_store.specs.Start.{first_flags}
use Rattle.pg_store.proofs.start.first_flags.Given as goal

abbrev pub invariant-loop-k : goal.invariant-loop-k
invariant-loop-k l = l.flags ≡ first_flags l.k
