use Rattle.std.proofs.Common.{◌≡◌}
use Rattle.pg_replica.specs.Root.{clean_edges}
use Rattle.pg_replica.proofs.root.clean_edges.Given as goal

abbrev pub invariant-loop-k : goal.invariant-loop-k
invariant-loop-k l = l.edges ≡ clean_edges l.server l.k
