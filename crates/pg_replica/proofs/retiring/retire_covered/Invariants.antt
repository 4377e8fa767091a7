use Rattle.std.proofs.Common.{◌≡◌, drop, length}
use Rattle.pg_unacked.specs.Changes.{Redues}
use Rattle.pg_replica.specs.Replica.{covered_heads, keys, without_keys}
use Rattle.pg_replica.proofs.retiring.retire_covered.Given as goal

abbrev pub invariant-loop-head : goal.invariant-loop-head
invariant-loop-head l = record {
  edges : without_keys l.edges (keys (covered_heads (drop l.head-index l.heads) l.version)) ≡ without_keys l.initial.edges (keys (covered_heads l.heads l.version));
  count : length l.edges ≡ length l.initial.edges;
  due : Redues l.initial.unacked l.unacked l.file l.initial.edges l.edges;
}
