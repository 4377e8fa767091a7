use Rattle.std.proofs.Common.{◌≡◌, drop, length}
use Rattle.pg_unacked.specs.Changes.{Redues}
use Rattle.pg_replica.specs.Replica.{keys, without_keys}
use Rattle.pg_replica.proofs.retiring.retire_all.Given as goal

abbrev pub invariant-loop-head : goal.invariant-loop-head
invariant-loop-head l = record {
  edges : without_keys l.edges (keys (drop l.head-index l.heads)) ≡ without_keys l.initial.edges (keys l.heads);
  count : length l.edges ≡ length l.initial.edges;
  due : Redues l.initial.unacked l.unacked l.file l.initial.edges l.edges;
}
