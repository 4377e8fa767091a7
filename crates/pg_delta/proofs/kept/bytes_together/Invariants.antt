use Rattle.std.proofs.Common.{◌≡◌, ◌+◌, ◌-◌, ◌^◌, ◌≤◌, min, drop}
use Rattle.pg_delta.specs.Kept.{bytes_together}
use Rattle.pg_delta.proofs.kept.bytes_together.Given as goal

abbrev pub invariant-loop-delta : goal.invariant-loop-delta
invariant-loop-delta l = record {
  most : l.bytes ≤ 2 ^ 64 - 1;
  all : min (l.bytes + bytes_together (drop l.delta-index l.deltas)) (2 ^ 64 - 1) ≡ min (bytes_together l.deltas) (2 ^ 64 - 1);
}
