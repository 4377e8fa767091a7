use Rattle.std.proofs.Common.{◌≡◌, ◌+◌, ◌-◌, ◌^◌, ◌≤◌, drop, length, min}
use Rattle.pg_content.specs.Content.{bodies_of}
use Rattle.pg_content.proofs.content.Content.length.Given as goal

abbrev pub invariant-loop-version : goal.invariant-loop-version
invariant-loop-version l = record {
  most : l.length ≤ 2 ^ 64 - 1;
  all : min (l.length + length (bodies_of (drop l.version-index l.version-items))) (2 ^ 64 - 1) ≡ min (length (bodies_of l.version-items)) (2 ^ 64 - 1);
}
