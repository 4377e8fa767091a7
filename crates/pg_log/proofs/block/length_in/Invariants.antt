use Rattle.std.proofs.Common.{◌≡◌, ◌≤◌, length, take, w32}
use Rattle.std.specs.Int.{from_be_bytes}
use Rattle.pg_log.proofs.Lengths.{padded}
use Rattle.pg_log.proofs.block.length_in.Given as goal

abbrev pub invariant-loop-i : goal.invariant-loop-i
invariant-loop-i l = record {
  field_is : l.field ≡ padded (take l.i l.block);
  small : from_be_bytes w32 l.field ≤ 65536;
  within : l.i ≤ length l.block;
}
