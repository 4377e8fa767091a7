use Rattle.std.proofs.Common.{◌≡◌, take}
use Rattle.pg_log.specs.Bytes.{start}
use Rattle.pg_log.proofs.block.bad_start.Given as goal

abbrev pub invariant-loop-i : goal.invariant-loop-i
invariant-loop-i l = take l.i l.file ≡ take l.i start
