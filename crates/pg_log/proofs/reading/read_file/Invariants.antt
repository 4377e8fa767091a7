use Rattle.std.proofs.Common.{◌≡◌, ◌≤◌, ◌-◌, ◌^◌, vec_len}
use Rattle.pg_disk.specs.Told.{given}
use Rattle.pg_log.proofs.Pieces.{IsFirst}
use Rattle.pg_log.proofs.reading.read_file.Given as goal

abbrev pub invariant-loop-piece : goal.invariant-loop-piece
invariant-loop-piece g l = record {
  read : g.D.Disk.tells → IsFirst l.bytes.items (given (g.D.Disk.told l.initial.disk) 0);
  same : g.D.Disk.tells → g.D.Disk.told l.disk ≡ g.D.Disk.told l.initial.disk;
  later : g.D.Disk.faults l.initial.disk ≤ g.D.Disk.faults l.disk;
}

abbrev pub decreases-loop-piece : goal.decreases-loop-piece
decreases-loop-piece g l = 2 ^ 63 - vec_len l.bytes
