use Rattle.std.proofs.Common.{◌≡◌, ◌≤◌, ◌-◌, vec_len, drop}
use Rattle.pg_disk.specs.Told.{given}
use Rattle.pg_checkpoint.proofs.Pieces.{IsFirst}
use Rattle.pg_checkpoint.proofs.reading.read_bytes.Given as goal

abbrev pub invariant-loop-piece : goal.invariant-loop-piece
invariant-loop-piece g l = record {
  read : g.D.Disk.tells → IsFirst l.bytes.items (drop l.at (given (g.D.Disk.told l.initial.disk) l.file));
  within : vec_len l.bytes ≤ l.most;
  same : g.D.Disk.tells → g.D.Disk.told l.disk ≡ g.D.Disk.told l.initial.disk;
  later : g.D.Disk.faults l.initial.disk ≤ g.D.Disk.faults l.disk;
}

abbrev pub decreases-loop-piece : goal.decreases-loop-piece
decreases-loop-piece g l = l.most - vec_len l.bytes
