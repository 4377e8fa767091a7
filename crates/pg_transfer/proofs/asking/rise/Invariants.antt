use Rattle.std.proofs.Common.{◌≡◌, drop}
use Rattle.pg_transfer.specs.Asking.{rise, rise_behind}
use Rattle.pg_transfer.proofs.asking.rise.Given as goal

abbrev pub invariant-loop-stamp : goal.invariant-loop-stamp
invariant-loop-stamp l =
    rise_behind l.last (drop l.stamp-index l.rest) ≡ rise l.stamps
