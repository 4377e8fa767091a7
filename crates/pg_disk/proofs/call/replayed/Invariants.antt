use Rattle.std.proofs.Common.{◌≡◌, [], take}
use Rattle.pg_disk.specs.Disk.{contents}
use Rattle.pg_disk.specs.Told.{steps_of}
use Rattle.pg_disk.specs.Memory.{with_calls}
use Rattle.pg_disk.proofs.call.replayed.Given as goal

abbrev pub invariant-loop-call : goal.invariant-loop-call
invariant-loop-call l = l.bytes.items ≡ contents (steps_of l.name l.file (with_calls [] (take l.call-index l.calls)))
