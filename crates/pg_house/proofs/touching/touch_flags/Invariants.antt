use Rattle.std.proofs.Common.{◌≡◌, drop}
use Rattle.pg_house.specs.Passing.{flags_touched}
use Rattle.pg_house.proofs.touching.touch_flags.Given as goal

abbrev pub invariant-loop-flag : goal.invariant-loop-flag
invariant-loop-flag l = flags_touched l.work l.file l.held (drop l.flag-index l.flags) ≡ flags_touched l.initial.work l.file l.held l.flags
