use Rattle.std.proofs.Common.{◌≡◌, drop}
use Rattle.pg_pieces.specs.Taking.{take_flags_noted}
use Rattle.pg_pieces.proofs.taking.take_flags.Given as goal

abbrev pub invariant-loop-flag : goal.invariant-loop-flag
invariant-loop-flag l =
    take_flags_noted l.store l.file (drop l.flag-index l.flag-items) l.work
    ≡ take_flags_noted l.initial.store l.file l.flags l.initial.work
