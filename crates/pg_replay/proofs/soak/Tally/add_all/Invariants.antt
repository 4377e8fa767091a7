use Rattle.std.proofs.Common.{◌≡◌, drop}
use Rattle.pg_replay.specs.Soaking.{with_marks}
use Rattle.pg_replay.proofs.soak.Tally.add_all.Given as goal

-- what is left makes the whole
abbrev pub invariant-loop-mark : goal.invariant-loop-mark
invariant-loop-mark l = with_marks (drop l.mark-index l.marks) l.self ≡ with_marks l.marks l.fn.self
