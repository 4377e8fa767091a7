use Rattle.std.proofs.Common.{◌≡◌, ◌++◌, take}
use Rattle.pg_sched.specs.Schedule.{header, lines_text}
use Rattle.pg_sched.proofs.schedule.write.Given as goal

abbrev pub invariant-loop-line : goal.invariant-loop-line
invariant-loop-line l = l.out ≡ l.fn.out ++ (header l.servers ++ lines_text (take l.line-index l.line-items))
