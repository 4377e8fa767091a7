use Rattle.std.proofs.Common.{◌≡◌, ◌++◌}
use Rattle.pg_make.proofs.making.schedule.Given as goal
use Rattle.pg_make.specs.Made.{first_words, first_lines}
use Rattle.pg_sched.specs.Schedule.{header, lines_text}

abbrev pub invariant-loop-event : goal.invariant-loop-event
invariant-loop-event l = record {
  text : l.out ≡ l.fn.out ++ (header l.servers ++ lines_text (first_lines l.servers l.event (first_words l.seed)).0);
  words : l.words ≡ (first_lines l.servers l.event (first_words l.seed)).1;
}
