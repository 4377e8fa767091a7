-- Lines one behind the other.
use Rattle.std.proofs.Common.{ℕ, ◌≡◌, List, [], ◌∷◌, refl, sym, ◌∙◌}
use Rattle.pg_sched.specs.declared.line.Line.{Line}
use Rattle.pg_run.specs.Run.{World, run_from, start}
use Rattle.pg_world.proofs.Standing.{run_from-append}
use Rattle.pg_replay.specs.Lines.{LinesAreEvents}
use Rattle.pg_replay.specs.Settling.{after_line, after_lines, all_events, events_of}

-- the world behind lines is that of their events
lines_from : (n : ℕ) (w : World) (lines : List Line) → after_lines n w lines ≡ run_from n w (all_events n w lines)
lines_from n w [] = refl
lines_from n w (l ∷ ls) =
    lines_from n (after_line n w l) ls
    ∙ sym (run_from-append n w (events_of n w l) (all_events n (after_line n w l) ls))

pub line_events : (n : ℕ) → LinesAreEvents n
line_events n lines = lines_from n (start n) lines
