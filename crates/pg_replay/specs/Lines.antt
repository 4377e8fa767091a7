-- The worlds of which is written are those of a run.
use Rattle.std.specs.Prelude.{ℕ, ◌≡◌, List}
use Rattle.pg_sched.specs.declared.line.Line.{Line}
use Rattle.pg_run.specs.Run.{start, run}
use Rattle.pg_replay.specs.Settling.{after_lines, all_events}

-- behind any lines of a schedule the world is that of the run of their events, with those of each
-- settling among them
abbrev pub LinesAreEvents : ℕ → Type 0
LinesAreEvents servers =
    (lines : List Line)
    → after_lines servers (start servers) lines
    ≡ run servers (all_events servers (start servers) lines)
