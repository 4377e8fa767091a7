use Rattle.pg_replay.proofs.Lined.{line_events}
use Rattle.pg_replay.proofs.laws.lines_are_events.Goals as goal

pub returns : goal.returns
returns c = line_events
