use Rattle.pg_node_entry.proofs.Lengths.{arrival_short, call_short, first_short, read_short, restart_short, tick_short}
use Rattle.pg_node_entry.proofs.laws.entries_are_short.Goals as goal

pub returns : goal.returns
returns c = record { call = call_short; arrival = arrival_short; tick = tick_short; restart = restart_short; first = first_short; packet = read_short }
