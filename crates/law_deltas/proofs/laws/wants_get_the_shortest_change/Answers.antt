use Rattle.law_deltas.proofs.Shortest.{wants_get_the_shortest_change}
use Rattle.law_deltas.proofs.laws.wants_get_the_shortest_change.Goals as goal

pub returns : goal.returns
returns c = wants_get_the_shortest_change
