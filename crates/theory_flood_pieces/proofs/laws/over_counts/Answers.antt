use Rattle.theory_flood_pieces.proofs.Counting.{by_the_rule}
use Rattle.theory_flood_pieces.proofs.laws.over_counts.Goals as goal

pub returns : goal.returns
returns c = by_the_rule
