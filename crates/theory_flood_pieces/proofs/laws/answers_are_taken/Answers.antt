use Rattle.theory_flood_pieces.proofs.Acks.{acknowledged}
use Rattle.theory_flood_pieces.proofs.laws.answers_are_taken.Goals as goal

pub returns : goal.returns
returns c = λ along s a from ends k tag. (acknowledged along s a from ends k tag).rule
