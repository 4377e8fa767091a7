use Rattle.theory_flood_pieces.proofs.Sending.{finish_may, others_may, tick_may}
use Rattle.theory_flood_pieces.proofs.laws.cells_may_be_sent.Goals as goal

pub returns-clause-ticks : goal.returns-clause-ticks
returns-clause-ticks c = λ along n s a b heard work k sound h. tick_may along n s a b heard sound k work h

pub returns-clause-ends : goal.returns-clause-ends
returns-clause-ends c = λ along n s a b heard work k sound h. finish_may along n s a b heard sound k work h

pub returns-clause-others : goal.returns-clause-others
returns-clause-others c = others_may
