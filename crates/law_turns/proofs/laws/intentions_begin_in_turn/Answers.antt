use Rattle.law_turns.proofs.Told.{intentions_begin_in_turn}
use Rattle.law_turns.proofs.laws.intentions_begin_in_turn.Goals as goal

pub returns : goal.returns
returns c = intentions_begin_in_turn
