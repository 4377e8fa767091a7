use Rattle.law_contents.proofs.RunLaws.{state_is_determined, state_is_its_heads}
use Rattle.law_contents.proofs.laws.states_are_heads.Goals as goal

pub returns-clause-heads : goal.returns-clause-heads
returns-clause-heads c = state_is_its_heads

pub returns-clause-determined : goal.returns-clause-determined
returns-clause-determined c = state_is_determined
