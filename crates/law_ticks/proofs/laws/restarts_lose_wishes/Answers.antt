use Rattle.law_ticks.proofs.Ticks.{restarts_lose_wishes}
use Rattle.law_ticks.proofs.laws.restarts_lose_wishes.Goals as goal

pub returns : goal.returns
returns c = restarts_lose_wishes
