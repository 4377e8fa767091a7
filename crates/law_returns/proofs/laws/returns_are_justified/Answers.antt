use Rattle.law_returns.proofs.Justified.{justified}
use Rattle.law_returns.proofs.OfTakes.{dead_places, own_stamps}
use Rattle.law_names.proofs.Runs.{names_merge, stand_on}
use Rattle.law_returns.proofs.laws.returns_are_justified.Goals as goal

pub returns-clause-stamps : goal.returns-clause-stamps
returns-clause-stamps c = λ n on. own_stamps n (stand_on n on)

pub returns-clause-dead : goal.returns-clause-dead
returns-clause-dead c = λ n on. dead_places n (stand_on n on)

pub returns-clause-justified : goal.returns-clause-justified
returns-clause-justified c = λ n on kept.
    let all = stand_on n on in justified n kept (names_merge n all) (own_stamps n all) (dead_places n all)
