use Rattle.law_states.proofs.FittingWhole.{fits}
use Rattle.law_states.proofs.laws.states_are_spelled.Goals as goal

pub returns : goal.returns
returns c bytes store width read =
    let spelled = c.states_read_back.ensures.spelled bytes store width read in
    (fits store spelled.0, spelled.1)
