use Rattle.law_shows.proofs.Told.{shows_are_states}
use Rattle.law_shows.proofs.laws.shows_are_states.Goals as goal

pub returns : goal.returns
returns c = λ n held merge.
    shows_are_states n (c.servers_are_whole.ensures.whole n) (c.servers_are_whole.ensures.order n) held merge
