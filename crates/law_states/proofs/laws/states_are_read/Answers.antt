use Rattle.law_states.proofs.Whole.{whole}
use Rattle.law_states.proofs.laws.states_are_read.Goals as goal

pub returns : goal.returns
returns c =
    let store = c.args.store.now in
    let is = whole store c.requires c.store_has_widths.ensures in
    record {
      whole = is;
      read = c.states_read_back.ensures.written store is;
      behind = λ rest some. c.states_read_back.ensures.behind store rest is some;
    }
