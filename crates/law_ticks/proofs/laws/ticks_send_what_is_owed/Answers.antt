use Rattle.law_ticks.proofs.Ticks.{ticks_send_what_is_owed}
use Rattle.law_ticks.proofs.laws.ticks_send_what_is_owed.Goals as goal

pub returns : goal.returns
returns c = ticks_send_what_is_owed
