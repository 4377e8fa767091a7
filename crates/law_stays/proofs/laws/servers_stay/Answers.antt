use Rattle.law_stays.proofs.Events.{server_stays}
use Rattle.law_stays.proofs.laws.servers_stay.Goals as goal

pub returns : goal.returns
returns c = server_stays
