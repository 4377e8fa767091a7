use Rattle.law_links.proofs.Events.{asks_link_the_asker}
use Rattle.law_links.proofs.laws.asks_link_the_asker.Goals as goal

pub returns : goal.returns
returns c = asks_link_the_asker
