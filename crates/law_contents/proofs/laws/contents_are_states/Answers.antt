use Rattle.law_contents.proofs.RunLaws.{holds_what_it_took}
use Rattle.law_contents.proofs.laws.contents_are_states.Goals as goal

pub returns : goal.returns
returns c = holds_what_it_took
