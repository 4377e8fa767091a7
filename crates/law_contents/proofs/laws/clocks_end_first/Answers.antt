use Rattle.law_contents.proofs.Clocks.{clock_ends_first}
use Rattle.law_contents.proofs.laws.clocks_end_first.Goals as goal

pub returns : goal.returns
returns c = clock_ends_first
