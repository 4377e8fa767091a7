use Rattle.law_contents.proofs.HarbingersCame.{sources_announced}
use Rattle.law_contents.proofs.laws.sources_announced.Goals as goal

pub returns : goal.returns
returns c = sources_announced
