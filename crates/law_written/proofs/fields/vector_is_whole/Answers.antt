use Rattle.law_written.proofs.Lists.{known_are}
use Rattle.law_written.proofs.fields.vector_is_whole.Goals as goal

pub returns : goal.returns
returns c = known_are c.args.vector.now c.len-count.ensures.vector c.requires
