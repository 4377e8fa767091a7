use Rattle.law_written.proofs.Lists.{stamps_are}
use Rattle.law_written.proofs.fields.stamps_are_whole.Goals as goal

pub returns : goal.returns
returns c = stamps_are c.args.stamps.now c.requires c.stamps_have_widths.ensures
