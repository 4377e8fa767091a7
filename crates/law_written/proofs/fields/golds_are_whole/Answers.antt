use Rattle.std.proofs.Common.{subst}
use Rattle.std.specs.List.{AllByRecursion}
use Rattle.law_written.specs.Widths.{HasFlagWidth}
use Rattle.law_written.proofs.Lists.{golds_are}
use Rattle.law_written.proofs.fields.golds_are_whole.Goals as goal

pub returns : goal.returns
returns c = golds_are c.args.flags.now c.as_slice.ensures.by_server c.requires (subst (AllByRecursion HasFlagWidth) c.as_slice.ensures.flags c.flags_have_widths.ensures)
