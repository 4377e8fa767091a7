use Rattle.std.proofs.Common.{subst}
use Rattle.std.specs.List.{AllByRecursion}
use Rattle.law_written.specs.Widths.{HasPartBytes}
use Rattle.law_written.proofs.Lists.{ranges_are}
use Rattle.law_written.proofs.fields.ranges_are_whole.Goals as goal

pub returns : goal.returns
returns c = ranges_are c.args.ranges.now c.parts.ensures.ranges c.requires (subst (AllByRecursion HasPartBytes) c.parts.ensures.parts c.parts_have_bytes.ensures)
