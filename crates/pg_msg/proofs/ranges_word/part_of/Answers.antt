use Rattle.std.proofs.Common.{◌∙◌}
use Rattle.pg_msg.proofs.Parts.{part_cut, part_uncut, some_digits}
use Rattle.pg_msg.proofs.ranges_word.part_of.Goals as goal

pub returns-in_default-clause-none : goal.returns-in_default-clause-none
returns-in_default-clause-none c p fits e = part_uncut c.args.item.now p c.in_default.ensures.none e

pub returns-in_default-number_u32-clause-none : goal.returns-in_default-number_u32-clause-none
returns-in_default-number_u32-clause-none c p fits e =
    let cut = part_cut c.args.item.now c.in-Some.offset.now c.in-Some.bytes.now p fits c.in-Some.ensures.first c.in-Some.ensures.whole e in
    c.in_default-number_u32.ensures.none p.offset fits.offset cut.0

pub returns-in-None-clause-none : goal.returns-in-None-clause-none
returns-in-None-clause-none c p fits e =
    let cut = part_cut c.args.item.now c.in-Some.offset.now c.in-Some.bytes.now p fits c.in-Some.ensures.first c.in-Some.ensures.whole e in
    let none = rw c.in-None.is at c.in_ok-bytes.ensures.none in
    none p.bytes fits.holds (cut.1 ∙ some_digits p.bytes fits.holds.some)
