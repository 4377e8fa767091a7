use Rattle.std.proofs.Common.{arith}
use Rattle.law_written.proofs.fields.gold_is_whole.Goals as goal

pub returns : goal.returns
returns c =
    let least = c.requires.least in
    let widths = c.flag_has_widths.ensures in
    record { server = record { above = omega (arith, least); most = c.requires.most }; birth = widths.birth; number = widths.number }
