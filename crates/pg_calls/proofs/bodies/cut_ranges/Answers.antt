use Rattle.pg_patch.specs.Ranges.{cut_to}
use Rattle.pg_calls.proofs.Lengths.{long_result}
use Rattle.pg_calls.proofs.Made.{makes}
use Rattle.pg_calls.proofs.bodies.cut_ranges.Goals as goal

pub returns : goal.returns
returns c =
    makes c.cut.result (cut_to c.args.length) c.args.length c.cut.ensures.cut c.cut.ensures.too_long
    (long_result (cut_to c.args.length))
