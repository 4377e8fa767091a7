use Rattle.pg_state.proofs.Parts.{short_is}
use Rattle.pg_state.proofs.fitting.are_short.Goals as goal

pub returns : goal.returns
returns c = short_is c.args.ranges.now.parts c.bytes_of_parts.result c.bytes_of_parts.ensures.bytes
