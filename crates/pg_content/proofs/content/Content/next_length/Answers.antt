use Rattle.std.proofs.Common.{arith}
use Rattle.pg_content.specs.Content.{shown_bytes}
use Rattle.pg_content.proofs.Bodies.{short_is, long_is}
use Rattle.pg_content.proofs.content.Content.next_length.Goals as goal

pub returns-then-length-from-clause-too_long : goal.returns-then-length-from-clause-too_long
returns-then-length-from-clause-too_long c =
    long_is (shown_bytes c.args.self.now) c.args.ranges.now c.length.result c.length_after-length.result c.length.ensures c.length_after-length.ensures.length (omega (arith, c.from.ensures))

pub returns-clause-length : goal.returns-clause-length
returns-clause-length c = (
  short_is (shown_bytes c.args.self.now) c.args.ranges.now c.length.result c.length_after-length.result c.length.ensures c.length_after-length.ensures.length (omega (arith, c.from.ensures)),
  omega (arith, c.from.ensures),
)
