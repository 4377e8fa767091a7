use Rattle.std.proofs.Common.{rules}
use Rattle.pg_command.proofs.Readings.{out_of_range}
use Rattle.pg_command.proofs.slots.number_before.Goals as goal

pub returns-then-n-least-clause-wrong : goal.returns-then-n-least-clause-wrong
returns-then-n-least-clause-wrong c =
    out_of_range c.args.words.now c.word-item.result c.as_bytes.result.now c.args.least c.args.most c.in-Some.n
    c.in-len1-up.len_at_least c.word-item.is c.as_bytes.ensures.value c.in-Some.ensures.found (search rules) (search rules)
    c.then-n-least.either
