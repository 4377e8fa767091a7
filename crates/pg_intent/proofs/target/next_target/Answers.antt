use Rattle.std.proofs.Common.{rules}
use Rattle.pg_intent.proofs.Above.{is_next_as}
use Rattle.pg_intent.proofs.target.next_target.Goals as goal

pub returns-in-Some-clause-least : goal.returns-in-Some-clause-least
returns-in-Some-clause-least c = is_next_as c.args.servers c.args.server c.args.removed.now c.args.target c.in-Some.above (search rules)

pub returns-in-Some-first_above-clause-least : goal.returns-in-Some-first_above-clause-least
returns-in-Some-first_above-clause-least c = is_next_as c.args.servers c.args.server c.args.removed.now c.args.target c.in-Some-first_above.least (search rules)

pub returns-in-None-clause-least : goal.returns-in-None-clause-least
returns-in-None-clause-least c = is_next_as c.args.servers c.args.server c.args.removed.now c.args.target 0 (search rules)
