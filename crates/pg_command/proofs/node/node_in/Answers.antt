use Rattle.std.proofs.Common.{map, rules}
use Rattle.std.proofs.lemmas.Bool.{iff_false}
use Rattle.std.specs.String.{string_bytes}
use Rattle.pg_command.proofs.Counted.{not_among}
use Rattle.pg_command.proofs.node.node_in.Goals as goal

pub returns-then-not-is_among-clause-wrong : goal.returns-then-not-is_among-clause-wrong
returns-then-not-is_among-clause-wrong c =
    not_among (map string_bytes c.args.words.now) (map string_bytes c.in_ok-server.words.now)
    c.in_ok-server.server c.in_ok-server.ensures.found (search rules)
    (iff_false c.is_among.ensures c.if-not-is_among.true)
