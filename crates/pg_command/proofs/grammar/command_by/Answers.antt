use Rattle.std.proofs.Common.{map}
use Rattle.std.specs.String.{string_bytes}
use Rattle.pg_command.proofs.Readings.{lift_memory, lift_wrong}
use Rattle.pg_command.proofs.grammar.command_by.Goals as goal

pub returns-in-Some-clause-wrong : goal.returns-in-Some-clause-wrong
returns-in-Some-clause-wrong c =
    lift_wrong (map string_bytes c.args.words.now) c.in-Some.verb (map string_bytes c.in-Some.behind.now)
    c.command_with.result c.command_with.ensures.wrong c.in-Some.ensures.found

pub returns-in-Some-clause-memory : goal.returns-in-Some-clause-memory
returns-in-Some-clause-memory c =
    lift_memory (map string_bytes c.args.words.now) c.in-Some.verb (map string_bytes c.in-Some.behind.now)
    c.command_with.result c.command_with.ensures.memory c.in-Some.ensures.found
