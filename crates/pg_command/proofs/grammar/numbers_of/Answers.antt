use Rattle.std.proofs.Common.{map}
use Rattle.std.specs.String.{string_bytes}
use Rattle.pg_command.proofs.Commands.{no_fault_of_numbers}
use Rattle.pg_command.proofs.Readings.{no_memory_fault}
use Rattle.pg_command.proofs.Values.{made_of}
use Rattle.pg_command.proofs.grammar.numbers_of.Goals as goal
use Rattle.pg_command.specs.Slots.{IsFirstWrong}
use Rattle.pg_command.specs.Words.{number_slots}

pub numbers_read-requires-clause-spelled : goal.numbers_read-requires-clause-spelled
numbers_read-requires-clause-spelled c =
    made_of (map string_bytes c.args.all.now) (map string_bytes c.args.words.now) c.in-Ok.numbers c.in-Ok.ensures.found c.requires

pub returns-in_err-numbers-clause-memory : goal.returns-in_err-numbers-clause-memory
returns-in_err-numbers-clause-memory c =
    let words = map string_bytes c.args.words.now in
    no_memory_fault (λ k. IsFirstWrong 2 number_slots words k) _
    (λ k f. no_fault_of_numbers c.in-Ok.numbers words k c.in-Ok.ensures.fits c.in-Ok.ensures.found f)
