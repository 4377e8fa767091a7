use Rattle.std.proofs.Common.{◌∙◌, map, sym}
use Rattle.std.specs.String.{string_bytes}
use Rattle.pg_command.proofs.Commands.{no_fault_of_replay}
use Rattle.pg_command.proofs.Readings.{no_memory_fault}
use Rattle.pg_command.proofs.grammar.replay_of.Goals as goal
use Rattle.pg_command.specs.Words.{IsFaultOf}
use Rattle.pg_command.specs.declared.verb.Verb.TheVariants as verb

pub metered_read-requires : goal.metered_read-requires
metered_read-requires c = c.requires ∙ sym c.in-Ok.ensures.found

pub returns-in_err-metered-clause-memory : goal.returns-in_err-metered-clause-memory
returns-in_err-metered-clause-memory c =
    let words = map string_bytes c.args.words.now in
    no_memory_fault (λ k. IsFaultOf verb.Replay words k) _
    (λ k f. no_fault_of_replay c.in-Ok.metered words k c.in-Ok.ensures.found f)
