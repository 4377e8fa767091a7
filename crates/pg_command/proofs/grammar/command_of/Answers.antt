use Rattle.pg_command.proofs.Readings.{asked_is, fault_is, told_of}
use Rattle.pg_command.proofs.grammar.command_of.Goals as goal

pub returns-clause-wrong : goal.returns-clause-wrong
returns-clause-wrong c = told_of c.args.words.now c.command_in.result c.command_in.ensures.wrong

pub returns-clause-complete : goal.returns-clause-complete
returns-clause-complete c =
    asked_is c.args.words.now c.command_in.result c.command_in.ensures.found c.command_in.ensures.wrong

pub returns-clause-first : goal.returns-clause-first
returns-clause-first c =
    fault_is c.args.words.now c.command_in.result c.command_in.ensures.found c.command_in.ensures.wrong c.command_in.ensures.memory
