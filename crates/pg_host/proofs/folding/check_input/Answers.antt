use Rattle.pg_host.proofs.folding.check_input.Goals as goal

pub returns-in-Ok-clause-read : goal.returns-in-Ok-clause-read
returns-in-Ok-clause-read c = record { input = c.in-Ok.input; read = c.in-Ok.ensures.read; spelled = c.in-Ok.ensures.spelled }
