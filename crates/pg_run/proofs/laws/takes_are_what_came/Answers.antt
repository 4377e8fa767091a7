use Rattle.pg_run.proofs.Coming.{takes_what_came}
use Rattle.pg_run.proofs.Makes.{is_made_in_parts}
use Rattle.pg_run.proofs.laws.takes_are_what_came.Goals as goal

pub returns-clause-took : goal.returns-clause-took
returns-clause-took c = takes_what_came

pub returns-clause-parts : goal.returns-clause-parts
returns-clause-parts c = is_made_in_parts
