use Rattle.law_golds.proofs.Runs.{flags_are_known, flags_are_own, flags_have_own_numbers}
use Rattle.law_golds.proofs.Worlds.{flags_made}
use Rattle.law_golds.proofs.laws.flags_are_own.Goals as goal

pub returns-clause-own : goal.returns-clause-own
returns-clause-own c = flags_are_own

pub returns-clause-numbers : goal.returns-clause-numbers
returns-clause-numbers c = flags_have_own_numbers

pub returns-clause-known : goal.returns-clause-known
returns-clause-known c = flags_are_known

pub returns-clause-made : goal.returns-clause-made
returns-clause-made c = flags_made
