use Rattle.law_births.proofs.Alone.{births_are_alone, births_are_of_one_thing}
use Rattle.law_births.proofs.Given.{fills_stand, ids_free}
use Rattle.law_births.proofs.laws.births_are_alone.Goals as goal

pub returns-clause-alone : goal.returns-clause-alone
returns-clause-alone c n intends = births_are_alone n (fills_stand n intends) (ids_free n)

pub returns-clause-apart : goal.returns-clause-apart
returns-clause-apart c n intends = births_are_of_one_thing n (fills_stand n intends) (ids_free n)
