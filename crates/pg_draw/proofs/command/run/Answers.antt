use Rattle.pg_draw.proofs.command.run.Goals as goal

pub returns-clause-first_bad : goal.returns-clause-first_bad
returns-clause-first_bad g c = λ input n f words left short bad calm. c.picture.ensures.first_bad input n f left short bad calm

pub returns-clause-first_lack : goal.returns-clause-first_lack
returns-clause-first_lack g c = λ input n l words left short lacks calm. c.picture.ensures.first_lack input n l left short lacks calm
