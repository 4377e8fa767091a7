use Rattle.pg_store.proofs.Entered.{enter_found, enter_names}
use Rattle.pg_store.proofs.Entering.{enter_births, enter_moves, enter_together}
use Rattle.pg_store.proofs.Wished.{enter_wished}
use Rattle.pg_store.proofs.laws.views_are_entered.Goals as goal

pub returns-clause-edges : goal.returns-clause-edges
returns-clause-edges c a server file together = enter_found a server file together

pub returns-clause-names : goal.returns-clause-names
returns-clause-names c = enter_names

pub returns-clause-together : goal.returns-clause-together
returns-clause-together c = enter_together

pub returns-clause-births : goal.returns-clause-births
returns-clause-births c = enter_births

pub returns-clause-moves : goal.returns-clause-moves
returns-clause-moves c = enter_moves

pub returns-clause-wishes : goal.returns-clause-wishes
returns-clause-wishes c = enter_wished
