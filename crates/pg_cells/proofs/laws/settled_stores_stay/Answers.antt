use Rattle.pg_cells.proofs.Calmed.{rules_again, settled_again}
use Rattle.pg_cells.proofs.laws.settled_stores_stay.Goals as goal

pub returns-clause-rules : goal.returns-clause-rules
returns-clause-rules c = rules_again

pub returns-clause-settle : goal.returns-clause-settle
returns-clause-settle c = λ store work next dirs sorted last ordered live. settled_again store work dirs sorted last ordered live next
