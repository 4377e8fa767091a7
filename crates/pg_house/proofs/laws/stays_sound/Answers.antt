use Rattle.pg_house.proofs.Ends as ends
use Rattle.pg_house.proofs.Ordered.{rules_ordered}
use Rattle.pg_house.proofs.laws.stays_sound.Goals as goal

pub returns-clause-dirs : goal.returns-clause-dirs
returns-clause-dirs c = ends.is_of_dirs

pub returns-clause-by_server : goal.returns-clause-by_server
returns-clause-by_server c = ends.by_server

pub returns-clause-last : goal.returns-clause-last
returns-clause-last c = ends.is_last

pub returns-clause-ordered : goal.returns-clause-ordered
returns-clause-ordered c = rules_ordered
