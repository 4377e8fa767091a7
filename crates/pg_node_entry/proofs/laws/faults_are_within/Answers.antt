use Rattle.pg_node_entry.proofs.Within.{within}
use Rattle.pg_node_entry.proofs.laws.faults_are_within.Goals as goal

pub returns : goal.returns
returns c = within
