use Rattle.pg_state_read.proofs.WholeStore.{behind, spelled, written}
use Rattle.pg_state_read.proofs.laws.states_read_back.Goals as goal

pub returns : goal.returns
returns c = record { written = written; spelled = spelled; behind = λ store rest whole some. behind store rest whole some }
