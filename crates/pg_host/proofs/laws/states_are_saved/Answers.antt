use Rattle.pg_host.proofs.Due.{saved_last}
use Rattle.pg_host.proofs.laws.states_are_saved.Goals as goal

pub returns : goal.returns
returns c = λ server servers k count s was now own some reached last behind is short room. saved_last server servers k count s was now own some reached last behind is short room
