use Rattle.law_repair.proofs.Starts.{start_connected}
use Rattle.law_repair.proofs.laws.starts_are_connected.Goals as goal

pub returns : goal.returns
returns c = λ n on quiet file. start_connected n on file quiet
