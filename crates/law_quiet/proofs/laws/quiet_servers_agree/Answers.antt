use Rattle.law_quiet.proofs.Agreement.{quiet_stores_agree}
use Rattle.law_quiet.proofs.Servers.{connected_agree, joined_agree}
use Rattle.law_quiet.proofs.laws.quiet_servers_agree.Goals as goal

pub returns-clause-joined : goal.returns-clause-joined
returns-clause-joined c = λ n given names. joined_agree n given.took names (quiet_stores_agree n given)

pub returns-clause-connected : goal.returns-clause-connected
returns-clause-connected c = λ n given names. connected_agree n (joined_agree n given.took names (quiet_stores_agree n given))
