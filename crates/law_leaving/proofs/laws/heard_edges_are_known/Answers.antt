use Rattle.law_leaving.proofs.Heard.{heard_edges_are_known}
use Rattle.law_leaving.proofs.laws.heard_edges_are_known.Goals as goal

pub returns : goal.returns
returns c n on = heard_edges_are_known n on
