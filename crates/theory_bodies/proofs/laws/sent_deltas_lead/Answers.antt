use Rattle.theory_bodies.proofs.Computing.{computed_leads}
use Rattle.theory_bodies.proofs.laws.sent_deltas_lead.Goals as goal

pub returns : goal.returns
returns c = computed_leads
