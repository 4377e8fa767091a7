use Rattle.pg_delta.proofs.Leads.{leads_to_body, true_later, true_made}
use Rattle.pg_delta.proofs.laws.deltas_lead_to_bodies.Goals as goal

pub returns : goal.returns
returns c = record { made = true_made; later = true_later; leads = leads_to_body }
