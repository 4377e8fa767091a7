use Rattle.pg_delta.proofs.Leads.{shown_is, stands_sent, stands_taken}
use Rattle.pg_delta.proofs.laws.taking_stands.Goals as goal

pub returns : goal.returns
returns c = record { taken = stands_taken; shown = shown_is; sent = stands_sent }
