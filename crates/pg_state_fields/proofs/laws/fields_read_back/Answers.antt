use Rattle.pg_state_fields.proofs.ContentFields.{deltas_field, heads_field}
use Rattle.pg_state_fields.proofs.EdgeFields.{edges_field}
use Rattle.pg_state_fields.proofs.FlagFields.{entries_field, own_field}
use Rattle.pg_state_fields.proofs.IntentFields.{intents_field}
use Rattle.pg_state_fields.proofs.ReplicaFields.{all_held_field}
use Rattle.pg_state_fields.proofs.laws.fields_read_back.Goals as goal

pub returns : goal.returns
returns c = record {
  own = own_field;
  entries = entries_field;
  edges = edges_field;
  heads = heads_field;
  deltas = deltas_field;
  intents = intents_field;
  held = all_held_field;
}
