-- Edges and their keys are fields.
use Rattle.std.proofs.Common.{ℕ, List, Option, None, refl}
use Rattle.pg_codec.specs.Laws.{IsField}
use Rattle.pg_edges.specs.Key.{key_cmp}
use Rattle.pg_edges.specs.declared.edge.Edge.{Edge}
use Rattle.pg_edges.specs.declared.key.Key.{Key}
use Rattle.pg_packet_write.specs.Fields.{key_bytes, listed}
use Rattle.pg_packet_fields.specs.Values.{IsKey}
use Rattle.pg_packet_fields.proofs.Joining.{then_is, view_is}
use Rattle.pg_packet_fields.proofs.Plain.{byte_is, key_field, narrow_is, wide_is}
use Rattle.pg_state.specs.Spelling.{edge_bytes, tagged_bytes}
use Rattle.pg_state_fields.specs.Edges.{AreEdges, AreKeys, IsEdge, IsTagged, edge_at, edges_at, keys_at, next_key_at, tagged_at, to_key, to_peer}
use Rattle.pg_state_fields.specs.Orders.{Passes, is_behind}
use Rattle.pg_state_fields.proofs.FlagFields.{above_field}
use Rattle.pg_state_fields.proofs.Tested.{counted_list_is, tested_is}

next_key_field : (last : Option Key) → IsField (Passes IsKey (is_behind key_cmp last)) key_bytes (next_key_at last)
unfolding next_key_at
next_key_field last = tested_is key_field (is_behind key_cmp last)

-- what reads the same as a field is one
tagged_field : (last : Option Key) → IsField (IsTagged last) tagged_bytes (tagged_at last)
unfolding tagged_at tagged_bytes
tagged_field last =
    let both = then_is (next_key_field last) wide_is in
    record {
      takes = λ from x bytes e. let t = both.takes from x bytes e in (record { key = t.0.0; tag = t.0.1 }, t.1);
      again = λ x place rest fits. both.again x place rest (fits.key, fits.tag);
    }

keys_field : IsField AreKeys (listed 4 tagged_bytes) keys_at
unfolding keys_at
keys_field = counted_list_is IsTagged to_key tagged_bytes tagged_at tagged_field 4 None narrow_is

abbrev edge_view : ℕ × (ℕ × List (Key × ℕ)) → Edge
edge_view x = record { peer = x.0; birth = x.1.0; keys = x.1.1 }

edge_field : (last : ℕ) → IsField (IsEdge last) edge_bytes (edge_at last)
unfolding edge_at edge_bytes
edge_field last = view_is (then_is (above_field last) (then_is wide_is keys_field)) edge_view (IsEdge last) edge_bytes
    (λ x fits. (record { peer = fits.0; birth = fits.1.0; keys = fits.1.1 }, refl))
    (λ e fits. ((e.peer, (e.birth, e.keys)), (fits.peer, (fits.birth, fits.keys)), refl))

pub edges_field : IsField AreEdges (listed 1 edge_bytes) edges_at
unfolding edges_at
edges_field = counted_list_is IsEdge to_peer edge_bytes edge_at edge_field 1 0 byte_is
