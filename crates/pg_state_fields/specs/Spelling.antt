-- How the fields of a state are spelled.
use Rattle.std.specs.Prelude.{ℕ, List, ◌++◌}
use Rattle.pg_base.specs.declared.id.Kind.{Kind}
use Rattle.pg_base.specs.declared.id.Kind.TheVariants.{Dir, File}
use Rattle.pg_codec.specs.Spelling.{file_bytes, flag_bytes, number_bytes}
use Rattle.pg_edges.specs.declared.edge.Edge.{Edge}
use Rattle.pg_names.specs.declared.attributes.Attributes.{Attributes}
use Rattle.pg_packet_write.specs.Fields.{entry_bytes, golds_bytes, listed, place_bytes, policy_bytes, version_bytes}
use Rattle.pg_state.specs.Spelling.{edge_bytes, kept_bytes}
use Rattle.pg_state_fields.specs.declared.replicas.Front.{Front}
use Rattle.pg_state_fields.specs.declared.replicas.Held.{Held}
use Rattle.pg_state_fields.specs.declared.replicas.Inside.{Inside}
use Rattle.pg_state_fields.specs.Replicas.{front_of, inside_of}

-- a place, and flags behind it
abbrev pub own_bytes : Attributes → List ℕ
own_bytes own = place_bytes own.place ++ golds_bytes own.flags

-- how a replica begins
unfoldable pub front_bytes : Front → List ℕ
front_bytes f =
    file_bytes f.file ++ (number_bytes 8 f.birth ++ (policy_bytes f.policy ++ flag_bytes f.full))

-- entries, or heads and kept deltas
unfoldable pub inside_spelling : Kind → Inside → List ℕ
inside_spelling Dir inside = listed 4 entry_bytes inside.entries
inside_spelling File inside =
    listed 2 version_bytes inside.content.heads ++ listed 1 kept_bytes inside.kept

-- place, flags, what it holds, edges
unfoldable pub back_bytes : Kind → Attributes × (Inside × List Edge) → List ℕ
back_bytes kind x =
    own_bytes x.0 ++ (inside_spelling kind x.1.0 ++ listed 1 edge_bytes x.1.1)

-- a replica, with what is known of the names of what it is of
unfoldable pub held_spelling : Held → List ℕ
held_spelling h =
    front_bytes (front_of h) ++ back_bytes h.file.kind (h.own, (inside_of h, h.replica.edges))
