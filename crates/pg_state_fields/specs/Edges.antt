-- Edges with the keys that are not acknowledged.
use Rattle.std.specs.Prelude.{ℕ, List, Option, None, Some}
use Rattle.pg_codec.specs.Laws.{HasWidth}
use Rattle.pg_codec.specs.Reading.{Field, followed_by, seen_as, checked, number_at}
use Rattle.pg_edges.specs.Key.{key_cmp}
use Rattle.pg_edges.specs.declared.edge.Edge.{Edge}
use Rattle.pg_edges.specs.declared.key.Key.{Key}
use Rattle.pg_packet_fields.specs.Faults.{of_packet}
use Rattle.pg_packet_fields.specs.Reading.{key_at}
use Rattle.pg_packet_fields.specs.Values.{IsKey}
use Rattle.pg_packet_fields.specs.declared.error.PacketError.{PacketError}
use Rattle.pg_state_fields.specs.Flags.{above_at, is_above}
use Rattle.pg_state_fields.specs.Orders.{AreCounted, Passes, counted_list_at, is_behind, tested_of}

-- a key behind the last one
unfoldable pub next_key_at : Option Key → Field PacketError Key
next_key_at last from = checked (tested_of (is_behind key_cmp last)) key_at from

-- and its tag
unfoldable pub tagged_at : Option Key → Field PacketError (Key × ℕ)
tagged_at last from = followed_by (next_key_at last) (λ key. of_packet (number_at 8)) from

abbrev pub to_key : Option Key → Key × ℕ → Option Key
to_key last e = Some e.0

-- a count of four bytes, and so many keys with their tags, by key
unfoldable pub keys_at : Field PacketError (List (Key × ℕ))
keys_at from = counted_list_at 4 tagged_at to_key None from

-- a peer behind the last one, its birth, and the keys
unfoldable pub edge_at : ℕ → Field PacketError Edge
edge_at last from = seen_as (λ x. record { peer = x.0; birth = x.1.0; keys = x.1.1 })
    (followed_by (above_at last) (λ peer. followed_by (of_packet (number_at 8)) (λ birth. keys_at)))
    from

abbrev pub to_peer : ℕ → Edge → ℕ
to_peer last e = e.peer

-- a count of one byte, and so many edges, by peer
unfoldable pub edges_at : Field PacketError (List Edge)
edges_at from = counted_list_at 1 edge_at to_peer 0 from

-- ---- what can be read

pub record IsTagged (last : Option Key) (e : Key × ℕ) : Type 0 where
  pub key : Passes IsKey (is_behind key_cmp last) e.0
  pub tag : HasWidth 8 e.1

abbrev pub AreKeys : List (Key × ℕ) → Type 0
AreKeys keys = AreCounted 4 IsTagged to_key None keys

pub record IsEdge (last : ℕ) (e : Edge) : Type 0 where
  pub peer : Passes (HasWidth 4) (is_above last) e.peer
  pub birth : HasWidth 8 e.birth
  pub keys : AreKeys e.keys

abbrev pub AreEdges : List Edge → Type 0
AreEdges edges = AreCounted 1 IsEdge to_peer 0 edges
