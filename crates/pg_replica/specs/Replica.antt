-- A replica with its heads, kept deltas and edges: which keys and cells it has, and what a version,
-- a write and an answer make of it.
use Rattle.std.specs.Prelude.{ℕ, ◌+◌, ◌==◌, ◌&&◌, Bool, false, if◌then◌else◌, List, [], ◌∷◌, filter, length, map, nat_le, nat_lt, not, Option, None, Some}
use Rattle.std.specs.List.{list_any}
use Rattle.pg_base.specs.declared.stamp.Stamp.{Stamp}
use Rattle.pg_base.specs.declared.vector.Actor.{Actor}
use Rattle.pg_base.specs.declared.policy.Policy.{Policy}
use Rattle.pg_base.specs.Stamp.{clock_end}
use Rattle.pg_base.specs.Vector.{number_at}
use Rattle.pg_patch.specs.Ranges.{RangesValue, applied}
use Rattle.pg_edges.specs.declared.key.Key.{Key}
use Rattle.pg_edges.specs.declared.key.Key.TheVariants as key
use Rattle.pg_edges.specs.declared.edge.Edge.{Edge}
use Rattle.pg_edges.specs.Key.{is_same_key}
use Rattle.pg_edges.specs.Edges.{acked, edge_to, is_listed, is_none, keys_at, linked, retired, touched, unlinked}
use Rattle.pg_base.specs.Version.{VersionValue, actor_of}
use Rattle.pg_content.specs.Content.{is_covered, covers_version, actor_limit, body_limit, joined_content, next_vector, shown_bytes, with_heads, written}
use Rattle.pg_delta.specs.Kept.{with_delta}
use Rattle.pg_delta.specs.Taking.{delta_to, stamps_of}
use Rattle.pg_delta.specs.declared.delta.KeptDelta.{KeptDelta}
use Rattle.pg_content.specs.declared.error.WriteError.{WriteError}
use Rattle.pg_content.specs.declared.error.WriteError.TheVariants.{TooLong, ManyActors}
use Rattle.pg_replica.specs.declared.link.Link.{Link}
use Rattle.pg_replica.specs.declared.replica.Replica.{Replica}

-- ---- keys and cells

-- the key of a version
abbrev pub key_of : VersionValue → Key
key_of v = key.Version v.head.stamp

-- the keys of the heads, in their order
abbrev pub keys : List VersionValue → List Key
keys heads = map key_of heads

-- the head that a key names, if there is one
abbrev pub cell_at : List VersionValue → Key → Option VersionValue
cell_at [] k = None
cell_at (v ∷ vs) k = if is_same_key k (key_of v) then Some v else cell_at vs k

-- ---- a version comes

-- some head's vector has the version's number at its actor
abbrev pub covers : Replica → VersionValue → Bool
covers x v = is_covered x.content.heads (actor_of v.head) v.head.number

-- the heads that the version's vector covers, in their order
abbrev pub covered_heads : List VersionValue → VersionValue → List VersionValue
covered_heads heads v = filter (covers_version v.head.vector) heads

-- each of these keys leaves every edge
abbrev pub without_keys : List Edge → List Key → List Edge
without_keys es [] = es
without_keys es (k ∷ ks) = without_keys (retired es k) ks

-- the keys of the heads that go leave every edge, and the version's own key is touched on every
-- edge, from this tag on
abbrev pub with_head : Replica → VersionValue → ℕ → Replica
with_head x v tags = record x {
  content = joined_content x.content v;
  edges = touched (without_keys x.edges (keys (covered_heads x.content.heads v))) (key_of v) tags;
}

-- one more delta is kept
abbrev pub with_kept : Replica → KeptDelta → Replica
with_kept x delta = record x { kept = with_delta x.kept delta }

-- a version that is covered changes nothing; any other is a head from then on
abbrev pub with_version : Replica → VersionValue → ℕ → Replica
with_version x v tags = if covers x v then x else with_head x v tags

-- the next tag then: each edge took one, if the version was not covered
abbrev pub tags_after : Replica → VersionValue → ℕ → ℕ
tags_after x v tags = if covers x v then tags else tags + length x.edges

-- ---- the beginning, and touching

-- a replica begins with no version and no edge
abbrev pub new_replica : ℕ → Policy → Replica
new_replica birth policy = record {
  birth = birth;
  content = record { policy = policy; heads = [] };
  kept = [];
  edges = [];
}

-- a fresh tag at the key on every edge, from this tag on
abbrev pub with_touch : Replica → Key → ℕ → Replica
with_touch x k tags = record x { edges = touched x.edges k tags }

-- ---- a write

-- the version is the only head, and the delta that made it is kept: the keys of all heads leave
-- every edge, and its own key is touched on every edge, from this tag on
abbrev pub with_only : Replica → VersionValue → KeptDelta → ℕ → Replica
with_only x v delta tags = record x {
  content = with_heads x.content (v ∷ []);
  kept = with_delta x.kept delta;
  edges = touched (without_keys x.edges (keys x.content.heads)) (key_of v) tags;
}

-- what the actor writes is the only head, and is kept as a delta from the heads that were: their
-- keys leave every edge, and the key of its stamp is touched on every edge, from this tag on
abbrev pub with_write : Replica → Actor → Stamp → RangesValue → ℕ → Replica
with_write x actor stamp ranges tags = record x {
  content = written x.content actor stamp ranges;
  kept = with_delta x.kept (delta_to (stamps_of x.content) stamp ranges);
  edges = touched (without_keys x.edges (keys x.content.heads)) (key.Version stamp) tags;
}

-- the server's replica as an actor
abbrev pub own_actor : Replica → ℕ → Actor
own_actor x server = record { server = server; birth = x.birth }

-- no head knows a number of it that is at the end of the clock
abbrev pub has_room : Replica → ℕ → Bool
has_room x server =
    not (list_any (λ v. nat_le clock_end (number_at v.head.vector (own_actor x server)))
    x.content.heads)

-- a number at its end, of whichever actor
abbrev pub has_end : List (Actor × ℕ) → Bool
has_end vector = list_any (λ e. nat_le clock_end e.1) vector

-- one at an actor of this server, of whichever birth
abbrev pub has_own_end : ℕ → List (Actor × ℕ) → Bool
has_own_end server vector =
    list_any (λ e. e.0.server == server && nat_le clock_end e.1) vector

-- some head knows one
abbrev pub knows_own_end : ℕ → Replica → Bool
knows_own_end server x = list_any (λ v. has_own_end server v.head.vector) x.content.heads

-- the body would be too long
abbrev pub is_too_long : Replica → RangesValue → Bool
is_too_long x ranges = nat_lt body_limit (length (applied (shown_bytes x.content) ranges))

-- the vector would have too many actors
abbrev pub has_many_actors : Replica → ℕ → Bool
has_many_actors x server =
    nat_lt actor_limit (length (next_vector x.content.heads (own_actor x server)))

-- why the server may not make a version with these ranges, if there is a reason
abbrev pub refusal_of : Replica → ℕ → RangesValue → Option WriteError
refusal_of x server ranges =
    if is_too_long x ranges then Some TooLong
    else (if has_many_actors x server then Some ManyActors else None)

-- ---- edges

-- there is an edge between these births of the replica and of the peer's
abbrev pub has_edge : Replica → Link → Bool
has_edge x link = link.own == x.birth && is_listed x.edges link.peer link.birth

-- the peer is listed with a greater birth
abbrev pub is_born_later : Option Edge → ℕ → Bool
is_born_later None birth = false
is_born_later (Some e) birth = nat_lt birth e.birth

abbrev pub knows_later : Replica → ℕ → ℕ → Bool
knows_later x peer birth = is_born_later (edge_to x.edges peer) birth

-- the peer is listed with this birth, and has acknowledged every key
abbrev pub are_none : Option (List (Key × ℕ)) → Bool
are_none None = false
are_none (Some keys) = is_none keys

abbrev pub is_clean_to : Replica → ℕ → ℕ → Bool
is_clean_to x peer birth = are_none (keys_at x.edges peer birth)

-- a link to this birth of a peer: where it makes an edge, each of these keys has a fresh tag there,
-- from this tag on
abbrev pub with_link : Replica → ℕ → ℕ → List Key → ℕ → Replica
with_link x peer birth ks tags = record x { edges = linked x.edges peer birth ks tags }

-- the edge to a peer goes, where it names this birth
abbrev pub with_unlink : Replica → ℕ → ℕ → Replica
with_unlink x peer birth = record x { edges = unlinked x.edges peer birth }

-- ---- an answer

-- the key goes off the edge to this birth of the peer where the tag is the present one there
abbrev pub with_ack : Replica → ℕ → ℕ → Key → ℕ → Replica
with_ack x peer birth k tag = record x { edges = acked x.edges peer birth k tag }

-- the same, where there is the edge
abbrev pub with_ack_along : Replica → Link → Key → ℕ → Replica
with_ack_along x link k tag = if has_edge x link then with_ack x link.peer link.birth k tag else x
