-- Which keys the edge to a peer has, whatever their tags.
use Rattle.std.specs.Prelude.{ℕ, Bool, false, List, Option, None, Some, is_some}
use Rattle.std.specs.List.{list_any}
use Rattle.std.specs.List.Sorted.{IsStrictlySortedBy}
use Rattle.std.specs.Map.{keys_of}
use Rattle.pg_edges.specs.declared.key.Key.{Key}
use Rattle.pg_edges.specs.declared.edge.Edge.{Edge}
use Rattle.pg_edges.specs.Key.{is_same_key, key_cmp}
use Rattle.pg_edges.specs.Keys.{tag_in}
use Rattle.pg_edges.specs.Edges.{edge_to}

-- there is an edge, and it has the key
abbrev pub has_key : Option Edge → Key → Bool
has_key None k = false
has_key (Some e) k = is_some (tag_in e.keys k)

abbrev pub owes_on : List Edge → ℕ → Key → Bool
owes_on es peer k = has_key (edge_to es peer) k

-- there is an edge to the peer
abbrev pub is_to : List Edge → ℕ → Bool
is_to es peer = is_some (edge_to es peer)

-- it is one of these keys
abbrev pub is_key_of : Key → List Key → Bool
is_key_of k ks = list_any (λ q. is_same_key q k) ks

-- where there is an edge, its keys are in order
abbrev pub IsInOrder : Option Edge → Type 0
IsInOrder None = Unit {0}
IsInOrder (Some e) = IsStrictlySortedBy key_cmp (keys_of e.keys)

abbrev pub AreInOrder : List Edge → Type 0
AreInOrder es = (peer : ℕ) → IsInOrder (edge_to es peer)
