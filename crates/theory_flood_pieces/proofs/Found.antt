-- What look-ups find on edges, and in the list of replicas.
use Rattle.std.proofs.Common.{[], ℕ, ◌≡◌, ◌≤◌, ◌+◌, cond, List, ◌∷◌, get_or, Option, None, Some, option_map, refl, ap, ◌∙◌, arith, All}
use Rattle.std.specs.List.Sorted.{IsStrictlySortedBy}
use Rattle.std.specs.Map.{keys_of}
use Rattle.std.proofs.lemmas.Bool.{ne_eqb, eq-eqb}
use Rattle.std.proofs.lemmas.List.Elements.{All-nil, All-cons}
use Rattle.pg_base.specs.declared.id.FileId.{FileId}
use Rattle.pg_base.specs.Id.{file_cmp}
use Rattle.pg_base.proofs.Orders.{file_total}
use Rattle.pg_base.proofs.Entries.{lookup-place}
use Rattle.pg_edges.specs.declared.edge.Edge.{Edge}
use Rattle.pg_edges.specs.declared.key.Key.{Key}
use Rattle.pg_edges.specs.Key.{key_cmp}
use Rattle.pg_edges.specs.Keys.{tag_in}
use Rattle.pg_edges.specs.Edges.{edge_to, keys_if_born, tag_of, tag_at, peers, AscendFrom}
use Rattle.pg_edges.proofs.Lists.{peer_at}
use Rattle.pg_edges.proofs.Orders.{key_total}
use Rattle.pg_cells.specs.pg_replica.declared.replica.Replica.{Replica}
use Rattle.pg_cells.specs.pg_store.declared.store.Store.{Store}
use Rattle.pg_cells.specs.pg_store.Store.{replica_at}

-- ---- edges

next_edge : (e x : Edge) (es : List Edge) → e.peer + 1 ≤ x.peer → edge_to es x.peer ≡ Some x
    → edge_to (e ∷ es) x.peer ≡ Some x
next_edge e x es le h =
    ap (λ t. cond t (Some e) (edge_to es x.peer)) (ne_eqb e.peer x.peer (λ q. omega arith)) ∙ h

-- each edge is the one to its peer
pub edges_found : (n : ℕ) (es : List Edge) → AscendFrom n (peers es)
    → All (λ e. edge_to es e.peer ≡ Some e) es
edges_found n [] a = All-nil (λ (e : Edge). edge_to [] e.peer ≡ Some e)
edges_found n (e ∷ es) a =
    All-cons (λ x. edge_to (e ∷ es) x.peer ≡ Some x) e es
    (ap (λ t. cond t (Some e) (edge_to es e.peer)) (eq-eqb e.peer e.peer refl))
    (λ i d lt. next_edge e (get_or es i d) es (peer_at (e.peer + 1) i es d a.1 lt)
    (edges_found (e.peer + 1) es a.1 i d lt))

-- each entry of an edge's keys is what a look-up of its key finds
pub keys_found : (ks : List (Key × ℕ)) → IsStrictlySortedBy key_cmp (keys_of ks)
    → All (λ k. tag_in ks k.0 ≡ Some k.1) ks
keys_found ks sorted =
    λ i d lt. lookup-place key_cmp key_total (get_or ks i d).0
    (get_or ks i d).1 ks i d sorted lt refl

-- and each of a server's replicas is that of its file
pub entries_known : (a : Store) → IsStrictlySortedBy file_cmp (keys_of a.replicas)
    → All (λ (r : FileId × Replica). replica_at a r.0 ≡ Some r.1) a.replicas
entries_known a sorted =
    λ i d lt. lookup-place file_cmp file_total (get_or a.replicas i d).0
    (get_or a.replicas i d).1 a.replicas i d sorted lt refl

-- the tag at a key of an edge
pub tag_on_edge : (es : List Edge) (e : Edge) (k : Key) (o : Option ℕ) → edge_to es e.peer ≡ Some e
    → tag_in e.keys k ≡ o → tag_at es e.peer e.birth k ≡ o
tag_on_edge es e k o here tag =
    ap (λ z. tag_of (option_map (λ (keys : List (Key × ℕ)). tag_in keys k)
    (keys_if_born z e.birth))) here
    ∙ ap (λ t. tag_of (option_map (λ (keys : List (Key × ℕ)). tag_in keys k)
    (cond t (Some e.keys) None))) (eq-eqb e.birth e.birth refl) ∙ tag
