-- Replicas whose peers have acknowledged every key.
use Rattle.std.proofs.Common.{◌≡◌, ℕ, zero, suc, Bool, true, false, cond, not, length, arith, nat_eq, ◌==◌, Some, List, [], ◌∷◌, ◌++◌, refl, ap, ◌∙◌, Less, Equal, Greater}
use Rattle.std.specs.declared.cmp.Ordering.{Ordering}
use Rattle.std.specs.Ordering.{nat_cmp, match_ordering}
use Rattle.std.specs.Option.{option_eq}
use Rattle.std.specs.List.{filter, flat_map}
use Rattle.std.proofs.lemmas.Bool.{and_parts, and_from}
use Rattle.pg_edges.specs.declared.key.Key.{Key}
use Rattle.pg_edges.specs.declared.edge.Edge.{Edge}
use Rattle.pg_edges.specs.Keys.{without}
use Rattle.pg_edges.specs.Edges.{acked, is_listed, put_edge, take_off, taken_off, tag_at, unlinked, without_edge}
use Rattle.pg_replica.specs.declared.link.Link.{Link}
use Rattle.pg_replica.specs.declared.replica.Replica.{Replica}
use Rattle.pg_edges.specs.Edges.{is_none, are_clean}
use Rattle.pg_replica.specs.Replica.{has_edge, with_ack_along}
use Rattle.pg_replica.specs.Root.{clean_edge, clean_edges}

-- ---- replicas that are all clean

is_none-true : (keys : List (Key × ℕ)) → is_none keys ≡ true → keys ≡ []
is_none-true [] h = refl
is_none-true (k ∷ keys) h = cc

pub clean_pieces : {A : Type 0} (f : Edge → List A) → ((e : Edge) → e.keys ≡ [] → f e ≡ []) → (es : List Edge) → are_clean es ≡ true → flat_map f es ≡ []
clean_pieces f none [] h = refl
clean_pieces f none (e ∷ es) h =
    let b = and_parts (is_none e.keys) (are_clean es) h in
    ap (λ l. l ++ flat_map f es) (none e (is_none-true e.keys b.0)) ∙ clean_pieces f none es b.1

-- an answer makes no replica unclean
clean_edge_by : (key : Key) (e : Edge) (t : Bool) → is_none e.keys ≡ true → is_none (cond t (take_off key e) e).keys ≡ true
clean_edge_by key e true h = ap (λ ks. is_none (without ks key)) (is_none-true e.keys h)
clean_edge_by key e false h = h

clean_taken_off : (peer : ℕ) (key : Key) (es : List Edge) → are_clean es ≡ true → are_clean (taken_off es peer key) ≡ true
clean_taken_off peer key [] h = refl
clean_taken_off peer key (e ∷ es) h =
    let b = and_parts (is_none e.keys) (are_clean es) h in
    and_from _ _ (clean_edge_by key e (e.peer == peer) b.0) (clean_taken_off peer key es b.1)

clean_by : (es fs : List Edge) (t : Bool) → are_clean fs ≡ true → are_clean es ≡ true → are_clean (cond t fs es) ≡ true
clean_by es fs true h k = h
clean_by es fs false h k = k

pub clean_acked : (es : List Edge) (peer birth : ℕ) (key : Key) (tag : ℕ) → are_clean es ≡ true → are_clean (acked es peer birth key tag) ≡ true
clean_acked es peer birth key tag h = clean_by es (taken_off es peer key) (option_eq nat_eq (tag_at es peer birth key) (Some tag)) (clean_taken_off peer key es h) h

-- ---- the first replica of the root

clean_put_by : (e x : Edge) (es : List Edge) (o : Ordering) → is_none x.keys ≡ true
    → are_clean (e ∷ es) ≡ true → are_clean (put_edge es x) ≡ true
    → are_clean (match_ordering o (x ∷ e ∷ es) (x ∷ es) (e ∷ put_edge es x)) ≡ true
clean_put_by e x es Less h k ih = and_from _ _ h k
clean_put_by e x es Equal h k ih = and_from _ _ h (and_parts (is_none e.keys) (are_clean es) k).1
clean_put_by e x es Greater h k ih = and_from _ _ (and_parts (is_none e.keys) (are_clean es) k).0 ih

clean_put : (es : List Edge) (x : Edge) → is_none x.keys ≡ true → are_clean es ≡ true
    → are_clean (put_edge es x) ≡ true
clean_put [] x h k = and_from _ _ h k
clean_put (e ∷ es) x h k =
    clean_put_by e x es (nat_cmp x.peer e.peer) h k
    (clean_put es x h (and_parts (is_none e.keys) (are_clean es) k).1)

pub clean_first : (server servers : ℕ) → are_clean (clean_edges server servers) ≡ true
clean_first server zero = refl
clean_first server (suc k) =
    clean_by (put_edge (clean_edges server k) (clean_edge (suc k))) (clean_edges server k)
    (suc k == server) (clean_first server k)
    (clean_put (clean_edges server k) (clean_edge (suc k)) refl (clean_first server k))

-- ---- an answer makes no replica unclean

pub clean_along : (x : Replica) (link : Link) (key : Key) (tag : ℕ) → are_clean x.edges ≡ true
    → are_clean (with_ack_along x link key tag).edges ≡ true
clean_along x link key tag h =
    along_by (has_edge x link) (acked x.edges link.peer link.birth key tag)
    (clean_acked x.edges link.peer link.birth key tag h)
  where
    along_by : (t : Bool) (es : List Edge) → are_clean es ≡ true
        → are_clean (cond t (record x { edges = es }) x).edges ≡ true
    along_by true es k = k
    along_by false es k = h

-- ---- nor does an edge that goes

clean_kept : (p : Edge → Bool) (es : List Edge) → are_clean es ≡ true → are_clean (filter p es) ≡ true
clean_kept p [] h = refl
clean_kept p (e ∷ es) h =
    let b = and_parts (is_none e.keys) (are_clean es) h in
    clean_by (filter p es) (e ∷ filter p es) (p e) (and_from _ _ b.0 (clean_kept p es b.1)) (clean_kept p es b.1)

pub clean_unlinked : (es : List Edge) (peer birth : ℕ) → are_clean es ≡ true → are_clean (unlinked es peer birth) ≡ true
clean_unlinked es peer birth h =
    clean_by es (without_edge es peer) (is_listed es peer birth) (clean_kept (λ (e : Edge). not (e.peer == peer)) es h) h

-- ---- where there is no edge, all is clean

pub clean_none : (es : List Edge) → length es ≡ 0 → are_clean es ≡ true
clean_none [] h = refl
clean_none (e ∷ es) h = absurd (omega arith)
