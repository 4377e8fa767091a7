-- The edges of a replica: at most one to each other server, by number.
use Rattle.std.proofs.Common.{[], ℕ, zero, suc, ◌≡◌, ◌≢◌, ◌≤◌, ◌+◌, nat_eq, ◌==◌, Bool, true, false, not, cond, List, ◌∷◌, Some, Less, Equal, Greater, refl, sym, ap, subst, ◌∙◌, inl, inr, arith, All}
use Rattle.std.specs.Ordering.{nat_cmp, match_ordering}
use Rattle.std.specs.List.{filter}
use Rattle.std.specs.List.Sorted.{IsStrictlySortedBy}
use Rattle.std.specs.Option.{option_eq}
use Rattle.std.specs.Map.{keys_of}
use Rattle.std.specs.BTreeMap.{insert_entry}
use Rattle.std.proofs.lemmas.Bool.Decides.{eqb_tells}
use Rattle.std.proofs.lemmas.List.Elements.{All-nil, All-cons, All-filter, All-head, All-tail, All-weaker, All-map}
use Rattle.std.proofs.lemmas.List.Kept.{IsStrictlySortedBy-filter}
use Rattle.pg_base.proofs.Entries.{IsStrictlySortedBy-insert_entry}
use Rattle.pg_edges.specs.declared.edge.Edge.{Edge}
use Rattle.pg_edges.specs.declared.key.Key.{Key}
use Rattle.pg_edges.specs.Key.{key_cmp, is_same_key}
use Rattle.pg_edges.specs.Keys.{touch_each, without as off}
use Rattle.pg_edges.specs.Edges.{acked, is_listed, linked, makes_edge, new_edge, peers, put_edge, retired, tag_at, take_off, taken_off, touched, unlinked, without_edge, AscendFrom}
use Rattle.pg_edges.proofs.Orders.{key_total}
use Rattle.pg_edges.proofs.Lists.{ascend-filter, ascend-same, ascend-put_edge}
use Rattle.pg_edges.proofs.Edits.{peers-retired, peers-touched}
use Rattle.theory_flood.specs.Laws.{IsClean}
use Rattle.pg_cells.specs.pg_replica.Replica.{without_keys}
use Rattle.pg_cells.specs.pg_replica.Root.{clean_edge, clean_edges}
use Rattle.theory_flood_pieces.specs.Whole.{AreEdges, IsEdge, IsOther}
use Rattle.theory_flood_pieces.proofs.Choices.{chosen}

-- ---- edges

-- the same edge with other keys
with_keys : (n s : ℕ) (e : Edge) (ks : List (Key × ℕ)) → IsEdge n s e
    → IsStrictlySortedBy key_cmp (keys_of ks) → IsEdge n s (record e { keys = ks })
with_keys n s e ks k h = record { other = k.other; sorted = h }

choice_off : (k : Key × ℕ) (p : Key → Bool) (ks : List (Key × ℕ)) (t : Bool)
    → keys_of (filter (λ (e : Key × ℕ). p e.0) ks) ≡ filter p (keys_of ks)
    → keys_of (cond t (k ∷ filter (λ (e : Key × ℕ). p e.0) ks) (filter (λ (e : Key × ℕ). p e.0) ks))
    ≡ cond t (k.0 ∷ filter p (keys_of ks)) (filter p (keys_of ks))
choice_off k p ks true h = ap (λ qs. k.0 ∷ qs) h
choice_off k p ks false h = h

keys_of-filter : (p : Key → Bool) (ks : List (Key × ℕ))
    → keys_of (filter (λ (e : Key × ℕ). p e.0) ks) ≡ filter p (keys_of ks)
keys_of-filter p [] = refl
keys_of-filter p (k ∷ ks) = choice_off k p ks (p k.0) (keys_of-filter p ks)

-- where a key goes
sorted_off : (ks : List (Key × ℕ)) (k : Key) → IsStrictlySortedBy key_cmp (keys_of ks)
    → IsStrictlySortedBy key_cmp (keys_of (off ks k))
sorted_off ks k h =
    let p : Key → Bool = (λ q. not (is_same_key k q)) in
    let P : List Key → Type 0 = IsStrictlySortedBy key_cmp in
    subst P (sym (keys_of-filter p ks)) (IsStrictlySortedBy-filter key_cmp p (keys_of ks) h)

-- a key leaves every edge
edges_retired : (n s : ℕ) (es : List Edge) (k : Key) → AreEdges n s es → AreEdges n s (retired es k)
edges_retired n s es k h = record {
  each =
      All-map (IsEdge n s) (take_off k) es
      (All-weaker (IsEdge n s) (λ e. IsEdge n s (take_off k e))
      (λ e i. with_keys n s e (off e.keys k) i (sorted_off e.keys k i.sorted)) es h.each);
  order = ascend-same 0 (peers es) (peers (retired es k)) (peers-retired es k) h.order;
}

pub edges_without : (n s : ℕ) (es : List Edge) (ks : List Key) → AreEdges n s es
    → AreEdges n s (without_keys es ks)
edges_without n s es [] h = h
edges_without n s es (k ∷ ks) h = edges_without n s (retired es k) ks (edges_retired n s es k h)

all_touched : (n s : ℕ) (k : Key) (es : List Edge) (t : ℕ) → All (IsEdge n s) es
    → All (IsEdge n s) (touched es k t)
all_touched n s k [] t h = All-nil (IsEdge n s)
all_touched n s k (e ∷ es) t h =
    let first = All-head (IsEdge n s) e es h in
    All-cons (IsEdge n s) _ (touched es k (t + 1))
    (with_keys n s e (insert_entry key_cmp e.keys k t) first
    (IsStrictlySortedBy-insert_entry key_cmp key_total k t e.keys first.sorted))
    (all_touched n s k es (t + 1) (All-tail (IsEdge n s) e es h))

-- a key comes to every edge
pub edges_touched : (n s : ℕ) (k : Key) (es : List Edge) (t : ℕ) → AreEdges n s es
    → AreEdges n s (touched es k t)
edges_touched n s k es t h = record {
  each = all_touched n s k es t h.each;
  order = ascend-same 0 (peers es) (peers (touched es k t)) (peers-touched es k t) h.order;
}

same_peer : (e : Edge) (k : Key) (t : Bool) → (cond t (take_off k e) e).peer ≡ e.peer
same_peer e k true = refl
same_peer e k false = refl

peers-taken_off : (es : List Edge) (peer : ℕ) (k : Key) → peers (taken_off es peer k) ≡ peers es
peers-taken_off [] peer k = refl
peers-taken_off (e ∷ es) peer k =
    ap (λ p. p ∷ peers (taken_off es peer k)) (same_peer e k (e.peer == peer))
    ∙ ap (λ ps. e.peer ∷ ps) (peers-taken_off es peer k)

peers-acked : (es : List Edge) (peer : ℕ) (k : Key) (t : Bool)
    → peers (cond t (taken_off es peer k) es) ≡ peers es
peers-acked es peer k true = peers-taken_off es peer k
peers-acked es peer k false = refl

all_taken_off : (n s : ℕ) (es : List Edge) (peer : ℕ) (k : Key) → All (IsEdge n s) es
    → All (IsEdge n s) (taken_off es peer k)
all_taken_off n s es peer k h =
    All-map (IsEdge n s) (λ (e : Edge). cond (e.peer == peer) (take_off k e) e) es
    (All-weaker (IsEdge n s) (λ e. IsEdge n s (cond (e.peer == peer) (take_off k e) e))
    (λ e i. chosen (IsEdge n s) (e.peer == peer) (take_off k e) e
    (with_keys n s e (off e.keys k) i (sorted_off e.keys k i.sorted)) i) es h)

-- a key is answered
pub edges_acked : (n s : ℕ) (es : List Edge) (peer birth : ℕ) (k : Key) (g : ℕ) → AreEdges n s es
    → AreEdges n s (acked es peer birth k g)
edges_acked n s es peer birth k g h = record {
  each = chosen (λ zs. All (IsEdge n s) zs) (option_eq nat_eq (tag_at es peer birth k) (Some g))
      (taken_off es peer k) es (all_taken_off n s es peer k h.each) h.each;
  order = ascend-same 0 (peers es) (peers (acked es peer birth k g))
      (peers-acked es peer k (option_eq nat_eq (tag_at es peer birth k) (Some g))) h.order;
}

-- ---- the start

All-put_edge : (P : Edge → Type 0) (es : List Edge) (x : Edge) → All P es → P x
    → All P (put_edge es x)
All-put_edge P [] x h one = All-cons P x [] one h
All-put_edge P (e ∷ es) x h one =
    let first = All-head P e es h in
    let rest = All-tail P e es h in
    elim (nat_cmp x.peer e.peer) as
    (λ o. All P (match_ordering o (x ∷ e ∷ es) (x ∷ es) (e ∷ put_edge es x))) [
      | Less ↦ All-cons P x (e ∷ es) one h
      | Equal ↦ All-cons P x es one rest
      | Greater ↦ All-cons P e (put_edge es x) first (All-put_edge P es x rest one)
    ]

no_keys_sorted : IsStrictlySortedBy key_cmp (keys_of {X = ℕ} [])
unfolding IsStrictlySortedBy
no_keys_sorted = tt

-- what holds of a clean edge to each other server holds of all of them
clean_all : (P : Edge → Type 0) (n s k : ℕ)
    → ((peer : ℕ) → 1 ≤ peer → peer ≤ n → peer ≢ s → P (clean_edge peer)) → k ≤ n
    → All P (clean_edges s k)
clean_all P n s zero one le = All-nil P
clean_all P n s (suc k) one le =
    let before = clean_all P n s k one (omega arith) in
    let Q : Bool → Type 0 =
    (λ t. All P (cond t (clean_edges s k) (put_edge (clean_edges s k) (clean_edge (suc k))))) in
    elim (eqb_tells (suc k) s) [
      | inl e ↦ subst Q (sym e.0) before
      | inr e ↦ subst Q (sym e.0)
          (All-put_edge P (clean_edges s k) (clean_edge (suc k)) before
          (one (suc k) (omega arith) le e.1))
    ]

pub clean_each : (n s : ℕ) → All (IsEdge n s) (clean_edges s n)
clean_each n s = clean_all (IsEdge n s) n s n
    (λ peer least most apart. record {
      other = record { least = least; most = most; apart = apart };
      sorted = no_keys_sorted;
    }) (omega arith)

-- no key is on them
pub new_clean : (n s : ℕ) → IsClean (clean_edges s n)
new_clean n s = clean_all (λ (e : Edge). e.keys ≡ []) n s n (λ peer least most apart. refl)
    (omega arith)

pub clean_order : (s k : ℕ) → AscendFrom 0 (peers (clean_edges s k))
clean_order s zero = tt
clean_order s (suc k) =
    chosen (λ es. AscendFrom 0 (peers es)) (suc k == s) (clean_edges s k)
    (put_edge (clean_edges s k) (clean_edge (suc k)))
    (clean_order s k) (ascend-put_edge 0 (clean_edges s k) (clean_edge (suc k)) (clean_order s k)
    (omega arith))

-- the edges of the first replica of the root
pub clean_are : (n s : ℕ) → AreEdges n s (clean_edges s n)
clean_are n s = record { each = clean_each n s; order = clean_order s n }

-- ---- no edge, an edge that is made, and one that goes

pub no_edges : (n s : ℕ) → AreEdges n s []
no_edges n s = record { each = All-nil (IsEdge n s); order = tt }

-- keys are put one after another
sorted_puts : (ks : List Key) (t : ℕ) (es : List (Key × ℕ)) → IsStrictlySortedBy key_cmp (keys_of es)
    → IsStrictlySortedBy key_cmp (keys_of (touch_each es ks t))
sorted_puts [] t es h = h
sorted_puts (k ∷ ks) t es h =
    sorted_puts ks (t + 1) (insert_entry key_cmp es k t)
    (IsStrictlySortedBy-insert_entry key_cmp key_total k t es h)

linked_by : (n s : ℕ) (es : List Edge) (peer birth : ℕ) (ks : List Key) (t : ℕ) (made : Bool) → IsOther n s peer
    → AreEdges n s es → AreEdges n s (cond made (put_edge es (new_edge peer birth ks t)) es)
linked_by n s es peer birth ks t false other h = h
linked_by n s es peer birth ks t true other h = record {
  each = All-put_edge (IsEdge n s) es (new_edge peer birth ks t) h.each
      (record { other = other; sorted = sorted_puts ks t [] no_keys_sorted });
  order = ascend-put_edge 0 es (new_edge peer birth ks t) h.order (omega arith);
}

pub edges_linked : (n s : ℕ) (es : List Edge) (peer birth : ℕ) (ks : List Key) (t : ℕ) → IsOther n s peer → AreEdges n s es
    → AreEdges n s (linked es peer birth ks t)
edges_linked n s es peer birth ks t other h = linked_by n s es peer birth ks t (makes_edge es peer birth) other h

unlinked_by : (n s : ℕ) (es : List Edge) (peer : ℕ) (listed : Bool) → AreEdges n s es → AreEdges n s (cond listed (without_edge es peer) es)
unlinked_by n s es peer false h = h
unlinked_by n s es peer true h = record {
  each = All-filter (λ e. not (e.peer == peer)) (IsEdge n s) es h.each;
  order = ascend-filter 0 (λ e. not (e.peer == peer)) es h.order;
}

pub edges_unlinked : (n s : ℕ) (es : List Edge) (peer birth : ℕ) → AreEdges n s es → AreEdges n s (unlinked es peer birth)
edges_unlinked n s es peer birth h = unlinked_by n s es peer (is_listed es peer birth) h
