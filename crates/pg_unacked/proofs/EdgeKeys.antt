-- Which keys the edge to a peer has after each change of the edges.
use Rattle.std.proofs.Common.{ℕ, ◌≡◌, ◌+◌, Bool, true, false, not, cond, ◌==◌, ◌&&◌, ◌||◌, List, [], ◌∷◌, Option, None, Some, is_some, option_map, refl, sym, ap, subst, ◌∙◌, Less, Equal, Greater, arith, filter}
use Rattle.std.specs.declared.cmp.Ordering.{Ordering}
use Rattle.std.specs.Ordering.{is_eq, ordering_reverse}
use Rattle.std.specs.BTreeMap.{insert_entry}
use Rattle.std.specs.List.Sorted.{IsStrictlySortedBy}
use Rattle.std.specs.Map.{keys_of}
use Rattle.std.proofs.lemmas.Bool.{and_parts}
use Rattle.std.proofs.lemmas.List.Kept.{IsStrictlySortedBy-filter}
use Rattle.std.proofs.lemmas.Bool.Decides.{nat_tests}
use Rattle.pg_base.proofs.Entries.{IsStrictlySortedBy-insert_entry}
use Rattle.pg_edges.specs.declared.edge.Edge.{Edge}
use Rattle.pg_edges.specs.declared.key.Key.{Key}
use Rattle.pg_edges.specs.Key.{key_cmp, is_same_key}
use Rattle.pg_edges.specs.Keys.{tag_in, touch_each, without}
use Rattle.pg_edges.specs.Edges.{are_clean, edge_to, is_none, new_edge, put_edge, retired, take_off, taken_off, touched, without_edge}
use Rattle.pg_edges.proofs.Lookups.{edge_to-put_edge, edge_to-taken_off, tag_in-insert, tag_in-without, turn_test}
use Rattle.pg_edges.proofs.Orders.{key_total}
use Rattle.pg_unacked.specs.Owes.{IsInOrder, has_key, is_key_of, is_to, owes_on}

-- ---- one key more, or less

pub same_turned : (a b : Key) → is_same_key a b ≡ is_same_key b a
same_turned a b = ap is_eq (key_total.antisymm a b) ∙ turned (key_cmp b a)
  where
    turned : (o : Ordering) → is_eq (ordering_reverse o) ≡ is_eq o
    turned Less = refl
    turned Equal = refl
    turned Greater = refl

pub come_by : (s : Bool) (t : ℕ) (o : Option ℕ) → is_some (cond s (Some t) o) ≡ (s || is_some o)
come_by true t o = refl
come_by false t o = refl

go_by : (s : Bool) (o : Option ℕ) → is_some (cond s None o) ≡ (not s && is_some o)
go_by true o = refl
go_by false o = refl

tagged-insert : (keys : List (Key × ℕ)) (key : Key) (t : ℕ) (k : Key)
    → is_some (tag_in (insert_entry key_cmp keys key t) k) ≡ (is_same_key key k || is_some (tag_in keys k))
tagged-insert keys key t k =
    ap is_some (tag_in-insert keys key t k) ∙ come_by (is_same_key k key) t (tag_in keys k)
    ∙ ap (λ s. s || is_some (tag_in keys k)) (same_turned k key)

tagged-without : (keys : List (Key × ℕ)) (key k : Key)
    → is_some (tag_in (without keys key) k) ≡ (not (is_same_key key k) && is_some (tag_in keys k))
tagged-without keys key k =
    ap is_some (tag_in-without keys key k) ∙ go_by (is_same_key k key) (tag_in keys k)
    ∙ ap (λ s. not s && is_some (tag_in keys k)) (same_turned k key)

-- ---- a touch

touched_by : (e : Edge) (es : List Edge) (key k : Key) (t p : ℕ) (s : Bool)
    → owes_on (touched es key (t + 1)) p k ≡ ((is_to es p && is_same_key key k) || owes_on es p k)
    → has_key (cond s (Some (record e { keys = insert_entry key_cmp e.keys key t })) (edge_to (touched es key (t + 1)) p)) k
    ≡ ((is_some (cond s (Some e) (edge_to es p)) && is_same_key key k) || has_key (cond s (Some e) (edge_to es p)) k)
touched_by e es key k t p true rest = tagged-insert e.keys key t k
touched_by e es key k t p false rest = rest

pub owes-touched : (es : List Edge) (key : Key) (t p : ℕ) (k : Key)
    → owes_on (touched es key t) p k ≡ ((is_to es p && is_same_key key k) || owes_on es p k)
owes-touched [] key t p k = refl
owes-touched (e ∷ es) key t p k = touched_by e es key k t p (e.peer == p) (owes-touched es key (t + 1) p k)

ordered_by : (e : Edge) (es : List Edge) (key : Key) (t p : ℕ) (s : Bool)
    → (IsInOrder (edge_to es p) → IsInOrder (edge_to (touched es key (t + 1)) p))
    → IsInOrder (cond s (Some e) (edge_to es p))
    → IsInOrder (cond s (Some (record e { keys = insert_entry key_cmp e.keys key t })) (edge_to (touched es key (t + 1)) p))
ordered_by e es key t p true rest h = IsStrictlySortedBy-insert_entry key_cmp key_total key t e.keys h
ordered_by e es key t p false rest h = rest h

pub ordered-touched : (es : List Edge) (key : Key) (t p : ℕ) → IsInOrder (edge_to es p) → IsInOrder (edge_to (touched es key t) p)
ordered-touched [] key t p h = tt
ordered-touched (e ∷ es) key t p h = ordered_by e es key t p (e.peer == p) (λ k. ordered-touched es key (t + 1) p k) h

-- ---- keys that leave every edge

retired_by : (e : Edge) (es : List Edge) (key k : Key) (p : ℕ) (s : Bool)
    → owes_on (retired es key) p k ≡ (not (is_to es p && is_same_key key k) && owes_on es p k)
    → has_key (cond s (Some (take_off key e)) (edge_to (retired es key) p)) k
    ≡ (not (is_some (cond s (Some e) (edge_to es p)) && is_same_key key k) && has_key (cond s (Some e) (edge_to es p)) k)
retired_by e es key k p true rest = tagged-without e.keys key k
retired_by e es key k p false rest = rest

pub owes-retired : (es : List Edge) (key : Key) (p : ℕ) (k : Key)
    → owes_on (retired es key) p k ≡ (not (is_to es p && is_same_key key k) && owes_on es p k)
owes-retired [] key p k = refl
owes-retired (e ∷ es) key p k = retired_by e es key k p (e.peer == p) (owes-retired es key p k)

keys_of-without : (ks : List (Key × ℕ)) (key : Key) → keys_of (without ks key) ≡ filter (λ k. not (is_same_key key k)) (keys_of ks)
keys_of-without [] key = refl
keys_of-without (k ∷ ks) key = kept_by (not (is_same_key key k.0)) (keys_of-without ks key)
  where
    kept_by : (b : Bool) → keys_of (without ks key) ≡ filter (λ q. not (is_same_key key q)) (keys_of ks)
        → keys_of (cond b (k ∷ without ks key) (without ks key)) ≡ cond b (k.0 ∷ filter (λ q. not (is_same_key key q)) (keys_of ks)) (filter (λ q. not (is_same_key key q)) (keys_of ks))
    kept_by true rest = ap (λ qs. k.0 ∷ qs) rest
    kept_by false rest = rest

without_ordered : (e : Edge) (key : Key) → IsInOrder (Some e) → IsInOrder (Some (take_off key e))
without_ordered e key h =
    subst (IsStrictlySortedBy key_cmp) (sym (keys_of-without e.keys key)) (IsStrictlySortedBy-filter key_cmp (λ k. not (is_same_key key k)) (keys_of e.keys) h)

off_ordered_by : (e : Edge) (es : List Edge) (key : Key) (p : ℕ) (s : Bool)
    → (IsInOrder (edge_to es p) → IsInOrder (edge_to (retired es key) p))
    → IsInOrder (cond s (Some e) (edge_to es p))
    → IsInOrder (cond s (Some (take_off key e)) (edge_to (retired es key) p))
off_ordered_by e es key p true rest h = without_ordered e key h
off_ordered_by e es key p false rest h = rest h

pub ordered-retired : (es : List Edge) (key : Key) (p : ℕ) → IsInOrder (edge_to es p) → IsInOrder (edge_to (retired es key) p)
ordered-retired [] key p h = tt
ordered-retired (e ∷ es) key p h = off_ordered_by e es key p (e.peer == p) (λ k. ordered-retired es key p k) h

-- ---- an edge that goes

out_here : (e : Edge) (es : List Edge) (peer p : ℕ) (s t : Bool) → (e.peer == peer) ≡ s → (e.peer == p) ≡ t → edge_to (without_edge es peer) p ≡ cond (p == peer) None (edge_to es p)
    → edge_to (cond (not s) (e ∷ without_edge es peer) (without_edge es peer)) p ≡ cond (p == peer) None (cond t (Some e) (edge_to es p))
out_here e es peer p true true h k rest =
    let one : (p == peer) ≡ true = grind (arith, nat_tests) in
    rest ∙ ap (λ c. cond c None (edge_to es p)) one ∙ sym (ap (λ c. cond c None (Some e)) one)
out_here e es peer p true false h k rest = rest
out_here e es peer p false true h k rest =
    let two : (p == peer) ≡ false = grind (arith, nat_tests) in
    ap (λ c. cond c (Some e) (edge_to (without_edge es peer) p)) k ∙ sym (ap (λ c. cond c None (Some e)) two)
out_here e es peer p false false h k rest = ap (λ c. cond c (Some e) (edge_to (without_edge es peer) p)) k ∙ rest

edge_to-without_edge : (es : List Edge) (peer p : ℕ) → edge_to (without_edge es peer) p ≡ cond (p == peer) None (edge_to es p)
edge_to-without_edge [] peer p = none_twice (p == peer)
  where
    none_twice : (t : Bool) → ◌≡◌ {A = Option Edge} None (cond t None None)
    none_twice true = refl
    none_twice false = refl
edge_to-without_edge (e ∷ es) peer p = out_here e es peer p (e.peer == peer) (e.peer == p) refl refl (edge_to-without_edge es peer p)

gone_by : (s : Bool) (o : Option Edge) (k : Key) → has_key (cond s None o) k ≡ (not s && has_key o k)
gone_by true o k = refl
gone_by false o k = refl

pub owes-without_edge : (es : List Edge) (peer p : ℕ) (k : Key) → owes_on (without_edge es peer) p k ≡ (not (peer == p) && owes_on es p k)
owes-without_edge es peer p k =
    ap (λ o. has_key o k) (edge_to-without_edge es peer p) ∙ gone_by (p == peer) (edge_to es p) k
    ∙ ap (λ s. not s && owes_on es p k) (turn_test p peer)

gone_ordered : (s : Bool) (o : Option Edge) → IsInOrder o → IsInOrder (cond s None o)
gone_ordered true o h = tt
gone_ordered false o h = h

pub ordered-without_edge : (es : List Edge) (peer p : ℕ) → IsInOrder (edge_to es p) → IsInOrder (edge_to (without_edge es peer) p)
ordered-without_edge es peer p h = subst IsInOrder (sym (edge_to-without_edge es peer p)) (gone_ordered (p == peer) (edge_to es p) h)

-- ---- an edge that comes

in_turn : (a b c : Bool) → (c || (a || b)) ≡ ((a || c) || b)
in_turn true b true = refl
in_turn true b false = refl
in_turn false b c = refl

tags-touch_each : (keys : List (Key × ℕ)) (ks : List Key) (t : ℕ) (k : Key)
    → is_some (tag_in (touch_each keys ks t) k) ≡ (is_key_of k ks || is_some (tag_in keys k))
tags-touch_each keys [] t k = refl
tags-touch_each keys (q ∷ ks) t k =
    tags-touch_each (insert_entry key_cmp keys q t) ks (t + 1) k
    ∙ ap (λ b. is_key_of k ks || b) (tagged-insert keys q t k)
    ∙ in_turn (is_same_key q k) (is_some (tag_in keys k)) (is_key_of k ks)

made_by : (s : Bool) (x : Edge) (o : Option Edge) (k : Key) → has_key (cond s (Some x) o) k ≡ ((s && has_key (Some x) k) || (not s && has_key o k))
made_by true x o k = alone (has_key (Some x) k)
  where
    alone : (b : Bool) → b ≡ (b || false)
    alone true = refl
    alone false = refl
made_by false x o k = refl

no_more : (b : Bool) → (b || false) ≡ b
no_more true = refl
no_more false = refl

-- the older edge to the peer goes
pub owes-made : (es : List Edge) (peer birth : ℕ) (ks : List Key) (t p : ℕ) (k : Key)
    → owes_on (put_edge es (new_edge peer birth ks t)) p k ≡ (((peer == p) && is_key_of k ks) || (not (peer == p) && owes_on es p k))
owes-made es peer birth ks t p k =
    ap (λ o. has_key o k) (edge_to-put_edge es (new_edge peer birth ks t) p)
    ∙ made_by (peer == p) (new_edge peer birth ks t) (edge_to es p) k
    ∙ ap (λ a. ((peer == p) && a) || (not (peer == p) && owes_on es p k)) (tags-touch_each [] ks t k ∙ no_more (is_key_of k ks))

each_ordered : (keys : List (Key × ℕ)) (ks : List Key) (t : ℕ) → IsStrictlySortedBy key_cmp (keys_of keys) → IsStrictlySortedBy key_cmp (keys_of (touch_each keys ks t))
each_ordered keys [] t h = h
each_ordered keys (q ∷ ks) t h = each_ordered (insert_entry key_cmp keys q t) ks (t + 1) (IsStrictlySortedBy-insert_entry key_cmp key_total q t keys h)

none_ordered : IsStrictlySortedBy key_cmp []
unfolding IsStrictlySortedBy
none_ordered = tt

made_ordered : (s : Bool) (x : Edge) (o : Option Edge) → IsInOrder (Some x) → IsInOrder o → IsInOrder (cond s (Some x) o)
made_ordered true x o h k = h
made_ordered false x o h k = k

pub ordered-made : (es : List Edge) (peer birth : ℕ) (ks : List Key) (t p : ℕ) → IsInOrder (edge_to es p) → IsInOrder (edge_to (put_edge es (new_edge peer birth ks t)) p)
ordered-made es peer birth ks t p h =
    subst IsInOrder (sym (edge_to-put_edge es (new_edge peer birth ks t) p))
    (made_ordered (peer == p) (new_edge peer birth ks t) (edge_to es p) (each_ordered [] ks t none_ordered) h)

-- ---- an answer

off_same : (s : Bool) → false ≡ (not s && false)
off_same true = refl
off_same false = refl

taken_by : (s : Bool) (o : Option Edge) (key k : Key)
    → has_key (cond s (option_map (take_off key) o) o) k ≡ (not (s && is_same_key key k) && has_key o k)
taken_by true None key k = off_same (is_same_key key k)
taken_by true (Some e) key k = tagged-without e.keys key k
taken_by false o key k = refl

pub owes-taken_off : (es : List Edge) (peer p : ℕ) (key k : Key)
    → owes_on (taken_off es peer key) p k ≡ (not ((peer == p) && is_same_key key k) && owes_on es p k)
owes-taken_off es peer p key k =
    ap (λ o. has_key o k) (edge_to-taken_off es peer p key) ∙ taken_by (p == peer) (edge_to es p) key k
    ∙ ap (λ s. not (s && is_same_key key k) && owes_on es p k) (turn_test p peer)

taken_ordered : (s : Bool) (o : Option Edge) (key : Key) → IsInOrder o → IsInOrder (cond s (option_map (take_off key) o) o)
taken_ordered true None key h = tt
taken_ordered true (Some e) key h = without_ordered e key h
taken_ordered false o key h = h

pub ordered-taken_off : (es : List Edge) (peer p : ℕ) (key : Key) → IsInOrder (edge_to es p) → IsInOrder (edge_to (taken_off es peer key) p)
ordered-taken_off es peer p key h = subst IsInOrder (sym (edge_to-taken_off es peer p key)) (taken_ordered (p == peer) (edge_to es p) key h)

-- ---- edges that are all clean

no_keys : (keys : List (Key × ℕ)) → is_none keys ≡ true → keys ≡ []
no_keys [] h = refl
no_keys (k ∷ keys) h = absurd (let z : false ≡ true = h in cc)

clean_by : (e : Edge) (o : Option Edge) (k : Key) (s : Bool) → is_none e.keys ≡ true → has_key o k ≡ false → has_key (cond s (Some e) o) k ≡ false
clean_by e o k true h rest = ap (λ ks. is_some (tag_in ks k)) (no_keys e.keys h)
clean_by e o k false h rest = rest

pub owes-clean : (es : List Edge) (p : ℕ) (k : Key) → are_clean es ≡ true → owes_on es p k ≡ false
owes-clean [] p k h = refl
owes-clean (e ∷ es) p k h =
    let b = and_parts (is_none e.keys) (are_clean es) h in
    clean_by e (edge_to es p) k (e.peer == p) b.0 (owes-clean es p k b.1)

clean_in_order : (e : Edge) (o : Option Edge) (s : Bool) → is_none e.keys ≡ true → IsInOrder o → IsInOrder (cond s (Some e) o)
clean_in_order e o true h rest = subst (λ (ks : List (Key × ℕ)). IsStrictlySortedBy key_cmp (keys_of ks)) (sym (no_keys e.keys h)) none_ordered
clean_in_order e o false h rest = rest

pub ordered-clean : (es : List Edge) (p : ℕ) → are_clean es ≡ true → IsInOrder (edge_to es p)
ordered-clean [] p h = tt
ordered-clean (e ∷ es) p h =
    let b = and_parts (is_none e.keys) (are_clean es) h in
    clean_in_order e (edge_to es p) (e.peer == p) b.0 (ordered-clean es p b.1)
