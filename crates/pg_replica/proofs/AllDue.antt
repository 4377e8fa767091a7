-- What is due to a peer is what the edges to it have, in order.
use Rattle.std.proofs.Common.{ℕ, ◌≡◌, Bool, true, false, cond, ◌&&◌, ◌||◌, List, [], ◌∷◌, ◌++◌, map, Option, None, Some, is_some, refl, sym, ap, subst, ◌∙◌, Less}
use Rattle.std.specs.declared.cmp.Ordering.{Ordering}
use Rattle.std.specs.Cmp.{tied_itself}
use Rattle.std.specs.Ordering.{is_eq, ordering_then}
use Rattle.std.specs.List.{AllByRecursion}
use Rattle.std.specs.List.Sorted.{IsStrictlySortedBy}
use Rattle.std.specs.Map.{keys_of}
use Rattle.pg_base.specs.declared.id.FileId.{FileId}
use Rattle.pg_base.specs.Id.{file_cmp, is_same_file}
use Rattle.pg_base.proofs.Orders.{file_total, is_same_file-refl, is_same_file-true}
use Rattle.pg_edges.specs.declared.edge.Edge.{Edge}
use Rattle.pg_edges.specs.declared.key.Key.{Key}
use Rattle.pg_edges.specs.Key.{is_same_key, key_cmp}
use Rattle.pg_edges.specs.Keys.{tag_in}
use Rattle.pg_edges.specs.Edges.{edge_to}
use Rattle.pg_unacked.specs.declared.due.Due.{Due}
use Rattle.pg_unacked.specs.Due.{UnackedValue, due_cmp, dues_to, is_due, is_same_due}
use Rattle.pg_unacked.proofs.Dues.{same_dues}
use Rattle.pg_replica.specs.declared.replica.Replica.{Replica}
use Rattle.pg_unacked.specs.Owes.{IsInOrder, has_key, owes_on}
use Rattle.pg_replica.specs.Replicas.{ByFile, replica_in}
use Rattle.pg_unacked.specs.Changes.{due_at}
use Rattle.pg_replica.specs.Unacked.{AreDue, dues_of, edges_of, keys_due, unacked}
use Rattle.pg_replica.proofs.InOrder.{both_eq}

-- ---- which they are

due_joined : (d : Due) (xs ys : List Due) → is_due d (xs ++ ys) ≡ (is_due d xs || is_due d ys)
due_joined d [] ys = refl
due_joined d (x ∷ xs) ys = ap (λ b. is_same_due d x || b) (due_joined d xs ys) ∙ in_turn (is_same_due d x) (is_due d xs) (is_due d ys)
  where
    in_turn : (a b c : Bool) → (a || (b || c)) ≡ ((a || b) || c)
    in_turn true b c = refl
    in_turn false b c = refl

with_key : (f s o : Bool) (t : ℕ) (q : Option ℕ) → is_some q ≡ o → ((f && s) || (f && o)) ≡ (f && is_some (cond s (Some t) q))
with_key true true o t q h = refl
with_key true false o t q h = sym h
with_key false s o t q h = refl

no_due : (f : Bool) → false ≡ (f && false)
no_due true = refl
no_due false = refl

due_of_keys : (d : Due) (file : FileId) (ks : List (Key × ℕ))
    → is_due d (map (λ (k : Key × ℕ). due_at file k.0) ks) ≡ (is_same_file d.file file && is_some (tag_in ks d.key))
due_of_keys d file [] = no_due (is_same_file d.file file)
due_of_keys d file (k ∷ ks) =
    ap (λ b. is_same_due d (due_at file k.0) || b) (due_of_keys d file ks)
    ∙ ap (λ b. b || (is_same_file d.file file && is_some (tag_in ks d.key))) (sym (both_eq (file_cmp d.file file) (key_cmp d.key k.0)))
    ∙ with_key (is_same_file d.file file) (is_same_key d.key k.0) (is_some (tag_in ks d.key)) k.1 (tag_in ks d.key) refl

due_of_edge : (d : Due) (file : FileId) (o : Option Edge) → is_due d (keys_due file o) ≡ (is_same_file d.file file && has_key o d.key)
due_of_edge d file None = no_due (is_same_file d.file file)
due_of_edge d file (Some e) = due_of_keys d file e.keys

at_lesser : (t : Bool) (o : Ordering) (x : Replica) (q : Option Replica) → is_eq o ≡ t → o ≡ Less → ◌≡◌ {A = Option Replica} q None → ◌≡◌ {A = Option Replica} (cond t (Some x) q) None
at_lesser true o x q h less rest = absurd (let z : false ≡ true = sym (ap is_eq less) ∙ h in cc)
at_lesser false o x q h less rest = rest

-- no replica of a file below all others
none_below : (file : FileId) (es : ByFile) → AllByRecursion (λ k. file_cmp file k ≡ Less) (keys_of es) → ◌≡◌ {A = Option Replica} (replica_in es file) None
none_below file [] h = refl
none_below file (r ∷ es) h = at_lesser (is_eq (file_cmp file r.0)) (file_cmp file r.0) r.1 (replica_in es file) refl h.0 (none_below file es h.1)

module _ (peer : ℕ) where
  due_by : (d : Due) (r : FileId × Replica) (es : ByFile) (t : Bool) → is_same_file d.file r.0 ≡ t
      → AllByRecursion (λ k. file_cmp r.0 k ≡ Less) (keys_of es)
      → is_due d (unacked es peer) ≡ owes_on (edges_of (replica_in es d.file)) peer d.key
      → ((t && owes_on r.1.edges peer d.key) || is_due d (unacked es peer)) ≡ owes_on (edges_of (cond t (Some r.1) (replica_in es d.file))) peer d.key
  due_by d r es true h above rest =
      ap (λ b. owes_on r.1.edges peer d.key || b)
      (rest ∙ ap (λ o. owes_on (edges_of o) peer d.key)
      (ap (replica_in es) (is_same_file-true d.file r.0 h) ∙ none_below r.0 es above))
      ∙ alone (owes_on r.1.edges peer d.key)
    where
      alone : (a : Bool) → (a || false) ≡ a
      alone true = refl
      alone false = refl
  due_by d r es false h above rest = rest

  due_of_all : (d : Due) (es : ByFile) → IsStrictlySortedBy file_cmp (keys_of es)
      → is_due d (unacked es peer) ≡ owes_on (edges_of (replica_in es d.file)) peer d.key
  unfolding IsStrictlySortedBy
  due_of_all d [] sorted = refl
  due_of_all d (r ∷ es) sorted =
      due_joined d (dues_of peer r) (unacked es peer)
      ∙ ap (λ b. b || is_due d (unacked es peer)) (due_of_edge d r.0 (edge_to r.1.edges peer))
      ∙ due_by d r es (is_same_file d.file r.0) refl sorted.0 (due_of_all d es sorted.1)

-- ---- their order

all_joined : {X : Type 0} (P : X → Type 0) (xs ys : List X) → AllByRecursion P xs → AllByRecursion P ys → AllByRecursion P (xs ++ ys)
all_joined P [] ys h k = k
all_joined P (x ∷ xs) ys h k = (h.0, all_joined P xs ys h.1 k)

key_below : (file : FileId) (k : Key) (ks : List (Key × ℕ)) → AllByRecursion (λ q. key_cmp k q ≡ Less) (keys_of ks)
    → AllByRecursion (λ d. due_cmp (due_at file k) d ≡ Less) (map (λ (t : Key × ℕ). due_at file t.0) ks)
key_below file k [] h = tt
key_below file k (t ∷ ks) h = (ap (λ o. ordering_then o (key_cmp k t.0)) (tied_itself file_total file) ∙ h.0, key_below file k ks h.1)

file_below : (file : FileId) (k : Key) (ys : List Due) → AllByRecursion (λ d. file_cmp file d.file ≡ Less) ys → AllByRecursion (λ d. due_cmp (due_at file k) d ≡ Less) ys
file_below file k [] h = tt
file_below file k (y ∷ ys) h = (ap (λ o. ordering_then o (key_cmp k y.key)) h.0, file_below file k ys h.1)

keys_first : (file : FileId) (ks : List (Key × ℕ)) (ys : List Due) → IsStrictlySortedBy key_cmp (keys_of ks) → AllByRecursion (λ d. file_cmp file d.file ≡ Less) ys
    → IsStrictlySortedBy due_cmp ys → IsStrictlySortedBy due_cmp (map (λ (t : Key × ℕ). due_at file t.0) ks ++ ys)
unfolding IsStrictlySortedBy
keys_first file [] ys h above sorted = sorted
keys_first file (t ∷ ks) ys h above sorted = (
  all_joined (λ d. due_cmp (due_at file t.0) d ≡ Less) (map (λ (q : Key × ℕ). due_at file q.0) ks) ys (key_below file t.0 ks h.0) (file_below file t.0 ys above),
  keys_first file ks ys h.1 above sorted,
)

edge_first : (file : FileId) (o : Option Edge) (ys : List Due) → IsInOrder o → AllByRecursion (λ d. file_cmp file d.file ≡ Less) ys
    → IsStrictlySortedBy due_cmp ys → IsStrictlySortedBy due_cmp (keys_due file o ++ ys)
edge_first file None ys h above sorted = sorted
edge_first file (Some e) ys h above sorted = keys_first file e.keys ys h above sorted

file_of_keys : (file q : FileId) (ks : List (Key × ℕ)) → file_cmp file q ≡ Less → AllByRecursion (λ d. file_cmp file d.file ≡ Less) (map (λ (t : Key × ℕ). due_at q t.0) ks)
file_of_keys file q [] h = tt
file_of_keys file q (t ∷ ks) h = (h, file_of_keys file q ks h)

file_of_edge : (file q : FileId) (o : Option Edge) → file_cmp file q ≡ Less → AllByRecursion (λ d. file_cmp file d.file ≡ Less) (keys_due q o)
file_of_edge file q None h = tt
file_of_edge file q (Some e) h = file_of_keys file q e.keys h

above_all : (peer : ℕ) (file : FileId) (es : ByFile) → AllByRecursion (λ k. file_cmp file k ≡ Less) (keys_of es) → AllByRecursion (λ d. file_cmp file d.file ≡ Less) (unacked es peer)
above_all peer file [] h = tt
above_all peer file (r ∷ es) h =
    all_joined (λ d. file_cmp file d.file ≡ Less) (dues_of peer r) (unacked es peer) (file_of_edge file r.0 (edge_to r.1.edges peer) h.0) (above_all peer file es h.1)

-- the edges to the peer have their keys in order
abbrev Ordered : ℕ → ByFile → Type 0
Ordered peer es = (q : FileId) → IsInOrder (edge_to (edges_of (replica_in es q)) peer)

ordered_head : (peer : ℕ) (r : FileId × Replica) (es : ByFile) → Ordered peer (r ∷ es) → IsInOrder (edge_to r.1.edges peer)
ordered_head peer r es h =
    subst (λ (t : Bool). IsInOrder (edge_to (edges_of (cond t (Some r.1) (replica_in es r.0))) peer)) (is_same_file-refl r.0) (h r.0)

ordered_by : (peer : ℕ) (r : FileId × Replica) (es : ByFile) (q : FileId) (t : Bool) → is_same_file q r.0 ≡ t → ◌≡◌ {A = Option Replica} (replica_in es r.0) None
    → IsInOrder (edge_to (edges_of (cond t (Some r.1) (replica_in es q))) peer) → IsInOrder (edge_to (edges_of (replica_in es q)) peer)
ordered_by peer r es q true e none h =
    subst (λ (o : Option Replica). IsInOrder (edge_to (edges_of o) peer)) (sym (ap (replica_in es) (is_same_file-true q r.0 e) ∙ none)) tt
ordered_by peer r es q false e none h = h

sorted_all : (peer : ℕ) (es : ByFile) → IsStrictlySortedBy file_cmp (keys_of es) → Ordered peer es → IsStrictlySortedBy due_cmp (unacked es peer)
unfolding IsStrictlySortedBy
sorted_all peer [] sorted h = tt
sorted_all peer (r ∷ es) sorted h =
    edge_first r.0 (edge_to r.1.edges peer) (unacked es peer) (ordered_head peer r es h) (above_all peer r.0 es sorted.0)
    (sorted_all peer es sorted.1 (λ q. ordered_by peer r es q (is_same_file q r.0) refl (none_below r.0 es sorted.0) (h q)))

-- ---- so they are one list

pub unacked_is : (u : UnackedValue) (es : ByFile) (peer : ℕ) → IsStrictlySortedBy file_cmp (keys_of es) → AreDue u es → IsStrictlySortedBy due_cmp (dues_to u peer)
    → dues_to u peer ≡ unacked es peer
unacked_is u es peer by_file due sorted =
    same_dues (dues_to u peer) (unacked es peer) sorted (sorted_all peer es by_file (λ q. (due q).ordered peer))
    (λ d. (due d.file).due peer d.key ∙ sym (due_of_all peer d es by_file))
