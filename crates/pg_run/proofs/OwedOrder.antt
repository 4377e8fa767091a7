-- What a server owes is in the order of files, then of peers, then of keys.
use Rattle.std.proofs.Common.{ℕ, ◌≡◌, ◌<◌, ◌+◌, List, [], ◌∷◌, ◌++◌, Less, Equal, get_or, map, refl, sym, ap, ◌∙◌, arith, All}
use Rattle.std.specs.Cmp.{nat_cmp_is, nat_cmp_total, tied_itself}
use Rattle.std.specs.List.{flat_map, AllByRecursion}
use Rattle.std.specs.List.Sorted.{IsStrictlySortedBy}
use Rattle.std.specs.Ordering.{nat_cmp, ordering_then}
use Rattle.std.specs.declared.cmp.Ordering.{Ordering}
use Rattle.std.proofs.lemmas.List.Elements.{All-head, All-tail}
use Rattle.pg_base.specs.declared.id.FileId.{FileId}
use Rattle.pg_base.specs.Id.{file_cmp}
use Rattle.pg_base.proofs.Orders.{file_total}
use Rattle.pg_edges.specs.declared.edge.Edge.{Edge}
use Rattle.pg_edges.specs.declared.key.Key.{Key}
use Rattle.pg_edges.specs.Key.{key_cmp}
use Rattle.pg_edges.specs.Edges.{peers, AscendFrom}
use Rattle.pg_server.specs.pg_pieces.pg_replica.declared.replica.Replica.{Replica}
use Rattle.pg_server.specs.pg_pieces.pg_store.declared.store.Store.{Store}
use Rattle.pg_server.specs.pg_pieces.pg_store.Seen.{server_of}
use Rattle.pg_event.specs.declared.quiet.OwedKey.{OwedKey}
use Rattle.pg_server.specs.Owing.{edge_owes, owed_keys, replica_owes}
use Rattle.pg_run.specs.Ticks.{owing_cmp}
use Rattle.theory_flood_pieces.specs.Whole.{AreEdges, IsEdge, IsWhole}

-- ---- sorted lists of sorted parts

all_joined : {X : Type 0} (P : X → Type 0) (xs ys : List X) → AllByRecursion P xs
    → AllByRecursion P ys
    → AllByRecursion P (xs ++ ys)
all_joined P [] ys h k = k
all_joined P (x ∷ xs) ys h k = (h.0, all_joined P xs ys h.1 k)

all_further : {X : Type 0} (P Q : X → Type 0) (xs : List X) → ((x : X) → P x → Q x)
    → AllByRecursion P xs
    → AllByRecursion Q xs
all_further P Q [] up h = tt
all_further P Q (x ∷ xs) up h = (up x h.0, all_further P Q xs up h.1)

-- each goes before all those of the second list
sorted_joined : {X : Type 0} (c : X → X → Ordering) (xs ys : List X) → IsStrictlySortedBy c xs
    → IsStrictlySortedBy c ys
    → AllByRecursion (λ x. AllByRecursion (λ y. c x y ≡ Less) ys) xs
    → IsStrictlySortedBy c (xs ++ ys)
unfolding IsStrictlySortedBy
sorted_joined c [] ys h k cross = k
sorted_joined c (x ∷ xs) ys h k cross =
    (all_joined (λ y. c x y ≡ Less) xs ys h.0 cross.0, sorted_joined c xs ys h.1 k cross.1)

-- what holds of all parts holds of all that they have
all_parts : {A X : Type 0} (P : A → Type 0) (Q : X → Type 0) (f : A → List X) (xs : List A)
    → ((a : A) → P a → AllByRecursion Q (f a)) → AllByRecursion P xs
    → AllByRecursion Q (flat_map f xs)
all_parts P Q f [] up h = tt
all_parts P Q f (a ∷ rest) up h =
    all_joined Q (f a) (flat_map f rest) (up a h.0) (all_parts P Q f rest up h.1)

-- each stands in this relation to all behind it
abbrev IsOrdered : {A : Type 0} → (A → A → Type 0) → List A → Type 0
IsOrdered R [] = Unit {0}
IsOrdered R (a ∷ rest) = AllByRecursion (R a) rest × IsOrdered R rest

-- the parts are sorted, and what one part has goes before what a later one has
module _ {A X : Type 0} (c : X → X → Ordering) (f : A → List X) (Has : A → X → Type 0)
    (R : A → A → Type 0)
    (belongs : (a : A) → AllByRecursion (Has a) (f a))
    (goes : (a b : A) (x y : X) → R a b → Has a x → Has b y → c x y ≡ Less) where
  sorted_parts : (xs : List A) → IsOrdered R xs → All (λ a. IsStrictlySortedBy c (f a)) xs
      → IsStrictlySortedBy c (flat_map f xs)
  unfolding IsStrictlySortedBy
  sorted_parts [] order h = tt
  sorted_parts (a ∷ rest) order h =
      sorted_joined c (f a) (flat_map f rest) (All-head (λ b. IsStrictlySortedBy c (f b)) a rest h)
      (sorted_parts rest order.1 (All-tail (λ b. IsStrictlySortedBy c (f b)) a rest h))
      (all_further (Has a) (λ x. AllByRecursion (λ y. c x y ≡ Less) (flat_map f rest)) (f a)
      (λ x has. all_parts (R a) (λ y. c x y ≡ Less) f rest
      (λ b r. all_further (Has b) (λ y. c x y ≡ Less) (f b) (λ y there. goes a b x y r has there)
      (belongs b)) order.0)
      (belongs a))

-- a list that is sorted by a part of each
all_of_part : {A K : Type 0} (k : A → K) (P : K → Type 0) (xs : List A)
    → AllByRecursion P (map k xs)
    → AllByRecursion (λ a. P (k a)) xs
all_of_part k P [] h = tt
all_of_part k P (x ∷ xs) h = (h.0, all_of_part k P xs h.1)

ordered_by : {A K : Type 0} (k : A → K) (d : K → K → Ordering) (xs : List A)
    → IsStrictlySortedBy d (map k xs)
    → IsOrdered (λ a b. d (k a) (k b) ≡ Less) xs
unfolding IsStrictlySortedBy
ordered_by k d [] h = tt
ordered_by k d (x ∷ xs) h = (all_of_part k (λ y. d (k x) y ≡ Less) xs h.0, ordered_by k d xs h.1)

all_mapped : {A X : Type 0} (o : A → X) (P : A → Type 0) (Q : X → Type 0) (xs : List A)
    → ((a : A) → P a → Q (o a))
    → AllByRecursion P xs → AllByRecursion Q (map o xs)
all_mapped o P Q [] up h = tt
all_mapped o P Q (x ∷ xs) up h = (up x h.0, all_mapped o P Q xs up h.1)

sorted_map : {A X : Type 0} (o : A → X) (c : X → X → Ordering) (R : A → A → Type 0) (xs : List A)
    → ((a b : A) → R a b → c (o a) (o b) ≡ Less) → IsOrdered R xs → IsStrictlySortedBy c (map o xs)
unfolding IsStrictlySortedBy
sorted_map o c R [] up h = tt
sorted_map o c R (x ∷ xs) up h = (
  all_mapped o (R x) (λ y. c (o x) y ≡ Less) xs (λ b r. up x b r) h.0,
  sorted_map o c R xs up
      h.1,
)

-- ---- what a server owes

abbrev owing : ℕ → FileId → Edge → Key × ℕ → OwedKey
owing server file e k = record { server = server; file = file; peer = e.peer; key = k.0 }

abbrev IsAt : FileId → OwedKey → Type 0
IsAt file o = o.file ≡ file

abbrev IsAlong : FileId → Edge → OwedKey → Type 0
IsAlong file e o = (o.file ≡ file) × (o.peer ≡ e.peer)

same_then : {A : Type 0} (d : A → A → Ordering) (x y z : A) (rest : Ordering) → d z z ≡ Equal
    → x ≡ z → y ≡ z
    → ordering_then (d x y) rest ≡ rest
same_then d x y z rest tied e f = ap (λ a. ordering_then (d a y) rest) e
    ∙ ap (λ b. ordering_then (d z b) rest) f ∙ ap (λ o. ordering_then o rest) tied

first_then : (o rest : Ordering) → o ≡ Less → ordering_then o rest ≡ Less
first_then o rest h = ap (λ z. ordering_then z rest) h

-- by file
by_file : (x y : OwedKey) → file_cmp x.file y.file ≡ Less → owing_cmp x y ≡ Less
by_file x y h = first_then (file_cmp x.file y.file)
    (ordering_then (nat_cmp x.peer y.peer) (key_cmp x.key y.key)) h

-- then by peer
by_peer : (file : FileId) (x y : OwedKey) → x.file ≡ file → y.file ≡ file → x.peer < y.peer
    → owing_cmp x y ≡ Less
by_peer file x y e f h =
    same_then file_cmp x.file y.file file
    (ordering_then (nat_cmp x.peer y.peer) (key_cmp x.key y.key))
    (tied_itself file_total file) e f
    ∙ first_then (nat_cmp x.peer y.peer) (key_cmp x.key y.key)
    (sym (nat_cmp_is x.peer y.peer Less h))

-- then by key
by_key : (server : ℕ) (file : FileId) (e : Edge) (j k : Key × ℕ) → key_cmp j.0 k.0 ≡ Less
    → owing_cmp (owing server file e j) (owing server file e k) ≡ Less
by_key server file e j k h =
    ap (λ o. ordering_then o (ordering_then (nat_cmp e.peer e.peer) (key_cmp j.0 k.0)))
    (tied_itself file_total file)
    ∙ ap (λ o. ordering_then o (key_cmp j.0 k.0)) (tied_itself nat_cmp_total e.peer) ∙ h

edge_sorted : (n s server : ℕ) (file : FileId) (e : Edge) → IsEdge n s e
    → IsStrictlySortedBy owing_cmp (edge_owes server file e)
edge_sorted n s server file e is =
    sorted_map (owing server file e) owing_cmp (λ j k. key_cmp j.0 k.0 ≡ Less) e.keys
    (λ j k h. by_key server file e j k h)
    (ordered_by (λ (k : Key × ℕ). k.0) key_cmp e.keys is.sorted)

edge_along : (server : ℕ) (file : FileId) (e : Edge) (ks : List (Key × ℕ))
    → AllByRecursion (IsAlong file e) (map (owing server file e) ks)
edge_along server file e [] = tt
edge_along server file e (k ∷ ks) = ((refl, refl), edge_along server file e ks)

above_all : (p : ℕ) (least : ℕ) (es : List Edge) → p < least → AscendFrom least (peers es)
    → AllByRecursion (λ (e : Edge). p < e.peer) es
above_all p least [] lt a = tt
above_all p least (e ∷ es) lt a =
    (let h = a.0 in omega arith, above_all p (e.peer + 1) es (let h = a.0 in omega arith) a.1)

peers_ordered : (least : ℕ) (es : List Edge) → AscendFrom least (peers es)
    → IsOrdered (λ (e f : Edge). e.peer < f.peer) es
peers_ordered least [] a = tt
peers_ordered least (e ∷ es) a =
    (above_all e.peer (e.peer + 1) es (omega arith) a.1, peers_ordered (e.peer + 1) es a.1)

replica_sorted : (n s server : ℕ) (r : FileId × Replica) → AreEdges n s r.1.edges
    → IsStrictlySortedBy owing_cmp (replica_owes server r)
replica_sorted n s server r full =
    sorted_parts owing_cmp (edge_owes server r.0) (IsAlong r.0) (λ (e f : Edge). e.peer < f.peer)
    (λ e. edge_along server r.0 e e.keys)
    (λ e f x y lt h k. by_peer r.0 x y h.0 k.0 (let p = h.1 in let q = k.1 in omega arith))
    r.1.edges
    (peers_ordered 0 r.1.edges full.order)
    (λ i d lt. edge_sorted n s server r.0 (get_or r.1.edges i d) (full.each i d lt))

replica_at_file : (server : ℕ) (file : FileId) (es : List Edge)
    → AllByRecursion (IsAt file) (flat_map (edge_owes server file) es)
replica_at_file server file [] = tt
replica_at_file server file (e ∷ es) =
    all_joined (IsAt file) (edge_owes server file e) (flat_map (edge_owes server file) es)
    (all_further (IsAlong file e) (IsAt file) (edge_owes server file e) (λ x h. h.0)
    (edge_along server file e e.keys))
    (replica_at_file server file es)

pub owed_sorted : (n s : ℕ) (a : Store) → IsWhole n s a → IsStrictlySortedBy owing_cmp (owed_keys a)
owed_sorted n s a k =
    sorted_parts owing_cmp (replica_owes (server_of a)) (λ (r : FileId × Replica). IsAt r.0)
    (λ (r t : FileId × Replica). file_cmp r.0 t.0 ≡ Less)
    (λ r. replica_at_file (server_of a) r.0 r.1.edges)
    (λ r t x y lt h k. by_file x y (ap (λ f. file_cmp f y.file) h ∙ ap (file_cmp r.0) k ∙ lt))
    a.replicas
    (ordered_by (λ (r : FileId × Replica). r.0) file_cmp a.replicas k.order)
    (λ i d lt. replica_sorted n s (server_of a) (get_or a.replicas i d) (k.replicas i d lt))
