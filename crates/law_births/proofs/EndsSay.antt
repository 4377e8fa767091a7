-- What is said of the ends of edges is said of them behind each change.
use Rattle.std.proofs.Common.{ℕ, ◌≡◌, Bool, true, false, cond, not, List, [], ◌∷◌, filter, Option, None, Some, All, refl, sym, ap, subst, ◌∙◌, Less, Equal, Greater}
use Rattle.std.specs.declared.cmp.Ordering.{Ordering}
use Rattle.std.specs.Ordering.{match_ordering, nat_cmp}
use Rattle.std.specs.BTreeMap.{is_at}
use Rattle.std.specs.Option.{option_map}
use Rattle.std.proofs.lemmas.List.Elements.{All-cons, All-nil}
use Rattle.pg_run.specs.pg_base.declared.id.FileId.{FileId}
use Rattle.pg_run.specs.pg_base.declared.policy.Policy.{Policy}
use Rattle.pg_run.specs.pg_base.Id.{file_cmp, is_same_file}
use Rattle.pg_run.proofs.pg_base.Maps.{lookup-insert_entry}
use Rattle.pg_run.proofs.pg_base.Orders.{file_total, is_same_file-true}
use Rattle.pg_run.specs.pg_edges.declared.edge.Edge.{Edge}
use Rattle.pg_run.specs.pg_edges.Edges.{is_listed, makes_edge, new_edge, put_edge, without_edge}
use Rattle.pg_run.specs.pg_names.declared.attributes.Attributes.{Attributes}
use Rattle.pg_run.specs.pg_replica.declared.replica.Replica.{Replica}
use Rattle.pg_run.specs.pg_replica.Replica.{new_replica, with_link, with_unlink}
use Rattle.pg_run.specs.pg_replica.Replicas.{ByFile, put_replica, replica_in, replicas_linked, replicas_unlinked}
use Rattle.pg_run.specs.pg_store.declared.store.Store.{Store}
use Rattle.pg_run.proofs.pg_replica.Going.{replica_behind}
use Rattle.pg_run.specs.pg_store.Beginning.{begin, let_go, patches_of, put_new}
use Rattle.pg_run.specs.pg_store.Links.{is_linked, is_new_link, keys, link, put_link, unlink}
use Rattle.pg_run.specs.pg_store.Store.{replica_at}
use Rattle.pg_run.proofs.pg_store.Going.{left_some}
use Rattle.law_births.proofs.Ends.{ends}
use Rattle.law_births.proofs.Moving.{some_shape}
use Rattle.law_births.proofs.Pieces.{Stays, patches_stay, shape, shape_at}

-- a property of births, each of a thing's replica at a server
abbrev pub AllEnds : (FileId → ℕ → ℕ → Type 0) → FileId → List (ℕ × ℕ) → Type 0
AllEnds P file [] = Unit {0}
AllEnds P file (e ∷ es) = P file e.0 e.1 × AllEnds P file es

-- it holds of the ends of all edges
abbrev pub SaysEnds : (FileId → ℕ → ℕ → Type 0) → Store → Type 0
SaysEnds P a = (file : FileId) (n : ℕ) (es : List (ℕ × ℕ)) → shape_at a file ≡ Some (n, es) → AllEnds P file es

module _ (P : FileId → ℕ → ℕ → Type 0) where
  -- of a list of edges
  pub edges_all : (f : FileId) (es : List Edge) → AllEnds P f (ends es) → All (λ (e : Edge). P f e.peer e.birth) es
  edges_all f [] all = All-nil (λ (e : Edge). P f e.peer e.birth)
  edges_all f (e ∷ es) all = All-cons (λ (x : Edge). P f x.peer x.birth) e es all.0 (edges_all f es all.1)

  pub ends_stay : {a b : Store} → Stays a b → SaysEnds P a → SaysEnds P b
  ends_stay s k file n es there = k file n es (sym (s.shapes file) ∙ there)

  pub ends_same : (a b : Store) → ((q : FileId) → shape_at b q ≡ shape_at a q) → SaysEnds P a → SaysEnds P b
  ends_same a b same k file n es there = k file n es (sym (same file) ∙ there)

  -- ---- lists

  put_by : (file : FileId) (e x : Edge) (es : List Edge) (o : Ordering) → P file e.peer e.birth → P file x.peer x.birth
      → AllEnds P file (ends es) → AllEnds P file (ends (put_edge es x))
      → AllEnds P file (ends (match_ordering o (x ∷ e ∷ es) (x ∷ es) (e ∷ put_edge es x)))
  put_by file e x es Less one new rest more = (new, (one, rest))
  put_by file e x es Equal one new rest more = (new, rest)
  put_by file e x es Greater one new rest more = (one, more)

  pub put_all : (file : FileId) (x : Edge) (es : List Edge) → P file x.peer x.birth → AllEnds P file (ends es) → AllEnds P file (ends (put_edge es x))
  put_all file x [] new all = (new, tt)
  put_all file x (e ∷ es) new all = put_by file e x es (nat_cmp x.peer e.peer) all.0 new all.1 (put_all file x es new all.1)

  link_by : (file : FileId) (x : Edge) (es : List Edge) (t : Bool) → P file x.peer x.birth → AllEnds P file (ends es)
      → AllEnds P file (ends (cond t (put_edge es x) es))
  link_by file x es true new all = put_all file x es new all
  link_by file x es false new all = all

  left_by : (file : FileId) (e : Edge) (es : List Edge) (t : Bool) → P file e.peer e.birth → AllEnds P file (ends es)
      → AllEnds P file (ends (cond t (e ∷ es) es))
  left_by file e es true one rest = (one, rest)
  left_by file e es false one rest = rest

  left_all : (file : FileId) (p : Edge → Bool) (es : List Edge) → AllEnds P file (ends es) → AllEnds P file (ends (filter p es))
  left_all file p [] all = tt
  left_all file p (e ∷ es) all = left_by file e (filter p es) (p e) all.0 (left_all file p es all.1)

  gone_by : (file : FileId) (es : List Edge) (peer : ℕ) (t : Bool) → AllEnds P file (ends es)
      → AllEnds P file (ends (cond t (without_edge es peer) es))
  gone_by file es peer true all = left_all file _ es all
  gone_by file es peer false all = all

  -- the edge to a peer goes
  pub cut_all : (file : FileId) (es : List Edge) (peer : ℕ) → AllEnds P file (ends es) → AllEnds P file (ends (without_edge es peer))
  cut_all file es peer all = gone_by file es peer true all

  -- ---- one replica changed

  module _ (rs : ByFile) (file : FileId) (y : Replica) (all : AllEnds P file (ends y.edges))
      (old : (q : FileId) (n : ℕ) (es : List (ℕ × ℕ)) → option_map shape (replica_in rs q) ≡ Some (n, es) → AllEnds P q es) where
    put_if : (q : FileId) (n : ℕ) (es : List (ℕ × ℕ)) (t : Bool) → is_same_file q file ≡ t
        → option_map shape (cond t (Some y) (replica_in rs q)) ≡ Some (n, es) → AllEnds P q es
    put_if q n es true e there =
        let same = some_shape y.birth n (ends y.edges) es there in
        let R : FileId → Type 0 = λ z. AllEnds P z es in
        subst R (sym (is_same_file-true q file e)) (subst (AllEnds P file) same.1 all)
    put_if q n es false e there = old q n es there

    pub put_says : (q : FileId) (n : ℕ) (es : List (ℕ × ℕ)) → option_map shape (replica_in (put_replica rs file y) q) ≡ Some (n, es) → AllEnds P q es
    put_says q n es there =
        put_if q n es (is_same_file q file) refl
        (sym (ap (option_map shape) (lookup-insert_entry file_cmp file_total q file y rs)) ∙ there)

  shape_says : (a : Store) (file : FileId) (x : Replica) → replica_at a file ≡ Some x → SaysEnds P a → AllEnds P file (ends x.edges)
  shape_says a file x there k = k file x.birth (ends x.edges) (ap (option_map shape) there)

  -- a link
  linked_at : (a : Store) (file : FileId) (peer birth : ℕ) (o : Option Replica) → replica_at a file ≡ o → P file peer birth → SaysEnds P a
      → (q : FileId) (n : ℕ) (es : List (ℕ × ℕ))
      → option_map shape (replica_in (replicas_linked a.replicas file peer birth (keys a file) a.tags o) q) ≡ Some (n, es) → AllEnds P q es
  linked_at a file peer birth None there new k q n es is = k q n es is
  linked_at a file peer birth (Some x) there new k q n es is =
      put_says a.replicas file (with_link x peer birth (keys a file) a.tags)
      (link_by file (new_edge peer birth (keys a file) a.tags) x.edges (makes_edge x.edges peer birth) new (shape_says a file x there k))
      k q n es is

  ends_if : (a b : Store) (t : Bool) → SaysEnds P b → SaysEnds P a → SaysEnds P (cond t b a)
  ends_if a b true new old file n es there = new file n es there
  ends_if a b false new old file n es there = old file n es there

  pub ends_link : (a : Store) (file : FileId) (peer birth : ℕ) → P file peer birth → SaysEnds P a → SaysEnds P (link a file peer birth)
  ends_link a file peer birth new k =
      ends_if a (put_link a file peer birth) (is_new_link a file peer birth) (linked_at a file peer birth (replica_at a file) refl new k) k

  -- an edge that goes
  gone_at : (a : Store) (file : FileId) (peer birth : ℕ) (o : Option Replica) → replica_at a file ≡ o → SaysEnds P a
      → (q : FileId) (n : ℕ) (es : List (ℕ × ℕ)) → option_map shape (replica_in (replicas_unlinked a.replicas file peer birth o) q) ≡ Some (n, es)
      → AllEnds P q es
  gone_at a file peer birth None there k q n es is = k q n es is
  gone_at a file peer birth (Some x) there k q n es is =
      put_says a.replicas file (with_unlink x peer birth)
      (gone_by file x.edges peer (is_listed x.edges peer birth) (shape_says a file x there k)) k q n es is

  pub ends_unlink : (a : Store) (file : FileId) (peer birth : ℕ) → SaysEnds P a → SaysEnds P (unlink a file peer birth)
  ends_unlink a file peer birth k =
      ends_if a (record a { replicas = replicas_unlinked a.replicas file peer birth (replica_at a file) }) (is_linked a file peer birth)
      (gone_at a file peer birth (replica_at a file) refl k) k

  -- a replica begins
  pub ends_begin : (a : Store) (file : FileId) (birth : ℕ) (policy : Policy) (own : Attributes) (full : Bool) → SaysEnds P a
      → SaysEnds P (begin a file birth policy own full)
  ends_begin a file birth policy own full k =
      ends_stay (patches_stay (put_new a file birth policy own full) file (patches_of file a.intents))
      (put_says a.replicas file (new_replica birth policy) tt k)

  -- a replica goes
  shape_by : (t : Bool) (o : Option Replica) (n : ℕ) (es : List (ℕ × ℕ)) → option_map shape (cond t o None) ≡ Some (n, es)
      → option_map shape o ≡ Some (n, es)
  shape_by t o n es e = left_some shape t o (n, es) e

  pub ends_let_go : (a : Store) (file : FileId) → SaysEnds P a → SaysEnds P (let_go a file)
  ends_let_go a file k q n es there =
      k q n es (shape_by (not (is_at (file_cmp file) q)) (replica_at a q) n es
      (sym (ap (option_map shape) (replica_behind a.replicas file q)) ∙ there))
