-- Where a server owes nothing, each server to which it has an edge for a thing holds what it holds
-- of that thing, or more.
use Rattle.std.proofs.Common.{[], ℕ, ◌≡◌, ◌⊎◌, Bool, List, ◌∷◌, Option, None, Some, refl, sym, ap, subst, ◌∙◌, All, eq-eqb, inl, inr}
use Rattle.std.specs.List.{IsAmong, flat_map}
use Rattle.std.proofs.lemmas.Bool.{false≢true}
use Rattle.std.proofs.lemmas.List.Elements.{All-nil, All-cons, All-weaker}
use Rattle.pg_run.specs.pg_base.declared.id.FileId.{FileId}
use Rattle.pg_run.specs.pg_base.Version.{VersionValue}
use Rattle.pg_run.specs.pg_content.Covering.{AreCoveredBy, IsUpToHead}
use Rattle.pg_run.specs.pg_content.StandsFor.{InStrictOrder}
use Rattle.pg_run.specs.pg_edges.declared.edge.Edge.{Edge}
use Rattle.pg_run.specs.pg_edges.declared.key.Key.{Key}
use Rattle.pg_run.specs.pg_edges.declared.key.Key.TheVariants as key
use Rattle.pg_run.specs.pg_edges.Keys.{tag_in}
use Rattle.pg_run.specs.theory_flood.Server.{Holds, HoldsAll}
use Rattle.pg_run.proofs.theory_flood.Servers.{some_same}
use Rattle.pg_run.specs.pg_entries.declared.cell.Cell.{Cell}
use Rattle.pg_run.specs.pg_entries.declared.cell.Cell.TheVariants as cell
use Rattle.pg_run.specs.pg_entries.declared.entry.Entry.{Entry}
use Rattle.pg_run.specs.pg_event.declared.quiet.Owing.TheVariants as owing
use Rattle.pg_run.specs.pg_names.Names.{cell_at as entry_at, own_or_blank}
use Rattle.pg_run.specs.pg_register.declared.flag.Flag.{Flag}
use Rattle.pg_run.specs.pg_register.declared.place.Place.{Place}
use Rattle.pg_run.specs.pg_register.Flag.{flag_of}
use Rattle.pg_run.specs.pg_replica.declared.replica.Replica.{Replica}
use Rattle.pg_run.specs.pg_replica.Replica.{cell_at as head_at, key_of}
use Rattle.pg_run.specs.pg_replica.Replicas.{is_of_birth}
use Rattle.pg_run.proofs.pg_replica.Growth.{cell_head, head_at as head_found}
use Rattle.pg_run.specs.pg_store.declared.store.Store.{Store}
use Rattle.pg_run.specs.pg_store.Cells.{cell_at, entry_cell, flag_cell, is_sure, version_cell}
use Rattle.pg_run.specs.pg_store.Seen.{server_of}
use Rattle.pg_run.specs.pg_store.Store.{content_of, replica_at}
use Rattle.pg_run.specs.pg_store.Together.{IsOver}
use Rattle.pg_run.specs.pg_server.Owing.{edge_owes, intent_owed, owed, owed_intents, owed_keys, owed_places, replica_owes}
use Rattle.pg_run.specs.theory_flood_pieces.Names.{IsEntryKnownBy}
use Rattle.pg_run.specs.theory_flood_pieces.UpTo.{AreFlagsUpTo, IsFlagKnownBy, IsPlaceUpTo, IsUpTo}
use Rattle.pg_run.specs.theory_flood_pieces.Whole.{AreByChild, AreEdges, IsEdge, IsOther, IsWhole}
use Rattle.pg_run.proofs.theory_flood_pieces.Choices.{found_replica}
use Rattle.pg_run.proofs.theory_flood_pieces.Sending.{own_key}
use Rattle.pg_run.specs.Acknowledged.{IsHadThere}
use Rattle.pg_run.specs.Graphs.{HasEdge}
use Rattle.pg_run.specs.Run.{World}
use Rattle.pg_run.proofs.Found.{IsEdgeTo, listed_edge}
use Rattle.pg_run.proofs.QuietAnswers.{both_empty, map_empty}

-- what holds of all holds of a member
of_member : {A : Type 0} (P : A → Type 0) (xs : List A) (x : A) → All P xs → IsAmong xs x → P x
of_member P xs x h k = subst P (sym k.1.1) (h k.0 x k.1.0)

-- ---- where nothing is owed

all_empty : {A B : Type 0} (f : A → List B) (xs : List A) → flat_map f xs ≡ []
    → All (λ x. f x ≡ []) xs
all_empty f [] e = All-nil (λ x. f x ≡ [])
all_empty f (x ∷ xs) e = let b = both_empty (f x) (flat_map f xs) e in
    All-cons (λ z. f z ≡ []) x xs b.0 (all_empty f xs b.1)

abbrev IsBare : Edge → Type 0
IsBare e = e.keys ≡ []

bare_replica : (server : ℕ) (r : FileId × Replica) → replica_owes server r ≡ [] → All IsBare r.1.edges
bare_replica server r e =
    All-weaker (λ (x : Edge). edge_owes server r.0 x ≡ []) IsBare
    (λ x h. map_empty (λ (k : Key × ℕ). record {
      server = server;
      file = r.0;
      peer = x.peer;
      key = k.0;
    }) x.keys h) r.1.edges (all_empty (edge_owes server r.0) r.1.edges e)

-- a server that owes nothing has no intention, no key on an edge, and holds no place back
pub nothing_intended : (a : Store) → owed a ≡ [] → a.intents ≡ []
nothing_intended a e =
    map_empty (intent_owed (server_of a)) a.intents (map_empty owing.Intent (owed_intents a) (both_empty _ _ e).0)

no_keys : (a : Store) → owed a ≡ [] → owed_keys a ≡ []
no_keys a e = map_empty owing.Key (owed_keys a) (both_empty _ _ (both_empty _ _ e).1).0

pub nothing_back : (a : Store) → owed a ≡ [] → owed_places a ≡ []
nothing_back a e = (both_empty _ _ (both_empty _ _ e).1).1

bare_edges : (a : Store) (file : FileId) (x : Replica) → owed a ≡ [] → replica_at a file ≡ Some x → All IsBare x.edges
bare_edges a file x e is =
    found_replica (λ z. All IsBare z.edges) file x a.replicas
    (All-weaker (λ (r : FileId × Replica). replica_owes (server_of a) r ≡ [])
    (λ r. All IsBare r.1.edges) (λ r h. bare_replica (server_of a) r h) a.replicas
    (all_empty (replica_owes (server_of a)) a.replicas (no_keys a e))) is

-- ---- so the other server covers each cell

-- of a server: what a peer has of which an edge owes nothing, or its birth is over
abbrev pub IsHadAcross : World → ℕ → Type 0
IsHadAcross w s = (file : FileId) (x : Replica) (e : Edge) (k : Key) (c : Cell)
    → replica_at (w.stores s) file ≡ Some x → IsAmong x.edges e
    → tag_in e.keys k ≡ None → cell_at (w.stores s) file k ≡ Some c
    → IsHadThere w file e c ⊎ IsOver (w.stores e.peer) file e.birth

-- the birth of a replica that is held is not over
held_on : (a : Store) (file : FileId) (x : Replica) → replica_at a file ≡ Some x → IsOver a file x.birth → ⊥
held_on a file x is over =
    false≢true (sym over.away ∙ ap (λ (o : Option Replica). is_of_birth o x.birth) is ∙ eq-eqb x.birth x.birth refl)

module _ (n : ℕ) (w : World) (file : FileId) (s t : ℕ) (linked : HasEdge w file s t) (nothing : owed (w.stores s) ≡ [])
    (had : IsHadAcross w s) (here : IsWhole n s (w.stores s)) (there : IsWhole n t (w.stores t)) where
  abbrev A : Store
  A = w.stores s

  abbrev B : Store
  B = w.stores t

  abbrev X : Replica
  X = linked.here.replica

  edge : IsEdgeTo X.edges t linked.there.replica.birth
  edge = listed_edge X.edges t linked.there.replica.birth linked.names

  bare : edge.edge.keys ≡ []
  bare = of_member IsBare X.edges edge.edge (bare_edges A file X nothing linked.here.is) edge.among

  -- an edge names the present birth of its peer
  present : IsOver (w.stores edge.edge.peer) file edge.edge.birth → ⊥
  present over =
      held_on B file linked.there.replica linked.there.is
      (subst (IsOver B file) edge.born (subst (λ m. IsOver (w.stores m) file edge.edge.birth) edge.to over))

  pub all_held : HoldsAll IsUpTo (cell_at A file) (cell_at B file)
  all_held k c is =
      let P : ℕ → Type 0 = λ m. Holds IsUpTo (cell_at (w.stores m) file) c in
      elim (had file X edge.edge k c linked.here.is edge.among (ap (λ ks. tag_in ks k) bare) is) [
        | inl h ↦ subst P edge.to h.had
        | inr over ↦ absurd (present over)
      ]

  child : AreByChild B.names
  child = there.names.children

  -- ---- places

  place_from : (p : Place) (q : Key) (c : Cell) → cell_at B file q ≡ Some c → IsUpTo (cell.Place p) c
      → IsPlaceUpTo p (own_or_blank B.names file).place
  place_from p q (cell.Place r) is up =
      let own : key.Place ≡ q = own_key B child file q (cell.Place r) is in
      let at : cell_at B file key.Place ≡ Some (cell.Place r) = ap (cell_at B file) own ∙ is in
      let same : r ≡ (own_or_blank B.names file).place = (let e = some_same _ _ at in cc) in
      subst (IsPlaceUpTo p) same up
  place_from p q (cell.Flag r) is up = absurd up
  place_from p q (cell.Entry r sure) is up = absurd up
  place_from p q (cell.Version r) is up = absurd up

  pub place_up : IsPlaceUpTo (own_or_blank A.names file).place (own_or_blank B.names file).place
  place_up =
      let p = (own_or_blank A.names file).place in
      let h = all_held key.Place (cell.Place p) refl in
      place_from p h.key h.cell h.is h.upto

  -- ---- flags

  flag_is : (o : Option Flag) (g : Flag) → flag_cell o ≡ Some (cell.Flag g) → o ≡ Some g
  flag_is None g e = absurd (let z : None ≡ Some (cell.Flag g) = e in cc)
  flag_is (Some f) g e = let same = some_same (cell.Flag f) (cell.Flag g) e in cc

  flag_from : (f : Flag) (q : Key) (c : Cell) → cell_at B file q ≡ Some c → IsUpTo (cell.Flag f) c
      → IsFlagKnownBy (Some f) (flag_of (own_or_blank B.names file).flags f.server)
  flag_from f q (cell.Flag g) is up =
      let fs = (own_or_blank B.names file).flags in
      let own : key.Flag g.server ≡ q = own_key B child file q (cell.Flag g) is in
      let at : cell_at B file (key.Flag g.server) ≡ Some (cell.Flag g) =
      ap (cell_at B file) own ∙ is in
      let one : flag_of fs f.server ≡ Some g =
      ap (flag_of fs) up.0 ∙ flag_is (flag_of fs g.server) g at in
      let P : Option Flag → Type 0 = λ o. IsFlagKnownBy (Some f) o in
      subst P (sym one) up
  flag_from f q (cell.Place r) is up = absurd up
  flag_from f q (cell.Entry r sure) is up = absurd up
  flag_from f q (cell.Version r) is up = absurd up

  flag_up : (m : ℕ) (o : Option Flag) → flag_of (own_or_blank A.names file).flags m ≡ o
      → IsFlagKnownBy o (flag_of (own_or_blank B.names file).flags m)
  flag_up m None is = tt
  flag_up m (Some f) is =
      let server : key.Flag f.server ≡ key.Flag m =
      own_key A here.names.children file (key.Flag m) (cell.Flag f) (ap flag_cell is) in
      let same : f.server ≡ m = cc in
      let h = all_held (key.Flag m) (cell.Flag f) (ap flag_cell is) in
      let P : ℕ → Type 0 =
      λ z. IsFlagKnownBy (Some f) (flag_of (own_or_blank B.names file).flags z) in
      subst P same (flag_from f h.key h.cell h.is h.upto)

  pub flags_up : AreFlagsUpTo (own_or_blank A.names file).flags (own_or_blank B.names file).flags
  flags_up m = flag_up m (flag_of (own_or_blank A.names file).flags m) refl

  -- ---- entries

  entry_is : (o : Option Entry) (g : Entry) (known sure : Bool) → entry_cell o known ≡ Some (cell.Entry g sure)
      → o ≡ Some g
  entry_is None g known sure e = absurd (let z : None ≡ Some (cell.Entry g sure) = e in cc)
  entry_is (Some f) g known sure e = let same = some_same (cell.Entry f known) (cell.Entry g sure) e in cc

  entry_from : (x : Entry) (known : Bool) (q : Key) (c : Cell) → cell_at B file q ≡ Some c
      → IsUpTo (cell.Entry x known) c → IsEntryKnownBy (Some x) (entry_at B.names file x.child)
  entry_from x known q (cell.Entry g sure) is up =
      let own : key.Entry g.child ≡ q = own_key B child file q (cell.Entry g sure) is in
      let at : cell_at B file (key.Entry g.child) ≡ Some (cell.Entry g sure) =
      ap (cell_at B file) own ∙ is in
      let one : entry_at B.names file x.child ≡ Some g =
      ap (entry_at B.names file) up.child
      ∙ entry_is (entry_at B.names file g.child) g (is_sure B file g.child) sure at in
      let P : Option Entry → Type 0 = λ o. IsEntryKnownBy (Some x) o in
      subst P (sym one) up
  entry_from x known q (cell.Place r) is up = absurd up
  entry_from x known q (cell.Flag r) is up = absurd up
  entry_from x known q (cell.Version r) is up = absurd up

  entry_up : (g : FileId) (o : Option Entry) → entry_at A.names file g ≡ o
      → IsEntryKnownBy o (entry_at B.names file g)
  entry_up g None is = tt
  entry_up g (Some x) is =
      let known = is_sure A file g in
      let same : x.child ≡ g = here.names.children file g x is in
      let h = all_held (key.Entry g) (cell.Entry x known) (ap (λ (o : Option Entry). entry_cell o known) is) in
      let P : FileId → Type 0 = λ z. IsEntryKnownBy (Some x) (entry_at B.names file z) in
      subst P same (entry_from x known h.key h.cell h.is h.upto)

  pub entries_up : (g : FileId) → IsEntryKnownBy (entry_at A.names file g) (entry_at B.names file g)
  entries_up g = entry_up g (entry_at A.names file g) refl

  -- ---- versions

  version_is : (q : Key) (o : Option VersionValue) (v : VersionValue) → head_at (content_of B file).heads q ≡ o
      → version_cell o ≡ Some (cell.Version v) → head_at (content_of B file).heads q ≡ Some v
  version_is q None v h e = absurd (let z : None ≡ Some (cell.Version v) = e in cc)
  version_is q (Some u) v h e =
      let same = some_same (cell.Version u) (cell.Version v) e in
      let is : u ≡ v = cc in
      h ∙ ap Some is

  version_from : (v : VersionValue) (q : Key) (c : Cell) → cell_at B file q ≡ Some c
      → IsUpTo (cell.Version v) c → IsUpToHead v.head.vector (content_of B file).heads
  version_from v q (cell.Version u) is up =
      let own : key.Version u.head.stamp ≡ q = own_key B child file q (cell.Version u) is in
      let at : cell_at B file (key.Version u.head.stamp) ≡ Some (cell.Version u) =
      ap (cell_at B file) own ∙ is in
      let one = version_is (key.Version u.head.stamp)
      (head_at (content_of B file).heads (key.Version u.head.stamp)) u refl at in
      (u, (cell_head (content_of B file).heads (key.Version u.head.stamp) u one).0, up)
  version_from v q (cell.Place r) is up = absurd up
  version_from v q (cell.Flag r) is up = absurd up
  version_from v q (cell.Entry r sure) is up = absurd up

  pub heads_up : InStrictOrder (content_of A file).heads
      → AreCoveredBy (content_of A file).heads (content_of B file).heads
  heads_up order v among =
      let found = head_found (content_of A file).heads v order among in
      let h = all_held (key_of v) (cell.Version v) (ap version_cell found) in
      version_from v h.key h.cell h.is h.upto

-- the peer is another server of the run
module _ (n : ℕ) (w : World) (file : FileId) (s t : ℕ) (linked : HasEdge w file s t) (here : IsWhole n s (w.stores s)) where
  listed : IsEdgeTo linked.here.replica.edges t linked.there.replica.birth
  listed = listed_edge linked.here.replica.edges t linked.there.replica.birth linked.names

  pub peer_is : IsOther n s t
  peer_is =
      let P : ℕ → Type 0 = λ m. IsOther n s m in
      let edges = found_replica (λ z. AreEdges n s z.edges) file linked.here.replica (w.stores s).replicas here.replicas linked.here.is in
      subst P listed.to (of_member (IsEdge n s) linked.here.replica.edges listed.edge edges.each listed.among).other
