-- What is sent of the keys of one edge tells of keys on that edge.
use Rattle.std.proofs.Common.{[], ℕ, ◌≡◌, ◌==◌, ◌&&◌, ◌||◌, Bool, true, false, cond, get_or, List, ◌∷◌, filter, Option, None, Some, refl, sym, subst, All}
use Rattle.std.proofs.lemmas.Bool.{and_parts, eqb-true}
use Rattle.std.proofs.lemmas.List.Elements.{All-cons, All-head, All-nil, All-tail}
use Rattle.pg_run.specs.pg_base.declared.id.FileId.{FileId}
use Rattle.pg_run.specs.pg_base.Id.{is_same_file}
use Rattle.pg_run.specs.pg_edges.declared.edge.Edge.{Edge}
use Rattle.pg_run.specs.pg_edges.declared.key.Key.{Key}
use Rattle.pg_run.specs.pg_edges.Edges.{edge_to}
use Rattle.pg_run.specs.pg_edges.Keys.{tag_in}
use Rattle.pg_run.specs.pg_entries.declared.cell.Cell.{Cell}
use Rattle.pg_run.specs.pg_msg.declared.message.Sent.{Sent}
use Rattle.pg_run.specs.pg_replica.declared.replica.Replica.{Replica}
use Rattle.pg_run.specs.pg_store.declared.store.Store.{Store}
use Rattle.pg_run.specs.pg_store.Cells.{cell_at}
use Rattle.pg_run.specs.pg_store.Store.{replica_at}
use Rattle.pg_run.specs.pg_cells.Sending.{Wanted, cell_to, cell_under, cells_where, edge_cells, is_chosen, key_cell, replica_cells, waits}
use Rattle.pg_run.specs.theory_flood_pieces.Whole.{AreEdges, IsEdge, IsWhole}
use Rattle.pg_run.specs.Bodies.{IsOfLink}
use Rattle.pg_run.proofs.pg_base.Orders.{is_same_file-true}
use Rattle.pg_run.proofs.theory_flood_pieces.Choices.{All-flat_map, decided}
use Rattle.pg_run.proofs.theory_flood_pieces.Found.{edges_found, entries_known, keys_found}

-- ---- what passes a test

module _ {A : Type 0} (test : A → Bool) (P : A → Type 0) where
  passed_by : (x : A) (xs : List A) (t : Bool) → test x ≡ t → (test x ≡ true → P x)
      → All P (filter test xs) → All P (cond t (x ∷ filter test xs) (filter test xs))
  passed_by x xs true is one rest = All-cons P x (filter test xs) (one is) rest
  passed_by x xs false is one rest = rest

  pub all_passed : (xs : List A) → All (λ x. test x ≡ true → P x) xs → All P (filter test xs)
  all_passed [] h = All-nil P
  all_passed (x ∷ xs) h =
      passed_by x xs (test x) refl (All-head (λ z. test z ≡ true → P z) x xs h)
      (all_passed xs (All-tail (λ z. test z ≡ true → P z) x xs h))

-- ---- keys of one edge

module _ (n s : ℕ) (b : Store) (whole : IsWhole n s b) (file : FileId) (from : ℕ) where
  abbrev Q : Sent → Type 0
  Q = IsOfLink b from file

  module _ (f : FileId) (x : Replica) (held : replica_at b f ≡ Some x) (e : Edge)
      (linked : edge_to x.edges e.peer ≡ Some e) (k : Key × ℕ) (tagged : tag_in e.keys k.0 ≡ Some k.1) where
    of_itself : (c : Cell) → cell_at b f k.0 ≡ Some c
        → IsOfLink b e.peer f (cell_to b f x.birth e c k.1)
    of_itself c is = (
      k.0,
      record {
        replica = x;
        edge = e;
        tag = k.1;
        c = c;
        held = held;
        linked = linked;
        tagged = tagged;
        present = is;
        whole = refl;
      },
    )

    of_link : f ≡ file → e.peer ≡ from → (c : Cell) → cell_at b f k.0 ≡ Some c
        → Q (cell_to b f x.birth e c k.1)
    of_link this_file this_peer c is =
        let m = cell_to b f x.birth e c k.1 in
        subst (λ (g : FileId). IsOfLink b from g m) this_file
        (subst (λ (p : ℕ). IsOfLink b p f m) this_peer (of_itself c is))

    under : f ≡ file → e.peer ≡ from → (o : Option Cell) → cell_at b f k.0 ≡ o
        → All Q (cell_under b f x.birth e k.1 o)
    under this_file this_peer None is = All-nil Q
    under this_file this_peer (Some c) is =
        All-cons Q (cell_to b f x.birth e c k.1) [] (of_link this_file this_peer c is) (All-nil Q)

    pub key_of_link : f ≡ file → e.peer ≡ from → All Q (key_cell b f x.birth e k)
    key_of_link this_file this_peer =
        decided (All Q) (waits b f e k.0) [] (cell_under b f x.birth e k.1 (cell_at b f k.0))
        (λ stays. All-nil Q) (λ goes. under this_file this_peer (cell_at b f k.0) refl)

  -- keys of that edge alone are wanted
  module _ (wanted : Wanted) (only : (f : FileId) (peer : ℕ) (k : Key) → wanted f peer k ≡ true
      → (f ≡ file) × (peer ≡ from)) where
    edge_of_link : (f : FileId) (x : Replica) → replica_at b f ≡ Some x → (e : Edge)
        → edge_to x.edges e.peer ≡ Some e → IsEdge n s e
        → All Q (edge_cells b wanted f x.birth e)
    edge_of_link f x held e linked is =
        let test : Key × ℕ → Bool = λ k. wanted f e.peer k.0 in
        let cells : Key × ℕ → List Sent = key_cell b f x.birth e in
        let tags = keys_found e.keys is.sorted in
        All-flat_map Q cells (filter test e.keys)
        (all_passed test (λ (k : Key × ℕ). All Q (cells k)) e.keys
        (λ i d lt chosen. let k = get_or e.keys i d in
        let here = only f e.peer k.0 chosen in
        key_of_link f x held e linked k (tags i d lt) here.0 here.1))

    replica_of_link : (f : FileId) (x : Replica) → replica_at b f ≡ Some x → AreEdges n s x.edges
        → All Q (replica_cells b wanted (f, x))
    replica_of_link f x held full =
        let found = edges_found 0 x.edges full.order in
        All-flat_map Q (edge_cells b wanted f x.birth) x.edges
        (λ i d lt. edge_of_link f x held (get_or x.edges i d) (found i d lt) (full.each i d lt))

    pub cells_of_link : All Q (cells_where b wanted)
    cells_of_link =
        All-flat_map Q (replica_cells b wanted) b.replicas
        (λ i d lt. let r = get_or b.replicas i d in
        replica_of_link r.0 r.1 (entries_known b whole.order i d lt) (whole.replicas i d lt))

  -- ---- the edge that was made

  either_false : (t : Bool) → (t || false) ≡ true → t ≡ true
  either_false true h = refl
  either_false false h = h

  only_linked : (f : FileId) (peer : ℕ) (k : Key)
      → is_chosen [] (record { file = file; peer = from } ∷ []) f peer k ≡ true
      → (f ≡ file) × (peer ≡ from)
  only_linked f peer k h =
      let parts = and_parts (is_same_file file f) (from == peer)
      (either_false (is_same_file file f && from == peer) h) in
      (sym (is_same_file-true file f parts.0), sym (eqb-true from peer parts.1))

  -- WHAT IS SENT OF IT
  pub link_cells : All Q (cells_where b (is_chosen [] (record { file = file; peer = from } ∷ [])))
  link_cells = cells_of_link (is_chosen [] (record { file = file; peer = from } ∷ [])) only_linked
