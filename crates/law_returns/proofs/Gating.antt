-- Where the dead place of a directory is sent, the peer knows all entries of the directory that the
-- sender does.
use Rattle.std.proofs.Common.{ℕ, ◌≡◌, ◌≤◌, ◌&&◌, not, cond, Bool, true, false, List, [], ◌∷◌, get_or, Option, None, Some, option_map, All, refl, sym, ap, subst, ◌∙◌, inl, inr}
use Rattle.std.specs.Prelude.{Contains}
use Rattle.std.specs.List.{IsAmong, list_any}
use Rattle.std.specs.Map.{keys_of}
use Rattle.std.proofs.lemmas.Bool.{false≢true, or_parts}
use Rattle.std.proofs.lemmas.List.Elements.{All-contains_itself, All-weaker}
use Rattle.std.proofs.lemmas.Option.{none-some, same_Some}
use Rattle.pg_run.specs.pg_base.declared.id.FileId.{FileId}
use Rattle.pg_run.specs.pg_edges.declared.edge.Edge.{Edge}
use Rattle.pg_run.specs.pg_edges.declared.key.Key.{Key}
use Rattle.pg_run.specs.pg_edges.declared.key.Key.TheVariants as key
use Rattle.pg_run.specs.pg_edges.Key.{is_entry, is_same_key}
use Rattle.pg_run.specs.pg_edges.Keys.{has_entry, tag_in}
use Rattle.pg_run.proofs.pg_edges.Orders.{is_same_key-true}
use Rattle.pg_run.specs.pg_entries.declared.cell.Cell.{Cell}
use Rattle.pg_run.specs.pg_entries.declared.cell.Cell.TheVariants as cell
use Rattle.pg_run.specs.pg_entries.declared.entry.Entry.{Entry}
use Rattle.pg_run.specs.pg_msg.declared.message.Ends.{Ends}
use Rattle.pg_run.specs.pg_msg.declared.message.Message.TheVariants as message
use Rattle.pg_run.specs.pg_msg.declared.message.Sent.{Sent}
use Rattle.pg_run.specs.pg_names.Names.{cell_at as entry_at, is_dir, own_or_blank}
use Rattle.pg_run.specs.pg_register.declared.place.Place.{Place}
use Rattle.pg_run.specs.pg_replica.declared.replica.Replica.{Replica}
use Rattle.pg_run.specs.pg_store.declared.store.Store.{Store}
use Rattle.pg_run.specs.pg_store.Cells.{cell_at, entry_cell, is_sure}
use Rattle.pg_run.specs.pg_store.Seen.{view_of}
use Rattle.pg_run.specs.pg_store.Store.{replica_at}
use Rattle.pg_run.specs.pg_cells.Sending.{Wanted, cells_where, waits}
use Rattle.pg_run.specs.theory_flood_pieces.Names.{IsEntryKnownBy}
use Rattle.pg_run.specs.theory_flood_pieces.UpTo.{IsUpTo}
use Rattle.pg_run.specs.theory_flood_pieces.Whole.{AreByChild, IsWhole}
use Rattle.pg_run.proofs.theory_flood_pieces.Found.{entries_known}
use Rattle.pg_run.proofs.theory_flood_pieces.Sending.{own_key}
use Rattle.pg_run.specs.Run.{World}
use Rattle.pg_run.proofs.Event.{CellHas, cells_have}
use Rattle.law_full.proofs.Clean.{among_of}
use Rattle.law_full.proofs.Filling.{AckedIn}
use Rattle.law_full.proofs.Told.{told_whole}
use Rattle.law_returns.specs.Gate.{Brings, KnowsOrOver, place_at}

-- ---- edges without entries

apart_by : (k q : Key) (t : Bool) → is_same_key k q ≡ t → is_entry q ≡ false → is_entry k ≡ true → t ≡ false
apart_by k q false e entry other = refl
apart_by k q true e entry other = absurd (false≢true (sym entry ∙ ap is_entry (sym (is_same_key-true k q e)) ∙ other))

no_entry : (ks : List (Key × ℕ)) (child : FileId) → has_entry ks ≡ false → tag_in ks (key.Entry child) ≡ None
no_entry [] child h = refl
no_entry (k ∷ ks) child h =
    let b = or_parts (is_entry k.0) (list_any is_entry (keys_of ks)) h in
    let other : is_same_key (key.Entry child) k.0 ≡ false = apart_by (key.Entry child) k.0 (is_same_key (key.Entry child) k.0) refl b.0 refl in
    ap (λ t. cond t (Some k.1) (tag_in ks (key.Entry child))) other ∙ no_entry ks child b.1

-- ---- cells of entries

entry_of : (o : Option Entry) (y : Entry) (sure t : Bool) → entry_cell o t ≡ Some (cell.Entry y sure) → o ≡ Some y
entry_of None y sure t h = absurd (none-some (cell.Entry y sure) h)
entry_of (Some x) y sure t h = ap Some (same_entry x y t sure (same_Some (cell.Entry x t) (cell.Entry y sure) h))
  where
    same_entry : (x y : Entry) (t u : Bool) → cell.Entry x t ≡ cell.Entry y u → x ≡ y
    same_entry x y t u e = cc

-- who holds an entry or more knows it
known_by : (b : Store) (f child : FileId) (y : Entry) (sure : Bool) (k : Key) (c : Cell) → AreByChild b.names → y.child ≡ child → cell_at b f k ≡ Some c → IsUpTo (cell.Entry y sure) c → IsEntryKnownBy (Some y) (entry_at b.names f child)
known_by b f child y sure k (cell.Place p) own here is up = absurd up
known_by b f child y sure k (cell.Flag g) own here is up = absurd up
known_by b f child y sure k (cell.Version v) own here is up = absurd up
known_by b f child y sure k (cell.Entry z known) own here is up =
    let at : key.Entry z.child ≡ k = own_key b own f k (cell.Entry z known) is in
    let there : entry_cell (entry_at b.names f z.child) (is_sure b f z.child) ≡ Some (cell.Entry z known) = ap (cell_at b f) at ∙ is in
    let found : entry_at b.names f z.child ≡ Some z = entry_of (entry_at b.names f z.child) z known (is_sure b f z.child) there in
    let same : z.child ≡ child = sym up.child ∙ here in
    subst (IsEntryKnownBy (Some y)) (sym (ap (entry_at b.names f) (sym same) ∙ found)) up

same_ends : (p q : Ends) (t u : ℕ) (c e : Cell) → message.Cell p t c ≡ message.Cell q u e → p ≡ q
same_ends p q t u c e h = cc

same_cell : (p q : Ends) (t u : ℕ) (c e : Cell) → message.Cell p t c ≡ message.Cell q u e → c ≡ e
same_cell p q t u c e h = cc

place_of_cell : (p q : Place) → cell.Place p ≡ cell.Place q → p ≡ q
place_of_cell p q h = cc

-- ---- what a server of a world sends of cells

module _ (n : ℕ) (v : World) (acked : AckedIn n v) (whole : (t : ℕ) → IsWhole n t (v.stores t)) (s : ℕ) (least : 1 ≤ s) (most : s ≤ n) (dir : FileId) (is : is_dir dir ≡ true) (removal : Place) (dead : removal.live ≡ false) where
  abbrev pub Sender : Store
  Sender = v.stores s

  -- of a message that brings the removal
  pub record IsGuarded (m : Sent) (birth : ℕ) : Type 0 where
    pub view : m.packet.view ≡ view_of Sender
    pub place : place_at Sender.names dir ≡ removal
    pub knows : KnowsOrOver dir Sender.names (v.stores m.to) birth

  abbrev pub Guards : Sent → Type 0
  Guards m = (b : Brings dir removal m.packet.message) → IsGuarded m b.ends.receiver

  module _ (x : Replica) (here : replica_at Sender dir ≡ Some x) (e : Edge) (edge : IsAmong x.edges e) (none : has_entry e.keys ≡ false) where
    knows_all : KnowsOrOver dir Sender.names (v.stores e.peer) e.birth
    knows_all child y h =
        let sure = is_sure Sender dir child in
        let c : Cell = cell.Entry y sure in
        elim (acked s least most dir x e (key.Entry child) c here edge (no_entry e.keys child none) (ap (λ (o : Option Entry). entry_cell o sure) h)) [
          | inl had ↦ inl (
            ap (option_map (λ (z : Replica). z.birth)) had.is ∙ ap Some had.born,
            known_by (v.stores e.peer) dir child y sure had.had.key had.had.cell (whole e.peer).names.children ((whole s).names.children dir child y h) had.had.is
                had.had.upto,
          )
          | inr over ↦ inr over
        ]

  -- ---- what is sent of one key

  module _ (f : FileId) (x : Replica) (here : replica_at Sender f ≡ Some x) (e : Edge) (edge : IsAmong x.edges e) where
    by_gate : (b c t : Bool) → b ≡ true → c ≡ true → (b && (c && t)) ≡ false → t ≡ false
    by_gate true true t h k g = g
    by_gate false c t h k g = absurd (false≢true h)
    by_gate true false t h k g = absurd (false≢true k)

    -- the place of the directory does not wait, so no entry's key is on the edge
    guarded_place : (q : Key) → waits Sender f e q ≡ false → f ≡ dir → cell_at Sender f q ≡ Some (cell.Place removal) → (place_at Sender.names dir ≡ removal) × KnowsOrOver dir Sender.names (v.stores e.peer) e.birth
    guarded_place q free same at =
        let own : key.Place ≡ q = own_key Sender (whole s).names.children f q (cell.Place removal) at in
        let at_place : cell_at Sender dir key.Place ≡ Some (cell.Place removal) = ap (λ (z : FileId). cell_at Sender z key.Place) (sym same) ∙ ap (cell_at Sender f) own ∙ at in
        let place : place_at Sender.names dir ≡ removal = place_of_cell (place_at Sender.names dir) removal (same_Some (cell.Place (place_at Sender.names dir)) (cell.Place removal) at_place) in
        let free_here : waits Sender dir e key.Place ≡ false = ap (λ (z : FileId). waits Sender z e key.Place) (sym same) ∙ ap (waits Sender f e) own ∙ free in
        let gone : not (own_or_blank Sender.names dir).place.live ≡ true = ap (λ (p : Place). not p.live) place ∙ ap not dead in
        let none : has_entry e.keys ≡ false = by_gate (is_dir dir) (not (own_or_blank Sender.names dir).place.live) (has_entry e.keys) is gone free_here in
        (place, knows_all x (ap (replica_at Sender) (sym same) ∙ here) e edge none)

    guarded_cell : (q : Key × ℕ) → CellHas Guards Sender f x e q
    guarded_cell q c at free b =
        let mine : Ends = record { file = f; sender = x.birth; receiver = e.birth } in
        let whole_is = told_whole mine b.ends q.1 b.tag c (cell.Place removal) b.is in
        let ends = same_ends mine b.ends q.1 b.tag c (cell.Place removal) whole_is in
        let brought : c ≡ cell.Place removal = same_cell mine b.ends q.1 b.tag c (cell.Place removal) whole_is in
        let t = guarded_place q.0 free (ap (λ (z : Ends). z.file) ends ∙ b.here) (at ∙ ap Some brought) in
        record {
          view = refl;
          place = t.0;
          knows = subst (KnowsOrOver dir Sender.names (v.stores e.peer)) (ap (λ (z : Ends). z.receiver) ends) t.1;
        }

  guarded_replica : (r : FileId × Replica) → replica_at Sender r.0 ≡ Some r.1 → All (λ (e : Edge). All (CellHas Guards Sender r.0 r.1 e) e.keys) r.1.edges
  guarded_replica r here =
      All-weaker (Contains r.1.edges) (λ (e : Edge). All (CellHas Guards Sender r.0 r.1 e) e.keys)
      (λ e there. (λ i d lt. guarded_cell r.0 r.1 here e (among_of r.1.edges e there) (get_or e.keys i d))) r.1.edges (All-contains_itself r.1.edges)

  -- WHATEVER IS SENT
  pub guarded : (wanted : Wanted) → All Guards (cells_where Sender wanted)
  guarded wanted =
      cells_have Guards Sender wanted
      (All-weaker (λ (r : FileId × Replica). replica_at Sender r.0 ≡ Some r.1) (λ (r : FileId × Replica). All (λ (e : Edge). All (CellHas Guards Sender r.0 r.1 e) e.keys) r.1.edges)
      guarded_replica Sender.replicas (entries_known Sender (whole s).order))
