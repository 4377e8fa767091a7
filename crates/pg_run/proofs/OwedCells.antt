-- What a tick sends: the cell of each key that is owed and does not wait, and the message of each
-- intention that asks a server.
use Rattle.std.proofs.Common.{[], ℕ, ◌≡◌, Bool, true, false, nat_lt, not, cond, Option, Some, List, ◌∷◌, get_or, map, refl, sym, ap, subst, ◌∙◌}
use Rattle.std.specs.List.{AllZip, filter, flat_map}
use Rattle.std.proofs.lemmas.List.Elements.{All-weaker}
use Rattle.pg_base.specs.declared.id.FileId.{FileId}
use Rattle.pg_base.specs.Version.{VersionValue}
use Rattle.pg_edges.specs.declared.key.Key.{Key}
use Rattle.pg_edges.specs.declared.key.Key.TheVariants as key
use Rattle.pg_edges.specs.declared.edge.Edge.{Edge}
use Rattle.pg_edges.specs.Keys.{tag_in}
use Rattle.pg_edges.specs.Edges.{edge_to, tag_at}
use Rattle.pg_entries.specs.declared.cell.Cell.{Cell}
use Rattle.pg_entries.specs.declared.cell.Cell.TheVariants as cell
use Rattle.pg_server.specs.pg_pieces.pg_replica.declared.replica.Replica.{Replica}
use Rattle.pg_server.specs.pg_pieces.pg_msg.declared.message.Ends.{Ends}
use Rattle.pg_server.specs.pg_pieces.pg_msg.declared.message.Message.TheVariants as message
use Rattle.pg_server.specs.pg_pieces.pg_msg.declared.message.Sent.{Sent}
use Rattle.pg_server.specs.pg_pieces.pg_msg.declared.summary.Summary.{Summary}
use Rattle.pg_server.specs.pg_pieces.pg_msg.Sent.{cell_key, summary}
use Rattle.pg_event.specs.declared.quiet.OwedKey.{OwedKey}
use Rattle.pg_server.specs.pg_pieces.pg_store.declared.store.Store.{Store}
use Rattle.pg_server.specs.pg_pieces.pg_store.Cells.{cell_at}
use Rattle.pg_server.specs.pg_pieces.pg_store.Seen.{server_of}
use Rattle.pg_server.specs.pg_pieces.pg_store.Store.{replica_at}
use Rattle.pg_server.specs.pg_pieces.Posting.{sent_to}
use Rattle.pg_server.specs.pg_cells.Sending.{cell_to, cell_under, cells_where, edge_cells, is_any, key_cell, replica_cells, waits}
use Rattle.theory_flood_pieces.specs.Whole.{AreEdges, IsEdge, IsWhole}
use Rattle.theory_flood_pieces.proofs.Found.{edges_found, entries_known, keys_found, tag_on_edge}
use Rattle.pg_server.specs.Owing.{edge_owes, replica_owes}
use Rattle.pg_run.specs.Ticks.{IsOwedCell, edge_of, is_large, is_let, let_through, owed_as, owed_cell, waits_on}
use Rattle.pg_run.proofs.Zips.{zip_parts, zip_singles}

-- each key on an edge has a cell, which is of that key
pub record HasKeyCell (a : Store) (file : FileId) (k : Key) : Type 0 where
  pub c : Cell
  pub is : cell_at a file k ≡ Some c
  pub named : cell_key c ≡ k

abbrev pub KeysAreCells : Store → Type 0
KeysAreCells a = (file : FileId) (x : Replica) (peer birth : ℕ) (k : Key) (tag : ℕ)
    → replica_at a file ≡ Some x → tag_at x.edges peer birth k ≡ Some tag → HasKeyCell a file k

-- ---- one cell for each key that is owed and does not wait

abbrev owing : ℕ → FileId → Edge → Key × ℕ → OwedKey
owing server file e k = record { server = server; file = file; peer = e.peer; key = k.0 }

abbrev IsSent : Store → OwedKey → Sent → Type 0
IsSent a o m = IsOwedCell a o m × (summary m ≡ owed_cell a o)

-- as it is told where its cell is such a version, or is not
abbrev owed_with : ℕ → FileId → Edge → Key → Bool → Summary
owed_with server file e q large = owed_as (owing server file e (q, 0)) q large

module _ (a : Store) (file : FileId) (birth : ℕ) (e : Edge) (tag : ℕ) where
  abbrev Along : Ends
  Along = record { file = file; sender = birth; receiver = e.birth }

  version_told : (v : VersionValue) (large : Bool)
      → summary (sent_to a e.peer (cond large (message.Harbinger Along tag v.head) (message.Cell Along tag (cell.Version v))))
      ≡ owed_with (server_of a) file e (key.Version v.head.stamp) large
  version_told v true = refl
  version_told v false = refl

  -- what tells of a cell is summed up as its key is owed
  cell_told : (c : Cell) → summary (cell_to a file birth e c tag) ≡ owed_with (server_of a) file e (cell_key c) (is_large (Some c))
  cell_told (cell.Place place) = refl
  cell_told (cell.Flag flag) = refl
  cell_told (cell.Entry entry sure) = refl
  cell_told (cell.Version v) = version_told v (nat_lt 1024 v.head.length)

module _ (n s : ℕ) (a : Store) (whole : IsWhole n s a) (cells : KeysAreCells a) where
  abbrev Server : ℕ
  Server = server_of a

  module _ (file : FileId) (x : Replica) (held : replica_at a file ≡ Some x) where
    gate_is : (e : Edge) (k : Key × ℕ) → edge_to x.edges e.peer ≡ Some e → is_let a (owing Server file e k) ≡ not (waits a file e k.0)
    gate_is e k linked =
        ap (λ (o : Option Replica). not (waits_on a (owing Server file e k) (edge_of o e.peer))) held
        ∙ ap (λ (o : Option Edge). not (waits_on a (owing Server file e k) o)) linked

    cell_sent : (e : Edge) (k : Key × ℕ) → edge_to x.edges e.peer ≡ Some e → tag_in e.keys k.0 ≡ Some k.1 → (h : HasKeyCell a file k.0)
        → IsSent a (owing Server file e k) (cell_to a file x.birth e h.c k.1)
    cell_sent e k linked tag h = (
      record {
        replica = x;
        edge = e;
        tag = k.1;
        c = h.c;
        held = held;
        linked = linked;
        tagged = tag;
        present = h.is;
        whole = refl;
      },
      cell_told a file x.birth e k.1 h.c ∙ ap (λ q. owed_with Server file e q (is_large (Some h.c))) h.named
          ∙ ap (λ o. owed_with Server file e k.0 (is_large o)) (sym h.is),
    )

    under_gate : (e : Edge) (k : Key × ℕ) (t : Bool) → edge_to x.edges e.peer ≡ Some e → tag_in e.keys k.0 ≡ Some k.1 → (h : HasKeyCell a file k.0)
        → AllZip (IsSent a) (cond (not t) (owing Server file e k ∷ []) []) (cond t [] (cell_under a file x.birth e k.1 (cell_at a file k.0)))
    under_gate e k true linked tag h = tt
    under_gate e k false linked tag h =
        subst (λ z. AllZip (IsSent a) (owing Server file e k ∷ []) (cell_under a file x.birth e k.1 z)) (sym h.is)
        (cell_sent e k linked tag h, tt)

    key_sent : (e : Edge) (k : Key × ℕ) → edge_to x.edges e.peer ≡ Some e → tag_in e.keys k.0 ≡ Some k.1
        → AllZip (IsSent a) (cond (is_let a (owing Server file e k)) (owing Server file e k ∷ []) []) (key_cell a file x.birth e k)
    key_sent e k linked tag =
        let h = cells file x e.peer e.birth k.0 k.1 held (tag_on_edge x.edges e k.0 (Some k.1) linked tag) in
        subst (λ t. AllZip (IsSent a) (cond t (owing Server file e k ∷ []) []) (key_cell a file x.birth e k)) (sym (gate_is e k linked))
        (under_gate e k (waits a file e k.0) linked tag h)

    any_kept : (peer : ℕ) (ks : List (Key × ℕ)) → filter (λ (k : Key × ℕ). is_any file peer k.0) ks ≡ ks
    any_kept peer [] = refl
    any_kept peer (k ∷ ks) = ap (λ l. k ∷ l) (any_kept peer ks)

    edge_sends : (e : Edge) → edge_to x.edges e.peer ≡ Some e → IsEdge n s e
        → AllZip (IsSent a) (filter (is_let a) (edge_owes Server file e)) (edge_cells a is_any file x.birth e)
    edge_sends e linked is =
        let sends : Key × ℕ → List Sent = key_cell a file x.birth e in
        subst (λ ks. AllZip (IsSent a) (filter (is_let a) (edge_owes Server file e)) (flat_map sends ks)) (sym (any_kept e.peer e.keys))
        (zip_singles (IsSent a) (is_let a) (owing Server file e) sends e.keys
        (All-weaker (λ (k : Key × ℕ). tag_in e.keys k.0 ≡ Some k.1)
        (λ k. AllZip (IsSent a) (cond (is_let a (owing Server file e k)) (owing Server file e k ∷ []) []) (sends k))
        (λ k tag. key_sent e k linked tag) e.keys (keys_found e.keys is.sorted)))

    replica_sends : AreEdges n s x.edges → AllZip (IsSent a) (filter (is_let a) (replica_owes Server (file, x))) (replica_cells a is_any (file, x))
    replica_sends full =
        let edge = edges_found 0 x.edges full.order in
        zip_parts (IsSent a) (is_let a) (edge_owes Server file) (edge_cells a is_any file x.birth) x.edges
        (λ i d lt. edge_sends (get_or x.edges i d) (edge i d lt) (full.each i d lt))

  pub all_sent : AllZip (IsSent a) (let_through a) (cells_where a is_any)
  all_sent =
      zip_parts (IsSent a) (is_let a) (replica_owes Server) (replica_cells a is_any) a.replicas
      (λ i d lt. let r = get_or a.replicas i d in
      replica_sends r.0 r.1 (entries_known a whole.order i d lt) (whole.replicas i d lt))

-- ---- as they are told

pub all_told : (a : Store) (os : List OwedKey) (ms : List Sent) → AllZip (IsSent a) os ms → map summary ms ≡ map (owed_cell a) os
all_told a [] [] h = refl
all_told a [] (m ∷ ms) h = absurd h
all_told a (o ∷ os) [] h = absurd h
all_told a (o ∷ os) (m ∷ ms) h = ap (λ x. x ∷ map summary ms) h.0.1 ∙ ap (λ xs. owed_cell a o ∷ xs) (all_told a os ms h.1)

pub all_owed : (a : Store) (os : List OwedKey) (ms : List Sent) → AllZip (IsSent a) os ms → AllZip (IsOwedCell a) os ms
all_owed a [] [] h = tt
all_owed a [] (m ∷ ms) h = absurd h
all_owed a (o ∷ os) [] h = absurd h
all_owed a (o ∷ os) (m ∷ ms) h = (h.0.0, all_owed a os ms h.1)
