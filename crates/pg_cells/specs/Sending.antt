-- Cells as they are sent, along edges on which their keys are unacknowledged.
use Rattle.std.specs.Prelude.{ℕ, ◌==◌, Bool, true, false, ◌&&◌, ◌||◌, not, if◌then◌else◌, nat_lt, List, [], ◌∷◌, Option, None, Some}
use Rattle.std.specs.List.{filter, flat_map, list_any}
use Rattle.pg_base.specs.declared.id.FileId.{FileId}
use Rattle.pg_base.specs.Id.{is_same_file}
use Rattle.pg_edges.specs.declared.edge.Edge.{Edge}
use Rattle.pg_edges.specs.declared.key.Key.{Key}
use Rattle.pg_edges.specs.declared.key.Key.TheVariants as key
use Rattle.pg_edges.specs.Key.{is_same_key}
use Rattle.pg_edges.specs.Keys.{has_entry}
use Rattle.pg_entries.specs.declared.cell.Cell.{Cell}
use Rattle.pg_entries.specs.declared.cell.Cell.TheVariants as cell
use Rattle.pg_pieces.specs.pg_msg.declared.message.Ends.{Ends}
use Rattle.pg_pieces.specs.pg_msg.declared.message.Message.{Message}
use Rattle.pg_pieces.specs.pg_msg.declared.message.Message.TheVariants as message
use Rattle.pg_pieces.specs.pg_msg.declared.message.Sent.{Sent}
use Rattle.pg_pieces.specs.pg_msg.declared.work.Linked.{Linked}
use Rattle.pg_pieces.specs.pg_msg.declared.work.Touched.{Touched}
use Rattle.pg_pieces.specs.pg_names.Names.{is_dir, own_or_blank}
use Rattle.pg_pieces.specs.pg_replica.declared.replica.Replica.{Replica}
use Rattle.pg_pieces.specs.pg_store.declared.store.Store.{Store}
use Rattle.pg_pieces.specs.pg_store.Cells.{cell_at}
use Rattle.pg_pieces.specs.Posting.{sent_to}

-- ---- one cell

-- a version of more than 1,024 bytes is told of by its head alone, all else whole
abbrev pub told_as : Ends → ℕ → Cell → Message
told_as ends tag (cell.Version v) = if nat_lt 1024 v.head.length
    then message.Harbinger ends tag v.head else message.Cell ends tag (cell.Version v)
told_as ends tag c = message.Cell ends tag c

-- what tells of a cell under a tag, to the peer of an edge; from a replica of this birth
abbrev pub cell_to : Store → FileId → ℕ → Edge → Cell → ℕ → Sent
cell_to store file birth e c tag = sent_to store e.peer
    (told_as (record { file = file; sender = birth; receiver = e.birth }) tag c)

-- the same, where the key has a cell
abbrev pub cell_under : Store → FileId → ℕ → Edge → ℕ → Option Cell → List Sent
cell_under store file birth e tag None = []
cell_under store file birth e tag (Some c) = cell_to store file birth e c tag ∷ []

abbrev pub is_place : Key → Bool
is_place key.Place = true
is_place (key.Flag server) = false
is_place (key.Entry child) = false
is_place (key.Version stamp) = false

-- the gate: the dead place of a directory waits while the key of an entry is on the edge
abbrev pub waits : Store → FileId → Edge → Key → Bool
waits store file e k = is_place k && (is_dir file
    && (not (own_or_blank store.names file).place.live && has_entry e.keys))

-- the cell of a key that is on the edge under a tag, unless it waits
abbrev pub key_cell : Store → FileId → ℕ → Edge → Key × ℕ → List Sent
key_cell store file birth e k =
    if waits store file e k.0 then []
    else cell_under store file birth e k.1 (cell_at store file k.0)

-- ---- all cells of keys that are wanted, by file, peer and key

-- whether a key of a file is wanted on its edge to a peer
abbrev pub Wanted : Type 0
Wanted = FileId → ℕ → Key → Bool

abbrev pub edge_cells : Store → Wanted → FileId → ℕ → Edge → List Sent
edge_cells store wanted file birth e =
    flat_map (key_cell store file birth e) (filter (λ k. wanted file e.peer k.0) e.keys)

abbrev pub replica_cells : Store → Wanted → FileId × Replica → List Sent
replica_cells store wanted r = flat_map (edge_cells store wanted r.0 r.1.birth) r.1.edges

abbrev pub cells_where : Store → Wanted → List Sent
cells_where store wanted = flat_map (replica_cells store wanted) store.replicas

-- ---- which are

-- every key
abbrev pub is_any : Wanted
is_any file peer k = true

-- the key of the file is among those that were touched, on every edge
abbrev pub is_touched : List Touched → FileId → Key → Bool
is_touched ts file k = list_any (λ t. is_same_file t.file file && is_same_key t.key k) ts

-- the edge of the file to the peer is among those that were made, with every key on it
abbrev pub is_linked : List Linked → FileId → ℕ → Bool
is_linked ls file peer = list_any (λ l. is_same_file l.file file && l.peer == peer) ls

-- the key has a new tag on the edge
abbrev pub is_chosen : List Touched → List Linked → Wanted
is_chosen touched linked file peer k = is_touched touched file k || is_linked linked file peer
