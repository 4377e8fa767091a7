-- What holds of the cells of all keys holds of all cells that a server sends of them.
use Rattle.std.proofs.Common.{ℕ, [], get_or, Option, None, Some, All}
use Rattle.std.specs.List.{filter}
use Rattle.std.proofs.lemmas.List.Elements.{All-cons, All-nil}
use Rattle.pg_run.specs.pg_base.declared.id.FileId.{FileId}
use Rattle.pg_run.specs.pg_edges.declared.edge.Edge.{Edge}
use Rattle.pg_run.specs.pg_edges.declared.key.Key.{Key}
use Rattle.pg_run.specs.pg_entries.declared.cell.Cell.{Cell}
use Rattle.pg_run.specs.pg_msg.declared.message.Message.{Message}
use Rattle.pg_run.specs.pg_msg.declared.message.Sent.{Sent}
use Rattle.pg_run.specs.pg_replica.declared.replica.Replica.{Replica}
use Rattle.pg_run.specs.pg_store.declared.store.Store.{Store}
use Rattle.pg_run.specs.pg_store.Cells.{cell_at}
use Rattle.pg_run.specs.pg_cells.Sending.{Wanted, cell_to, cell_under, cells_where, edge_cells, key_cell, replica_cells, told_as, waits}
use Rattle.pg_run.proofs.theory_flood_pieces.Choices.{All-flat_map, chosen}
use Rattle.law_contents.proofs.Carrying.{OfAny}

module _ (M : Message → Type 0) (b : Store) where
  abbrev IsSent : Sent → Type 0
  IsSent m = M m.packet.message

  -- of each key of a thing: whatever its cell is sent along
  abbrev pub IsCellSent : FileId → Cell → Type 0
  IsCellSent file c = (sender receiver tag : ℕ)
      → M (told_as (record { file = file; sender = sender; receiver = receiver }) tag c)

  module _ (each : (file : FileId) (q : Key) → OfAny IsCellSent file (cell_at b file q)) where
    under_all : (file : FileId) (birth : ℕ) (e : Edge) (tag : ℕ) (o : Option Cell)
        → OfAny IsCellSent file o → All IsSent (cell_under b file birth e tag o)
    under_all file birth e tag None h = All-nil IsSent
    under_all file birth e tag (Some c) h =
        All-cons IsSent (cell_to b file birth e c tag) [] (h birth e.birth tag) (All-nil IsSent)

    key_all : (file : FileId) (birth : ℕ) (e : Edge) (q : Key × ℕ)
        → All IsSent (key_cell b file birth e q)
    key_all file birth e q =
        chosen (All IsSent) (waits b file e q.0) []
        (cell_under b file birth e q.1 (cell_at b file q.0)) (All-nil IsSent)
        (under_all file birth e q.1 (cell_at b file q.0) (each file q.0))

    module _ (wanted : Wanted) where
      edge_all : (file : FileId) (birth : ℕ) (e : Edge)
          → All IsSent (edge_cells b wanted file birth e)
      edge_all file birth e =
          let keys = filter (λ (q : Key × ℕ). wanted file e.peer q.0) e.keys in
          All-flat_map IsSent (key_cell b file birth e) keys
          (λ i d lt. key_all file birth e (get_or keys i d))

      replica_all : (r : FileId × Replica) → All IsSent (replica_cells b wanted r)
      replica_all r =
          All-flat_map IsSent (edge_cells b wanted r.0 r.1.birth) r.1.edges
          (λ i d lt. edge_all r.0 r.1.birth (get_or r.1.edges i d))

      pub cells_all : All IsSent (cells_where b wanted)
      cells_all =
          All-flat_map IsSent (replica_cells b wanted) b.replicas
          (λ i d lt. replica_all (get_or b.replicas i d))
