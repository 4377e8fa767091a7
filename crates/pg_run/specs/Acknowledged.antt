-- What a peer has of which an edge owes nothing any more.
use Rattle.std.specs.Prelude.{ℕ, ◌≡◌, ◌⊎◌, List, None, Some}
use Rattle.std.specs.List.{IsAmong}
use Rattle.pg_base.specs.declared.id.FileId.{FileId}
use Rattle.pg_edges.specs.declared.edge.Edge.{Edge}
use Rattle.pg_edges.specs.declared.key.Key.{Key}
use Rattle.pg_edges.specs.Keys.{tag_in}
use Rattle.pg_entries.specs.declared.cell.Cell.{Cell}
use Rattle.pg_event.specs.declared.event.Event.{Event}
use Rattle.theory_flood.specs.Server.{Holds}
use Rattle.theory_flood_pieces.specs.UpTo.{IsUpTo}
use Rattle.pg_server.specs.pg_pieces.pg_replica.declared.replica.Replica.{Replica}
use Rattle.pg_server.specs.pg_pieces.pg_store.Cells.{cell_at}
use Rattle.pg_server.specs.pg_pieces.pg_store.Store.{replica_at}
use Rattle.pg_server.specs.pg_pieces.pg_store.Together.{IsOver}
use Rattle.pg_run.specs.Laws.{AtEach}
use Rattle.pg_run.specs.Run.{World, run}

-- the peer holds the thing with the birth that the edge names, and has this cell or one that tells
-- more
pub record IsHadThere (w : World) (file : FileId) (e : Edge) (c : Cell) : Type 0 where
  pub replica : Replica
  pub is : replica_at (w.stores e.peer) file ≡ Some replica
  pub born : replica.birth ≡ e.birth
  pub had : Holds IsUpTo (cell_at (w.stores e.peer) file) c

-- ACKNOWLEDGED KEYS ARE HAD: of each key that is not on an edge any more, the peer's replica of the
-- edge's birth has the present cell, at any time, or that birth is over. So a key goes off an edge
-- only where its peer has what it stands for
abbrev pub AcknowledgedKeysAreHad : ℕ → Type 0
AcknowledgedKeysAreHad servers = (events : List Event) → AtEach servers (λ s.
    (file : FileId) (x : Replica) (e : Edge) (k : Key) (c : Cell)
    → replica_at ((run servers events).stores s) file ≡ Some x → IsAmong x.edges e
    → tag_in e.keys k ≡ None → cell_at ((run servers events).stores s) file k ≡ Some c
    → IsHadThere (run servers events) file e c
    ⊎ IsOver ((run servers events).stores e.peer) file e.birth)
