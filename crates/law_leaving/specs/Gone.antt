-- Replicas that went, as the edges saw them.
use Rattle.std.specs.Prelude.{ℕ, ◌≡◌, List}
use Rattle.pg_run.specs.pg_base.declared.id.FileId.{FileId}
use Rattle.pg_run.specs.pg_entries.declared.cell.Cell.{Cell}
use Rattle.pg_run.specs.pg_event.declared.event.Event.{Event}
use Rattle.pg_run.specs.theory_flood.Server.{Replica as Seen}
use Rattle.pg_run.specs.theory_flood_pieces.Seen.{seen}
use Rattle.pg_run.specs.pg_replica.declared.replica.Replica.{Replica}
use Rattle.pg_run.specs.Laws.{store_after}
use Rattle.pg_run.specs.Leaving.{Went}

-- a server's replica of this birth went in one of these events, and this is how it was seen before
-- that
pub record WentAs (servers : ℕ) (file : FileId) (events : List Event) (s birth : ℕ) (y : Seen Cell)
    : Type 0 where
  pub replica : Replica
  pub went : Went servers events s file replica
  pub born : replica.birth ≡ birth
  pub view : y ≡ seen (store_after servers went.before s) file replica
