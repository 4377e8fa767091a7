-- What is said of replicas that go along every run.
use Rattle.std.specs.Prelude.{ℕ, ◌≡◌, false, List, Some}
use Rattle.pg_run.specs.pg_base.declared.id.FileId.{FileId}
use Rattle.pg_run.specs.pg_edges.declared.key.Key.{Key}
use Rattle.pg_run.specs.pg_entries.declared.cell.Cell.{Cell}
use Rattle.pg_run.specs.pg_event.declared.event.Event.{Event}
use Rattle.pg_run.specs.pg_register.Flag.{is_removed}
use Rattle.pg_run.specs.pg_store.Cells.{cell_at}
use Rattle.pg_run.specs.pg_store.Seen.{removed_of}
use Rattle.pg_run.specs.Leaving.{Goes, HasEachCell}
use Rattle.pg_run.specs.Run.{World, run}
use Rattle.law_leaving.specs.Taken.{IsTaken}

-- server t holds the thing with this birth, is not removed in the view of server s, and has every
-- cell that s has of it, or one that tells more, and took what it tells of places, flags and
-- entries
pub record HasAllOf (w : World) (s : ℕ) (file : FileId) (t birth : ℕ) : Type 0 where
  pub there : is_removed (removed_of (w.stores s)) t ≡ false
  pub cells : HasEachCell w s file t birth
  pub took : (k : Key) (c : Cell) → cell_at (w.stores s) file k ≡ Some c → IsTaken (w.took t) file c

-- WHOEVER GOES LEAVES ALL: whenever a replica goes, the one that gave it leave has every cell of
-- it, and took what it tells
abbrev pub DropsLeaveAll : ℕ → Type 0
DropsLeaveAll servers = (events : List Event) (event : Event) (s from : ℕ) (file : FileId)
    → Goes servers events event s file from
    → (birth : ℕ) × HasAllOf (run servers events) s file from birth
