-- What a server's replicas took of the cells of a thing.
use Rattle.std.specs.Prelude.{ℕ, ◌≡◌, true, Contains, List}
use Rattle.pg_run.specs.pg_base.declared.id.FileId.{FileId}
use Rattle.pg_run.specs.pg_entries.declared.cell.Cell.{Cell}
use Rattle.pg_run.specs.pg_entries.declared.cell.Cell.TheVariants as cell
use Rattle.pg_run.specs.theory_flood.Protocol.{Protocol}
use Rattle.pg_run.specs.theory_flood.Taken.{taking as with_taken}
use Rattle.pg_run.specs.pg_house.Passing.{is_update}
use Rattle.pg_run.specs.pg_msg.declared.message.Sent.{Sent}
use Rattle.pg_run.specs.pg_register.declared.flag.Flag.{Flag}
use Rattle.pg_run.specs.pg_register.declared.place.Place.{Place}
use Rattle.pg_run.specs.pg_store.declared.store.Store.{Store}
use Rattle.pg_run.specs.theory_flood_pieces.Seen.{cells}
use Rattle.pg_run.specs.Run.{World}
use Rattle.pg_run.specs.Took.{Take, Taker, flags_taken, places_taken}
use Rattle.pg_run.specs.Took.Taker.{InDir, Itself}

-- a place was taken, if it is one: the blank place is no update
abbrev pub IsPlaceTaken : Taker → FileId → List Take → Place → Type 0
IsPlaceTaken by thing takes place =
    is_update place ≡ true → Contains (places_taken by thing takes) place

-- what a cell tells was taken: of an entry the place and the flags of the child. Of versions
-- nothing is asked here: who holds a cell that tells more than a version's, took that version with
-- its ancestors
abbrev pub IsTaken : List Take → FileId → Cell → Type 0
IsTaken takes file (cell.Place place) = IsPlaceTaken Itself file takes place
IsTaken takes file (cell.Flag flag) = Contains (flags_taken Itself file takes) flag
IsTaken takes file (cell.Entry e sure) = IsPlaceTaken (InDir file) e.child takes e.place
    × ((flag : Flag) → Contains e.flags flag
    → Contains (flags_taken (InDir file) e.child takes) flag)
IsTaken takes file (cell.Version v) = Unit {0}

-- what a server holds, and what its replicas took
pub record Site : Type 0 where
  pub store : Store
  pub took : List Take

abbrev pub site : World → ℕ → Site
site w s = record { store = w.stores s; took = w.took s }

-- the edges of such servers: who covers a cell took what it tells
abbrev pub taking : Protocol Site Sent Cell
taking = with_taken cells (λ (a : Site). a.store) (λ (a : Site) file birth c. IsTaken a.took file c)
