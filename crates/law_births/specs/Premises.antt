-- What is asked of runs here, that other laws give.
use Rattle.std.specs.Prelude.{ℕ, ◌≡◌, false, List, None, Some, All}
use Rattle.pg_run.specs.pg_base.declared.id.FileId.{FileId}
use Rattle.pg_run.specs.pg_base.declared.id.Kind.{Kind}
use Rattle.pg_run.specs.pg_event.declared.event.Event.{Event}
use Rattle.pg_run.specs.pg_store.declared.store.Store.{Store}
use Rattle.pg_run.specs.pg_store.Births.{fill_at}
use Rattle.pg_run.specs.pg_store.Store.{is_held}
use Rattle.pg_run.specs.pg_calls.Naming.{next_id}
use Rattle.pg_run.specs.Intending.{FillsStand}
use Rattle.pg_run.specs.Laws.{AtEach, store_after}
use Rattle.pg_run.specs.pg_msg.declared.update.MadeVersion.{MadeVersion}
use Rattle.pg_run.specs.theory_flood_pieces.Whole.{IsWhole}
use Rattle.pg_run.specs.pg_server.declared.input.Input.{Input}
use Rattle.pg_run.specs.pg_server.Local.{effect}
use Rattle.pg_run.specs.pg_store.Together.{birth_at}
use Rattle.pg_run.specs.Journal.{versions_in}
use Rattle.pg_run.specs.Run.{run, taking_in}

-- behind each event a Fill stands of just what is to be filled
abbrev pub FillsAlwaysStand : ℕ → Type 0
FillsAlwaysStand servers = (events : List Event)
    → AtEach servers (λ s. FillsStand (store_after servers events s))

-- a server has nothing of the thing: it is not held, and no Fill of it stands
pub record IsFree (a : Store) (file : FileId) : Type 0 where
  pub away : is_held a file ≡ false
  pub unfilled : fill_at a file ≡ None

-- so of each id that it gives out next
abbrev pub NextIdsAreFree : ℕ → Type 0
NextIdsAreFree servers = (events : List Event) → AtEach servers (λ s. (kind : Kind)
    → IsFree (store_after servers events s) (next_id (store_after servers events s) kind))

-- each server is whole behind each event
abbrev pub StoresAreWhole : ℕ → Type 0
StoresAreWhole servers = (events : List Event)
    → AtEach servers (λ s. IsWhole servers s (store_after servers events s))

-- a version that is made is of the server that makes it, which has a replica of the thing
abbrev pub IsMadeHere : ℕ → Store → MadeVersion → Type 0
IsMadeHere s b u = (u.stamp.server ≡ s) × (n : ℕ) × (birth_at b u.file ≡ Some n)

abbrev pub MakersHold : ℕ → Type 0
MakersHold servers = (events : List Event) (event : Event) (s : ℕ) (asked : Input)
    → taking_in servers (run servers events) event ≡ Some (record { server = s; asked = asked })
    → All (IsMadeHere s (effect ((run servers events).stores s) asked).store)
    (versions_in (effect ((run servers events).stores s) asked).out.made)
