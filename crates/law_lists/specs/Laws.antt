-- Who comes back lists a child, and in the event that removes a directory it does not come back.
use Rattle.std.specs.Prelude.{ℕ, ◌≡◌, true, false, Contains, List, Some, slice_get}
use Rattle.pg_run.specs.pg_base.declared.id.FileId.{FileId}
use Rattle.pg_run.specs.pg_call.declared.call.Call.TheVariants.{Rmdir}
use Rattle.pg_run.specs.pg_event.declared.event.Event.{Event}
use Rattle.pg_run.specs.pg_event.declared.event.Event.TheVariants.{Call as Called}
use Rattle.pg_run.specs.pg_house.Work.{is_root}
use Rattle.pg_run.specs.pg_msg.declared.update.Update.TheVariants as update
use Rattle.pg_run.specs.pg_register.declared.place.Place.{Place}
use Rattle.pg_run.specs.pg_server.declared.input.Input.{Input}
use Rattle.pg_run.specs.pg_server.declared.input.Input.TheVariants as input
use Rattle.pg_run.specs.Laws.{TakesIn, took_behind}
use Rattle.pg_run.specs.Run.{made_behind, next, run}
use Rattle.pg_run.specs.Took.{Take, is_held, own_place, place_in}
use Rattle.pg_run.specs.Took.Taker.{InDir}

-- the directory lists this child, by what was taken: the place that it has of it is live, and in it
pub record Lists (takes : List Take) (dir child : FileId) : Type 0 where
  pub live : (place_in (InDir dir) child takes).live ≡ true
  pub here : (place_in (InDir dir) child takes).parent ≡ dir

-- it lists a child that stands there: this is the child's own place, where the child is held
pub record ListsChild (takes : List Take) (dir : FileId) : Type 0 where
  pub child : FileId
  pub lists : Lists takes dir child
  pub own : is_root child ≡ false → is_held child takes ≡ true
      → own_place child takes ≡ place_in (InDir dir) child takes

-- WHO RETURNS LISTS A CHILD: where the house rules make a place of a thing whose own place is dead
-- by then, the thing lists a child at that moment
abbrev pub ReturnsList : ℕ → Type 0
ReturnsList servers = (events : List Event) (last : Event) (s : ℕ) (asked : Input)
    → let w = run servers events in TakesIn servers w last s asked
    → (k : ℕ) (dir : FileId) (place : Place)
    → slice_get (made_behind (w.stores s) asked) k ≡ Some (update.Place dir place)
    → let takes = took_behind (w.stores s) (w.asked s) (w.took s) asked k in
    (own_place dir takes).live ≡ false → ListsChild takes dir

-- A REMOVAL STAYS: in the event in which a client's rmdir makes a directory's dead place, the house
-- rules make no place of this directory
abbrev pub RemovalsStay : ℕ → Type 0
RemovalsStay servers = (events : List Event) (s moment : ℕ) (path : List ℕ) (dir : FileId)
    (removal place : Place)
    → let w = run servers events in
    Contains (next servers w (Called s moment (Rmdir path))).entry.made (update.Place dir removal)
    → removal.live ≡ false
    → ¬ (Contains (made_behind (w.stores s) (input.Call moment (Rmdir path)))
    (update.Place dir place))
