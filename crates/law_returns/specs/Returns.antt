-- What justified return stands on, of what servers take, besides the gate.
use Rattle.std.specs.Prelude.{ℕ, ◌≡◌, ◌⊎◌, true, false, Contains, List, Some, slice_get}
use Rattle.pg_run.specs.pg_base.declared.id.FileId.{FileId}
use Rattle.pg_run.specs.pg_register.declared.place.Place.{Place}
use Rattle.pg_run.specs.pg_event.declared.event.Event.{Event}
use Rattle.pg_run.specs.pg_msg.declared.update.Update.{Update}
use Rattle.pg_run.specs.pg_names.Names.{is_dir}
use Rattle.pg_run.specs.pg_server.declared.input.Input.{Input}
use Rattle.pg_run.specs.pg_server.Local.{first_effect}
use Rattle.pg_run.specs.Laws.{AtEach, TakesIn, took_behind}
use Rattle.pg_run.specs.Run.{made_behind, removed_then, run}
use Rattle.pg_run.specs.Took.{Take, Taker, first_place, own_place, places_taken}
use Rattle.law_returns.specs.Gate.{IsStillThere, place_at}

-- ---- no two places of a thing have one stamp

abbrev pub IsTaken : Taker → FileId → List Take → Place → Type 0
IsTaken by thing takes place =
    (place ≡ first_place thing) ⊎ Contains (places_taken by thing takes) place

abbrev pub TakesHaveOwnStamps : ℕ → Type 0
TakesHaveOwnStamps servers = (events : List Event) → AtEach servers (λ s.
    (by : Taker) (thing : FileId) (p q : Place)
    → IsTaken by thing ((run servers events).took s) p
    → IsTaken by thing ((run servers events).took s) q → p.stamp ≡ q.stamp → p ≡ q)

-- ---- in the midst of an event

-- where a directory's own place is a dead one while the house rules make updates, and its maker is
-- not removed in the view behind the first effect, it had this place behind the first effect
abbrev pub DeadPlacesStay : ℕ → Type 0
DeadPlacesStay servers = (events : List Event) (last : Event) (s : ℕ) (asked : Input)
    → let w = run servers events in TakesIn servers w last s asked
    → (k : ℕ) (u : Update) → slice_get (made_behind (w.stores s) asked) k ≡ Some u
    → (dir : FileId) → is_dir dir ≡ true
    → (own_place dir (took_behind (w.stores s) (w.asked s) (w.took s) asked k)).live ≡ false
    → IsStillThere (removed_then (w.stores s) asked)
    (own_place dir (took_behind (w.stores s) (w.asked s) (w.took s) asked k))
    → place_at (first_effect (w.stores s) asked).store.names dir
    ≡ own_place dir (took_behind (w.stores s) (w.asked s) (w.took s) asked k)
