-- A run by its events.
use Rattle.std.specs.Prelude.{ℕ, Bool, List}
use Rattle.pg_event.specs.declared.event.Event.{Event}
use Rattle.pg_event.specs.declared.entry.Entry.{Entry}
use Rattle.pg_store.specs.declared.store.Store.{Store}
use Rattle.pg_run.specs.Run.{World, next, run}

-- events: all that happened, void events too
-- failed: an event ran out of memory
pub record Played : Type 0 where
  pub servers : ℕ
  pub events : List Event
  pub failed : Bool

-- the world after these events
abbrev pub final : Played → World
final p = run p.servers p.events

-- the entry of one event more
abbrev pub next_entry : Played → Event → Entry
next_entry p event = (next p.servers (final p) event).entry

-- what a server holds then
abbrev pub held : Played → ℕ → Store
held p server = (final p).stores server
