-- The events of a run, as they lie in memory.
use Rattle.std.specs.Prelude.{ℕ, ◌+◌, List, [], ◌∷◌, replicate, zero, suc}
use Rattle.pg_event.specs.declared.event.Event.{Event}
use Rattle.pg_event.specs.declared.event.Event.TheVariants as event
use Rattle.pg_world.specs.declared.event_list.Item.{Item}
use Rattle.pg_world.specs.declared.event_list.Item.TheVariants.{Deliveries, Ticks, Lose, Repeat, Other}

-- ticks of so many servers at this moment, of this server first
abbrev pub ticks : ℕ → ℕ → ℕ → List Event
ticks server moment zero = []
ticks server moment (suc count) = event.Tick server moment 0 ∷ ticks (server + 1) moment count

abbrev pub events_of : Item → List Event
events_of (Deliveries count number) = replicate count (event.Deliver number)
events_of (Ticks count first moment) = ticks first moment count
events_of (Lose number) = event.Lose number ∷ []
events_of (Repeat number) = event.Repeat number ∷ []
events_of (Other other) = other.value ∷ []
