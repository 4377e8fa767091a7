-- The events of a list of events.
use Rattle.std.specs.Prelude.{List, ◌++◌}
use Rattle.std.specs.List.{flat_map}
use Rattle.std.specs.Option.{option_to_list}
use Rattle.pg_event.specs.declared.event.Event.{Event}
use Rattle.pg_world.specs.declared.event_list.EventList.TheInside.{Inside}
use Rattle.pg_world.specs.EventList.{events_of}

abbrev pub all_events : Inside → List Event
all_events l = flat_map events_of (l.earlier ++ option_to_list l.last)
