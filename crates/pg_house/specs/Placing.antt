-- New places that a rule makes.
use Rattle.std.specs.Prelude.{ℕ, true, List, [], Option, None, Some, zero, suc}
use Rattle.pg_base.specs.declared.id.FileId.{FileId}
use Rattle.pg_base.specs.declared.stamp.Stamp.{Stamp}
use Rattle.pg_base.specs.Stamp.{next_stamp}
use Rattle.pg_register.specs.declared.flag.Flag.{Flag}
use Rattle.pg_register.specs.declared.place.Place.{Place}
use Rattle.pg_register.specs.Place.{root_place}
use Rattle.pg_edges.specs.declared.key.Key.TheVariants as key
use Rattle.pg_msg.specs.declared.update.Update.TheVariants as update
use Rattle.pg_msg.specs.Work.{with_made, with_touched}
use Rattle.pg_names.specs.declared.attributes.Attributes.{Attributes}
use Rattle.pg_names.specs.Names.{NamesValue, own_at, set_own, with_last}
use Rattle.pg_house.specs.Work.{State, note_left}
use Rattle.pg_house.specs.Passing.{pass}

abbrev pub place_of : Option Attributes → Place
place_of None = root_place
place_of (Some own) = own.place

-- the own place of a held thing
abbrev pub place_at : NamesValue → FileId → Place
place_at names file = place_of (own_at names file)

abbrev pub flags_of : Option Attributes → List Flag
flags_of None = []
flags_of (Some own) = own.flags

-- the stamp that the server draws at this moment
abbrev pub drawn : ℕ → NamesValue → Stamp
drawn moment names = next_stamp moment names.last names.server

-- a live place with this stamp
abbrev pub live_place : Stamp → FileId → List ℕ → Place
live_place stamp parent name =
    record { stamp = stamp; parent = parent; name = name; live = true }

-- the thing has this place, and the flags that it has
abbrev pub own_with : NamesValue → FileId → Place → Attributes
own_with names file place = record { place = place; flags = flags_of (own_at names file) }

-- the thing has this place from now on, which was made; the old one is noted
abbrev pub made_at : State → FileId → Place → State
made_at st file place = record {
  names = set_own (with_last st.names place.stamp.time) file (own_with st.names file place);
  work = note_left
      (with_touched (with_made st.work (update.Place file place)) file key.Place)
      file (place_at st.names file);
}

-- the thing gets a new live place in this directory, with this name, which passes at once
abbrev pub placed : ℕ → List FileId → State → FileId → FileId → List ℕ → State
placed moment dirs st file parent name =
    pass (made_at st file (live_place (drawn moment st.names) parent name)) dirs file

-- so many times
abbrev pub repeated : ℕ → (State → State) → State → State
repeated zero step st = st
repeated (suc n) step st = repeated n step (step st)
