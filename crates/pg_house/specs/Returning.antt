-- Return: a dead directory that lists a child comes back.
use Rattle.std.specs.Prelude.{ℕ, Bool, false, ◌&&◌, not, List, Option, None, Some}
use Rattle.std.specs.List.{find}
use Rattle.pg_base.specs.declared.id.FileId.{FileId}
use Rattle.pg_base.specs.Stamp.{is_before}
use Rattle.pg_register.specs.declared.place.Place.{Place}
use Rattle.pg_register.specs.Place.{first_stamp}
use Rattle.pg_entries.specs.Entry.{lists_any}
use Rattle.pg_names.specs.Names.{InodeValue, NamesValue, known}
pub use Rattle.pg_house.specs.Work.{is_root}
use Rattle.pg_house.specs.Work.{State}
use Rattle.pg_house.specs.Placing.{place_at, placed}

-- a dead place of a directory, other than the blank one
abbrev pub is_dead : FileId → Place → Bool
is_dead dir place = not (is_root dir) && (not place.live && is_before first_stamp place.stamp)

abbrev pub is_returning_held : FileId → Option InodeValue → Bool
is_returning_held dir None = false
is_returning_held dir (Some x) = is_dead dir x.own.place && lists_any x.entries dir

abbrev pub is_returning : NamesValue → FileId → Bool
is_returning names dir = is_returning_held dir (known names dir)

abbrev pub first_returning : NamesValue → List FileId → Option FileId
first_returning names dirs = find (is_returning names) dirs

-- it gets a new live place, with the same parent and name
abbrev pub returned : ℕ → List FileId → State → Option FileId → State
returned moment dirs st None = st
returned moment dirs st (Some dir) =
    placed moment dirs st dir (place_at st.names dir).parent (place_at st.names dir).name

-- the first directory that is to come back does, if there is one
abbrev pub return_first : ℕ → List FileId → State → State
return_first moment dirs st = returned moment dirs st (first_returning st.names dirs)
