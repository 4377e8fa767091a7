-- What a server knows of names in the midst of an event, and what comes of the event.
use Rattle.std.specs.Prelude.{Bool, ◌&&◌, not, if◌then◌else◌}
use Rattle.pg_base.specs.declared.id.FileId.{FileId}
use Rattle.pg_base.specs.Id.{is_same_file}
use Rattle.pg_register.specs.declared.place.Place.{Place}
use Rattle.pg_register.specs.Place.{root}
use Rattle.pg_edges.specs.declared.key.Key.{Key}
use Rattle.pg_edges.specs.declared.key.Key.TheVariants as key
use Rattle.pg_msg.specs.declared.work.Work.{Work}
use Rattle.pg_msg.specs.Work.{with_left, with_touched}
use Rattle.pg_names.specs.Names.{NamesValue}

pub record State : Type 0 where
  pub names : NamesValue
  pub work : Work

abbrev pub state_of : NamesValue → Work → State
state_of names work = record { names = names; work = work }

-- the key of a thing was touched, where it changed
abbrev pub touched : Work → FileId → Key → Bool → Work
touched work file key changed = if changed then with_touched work file key else work

abbrev pub is_root : FileId → Bool
is_root file = is_same_file file root

-- a thing other than the root gets a newer place than this: where this is a live one, its directory
-- is noted, and the thing. The directory may not be held, and has to hear of it
abbrev pub note_left : Work → FileId → Place → Work
note_left work file old =
    if old.live && not (is_root file) then with_left work old.parent file else work

-- the place of a thing was touched, and the old one noted, where it changed
abbrev pub place_touched : Work → FileId → Place → Bool → Work
place_touched work file old changed =
    if changed then note_left (with_touched work file key.Place) file old else work
