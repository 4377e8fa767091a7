-- What replicas took: the updates that a server's replicas of files and directories have, in the
-- order in which they came to it, the latest first. Of a replica that went there is none.
use Rattle.std.specs.Prelude.{Bool, true, false, ◌&&◌, not, if◌then◌else◌, List, [], ◌∷◌, map, Option, None, Some}
use Rattle.std.specs.List.{filter, flat_map}
use Rattle.pg_base.specs.declared.id.FileId.{FileId}
use Rattle.pg_base.specs.declared.stamp.Stamp.{Stamp}
use Rattle.pg_base.specs.Id.{is_same_file}
use Rattle.pg_register.specs.declared.flag.Flag.{Flag}
use Rattle.pg_register.specs.declared.place.Place.{Place}
use Rattle.pg_register.specs.Flag.{join_flags}
use Rattle.pg_register.specs.Place.{blank_place, newer_place, root, root_place}
use Rattle.pg_entries.specs.declared.cell.Cell.{Cell}
use Rattle.pg_entries.specs.declared.cell.Cell.TheVariants as cell
use Rattle.pg_entries.specs.declared.entry.Entry.{Entry}
use Rattle.pg_server.specs.pg_pieces.pg_msg.declared.update.Update.{Update}
use Rattle.pg_server.specs.pg_pieces.pg_msg.declared.update.Update.TheVariants as update
use Rattle.pg_server.specs.pg_pieces.pg_house.Facts.{is_among}
use Rattle.pg_server.specs.pg_pieces.pg_house.Passing.{is_update}

-- which replica took what came of a thing: its own, or that of a directory with an entry for it
pub data Taker : Type 0 where
  Itself : Taker
  InDir : (dir : FileId) → Taker

-- one update that a replica took: a version of a file by its stamp; or a place or a flag of a
-- thing. Or a replica of a thing began here, and took nothing yet
pub data Take : Type 0 where
  TookVersion : (file : FileId) (stamp : Stamp) → Take
  TookPlace : (by : Taker) (thing : FileId) (place : Place) → Take
  TookFlag : (by : Taker) (thing : FileId) (flag : Flag) → Take
  Began : (file : FileId) → Take

-- ---- what comes

-- an update that its maker made is taken by the maker's replica of that thing
abbrev pub take_of : Update → Take
take_of (update.Version made) = TookVersion made.file made.stamp
take_of (update.Place thing place) = TookPlace Itself thing place
take_of (update.Flag thing flag) = TookFlag Itself thing flag

-- a directory takes the place and the flags of a child
abbrev pub entry_takes : FileId → Entry → List Take
entry_takes dir entry =
    TookPlace (InDir dir) entry.child entry.place
    ∷ map (TookFlag (InDir dir) entry.child) entry.flags

-- a cell brings the replica of a file its update; an entry's brings a directory those of the child
abbrev pub takes_in : FileId → Cell → List Take
takes_in file (cell.Place place) = TookPlace Itself file place ∷ []
takes_in file (cell.Flag flag) = TookFlag Itself file flag ∷ []
takes_in file (cell.Entry entry sure) = entry_takes file entry
takes_in file (cell.Version version) = TookVersion file version.head.stamp ∷ []

-- a place and flags of a thing are taken; the blank place is no update
abbrev pub places_of : Taker → FileId → Place → List Take
places_of by thing place = if is_update place then TookPlace by thing place ∷ [] else []

abbrev pub flags_of : Taker → FileId → List Flag → List Take
flags_of by thing flags = map (TookFlag by thing) flags

-- the start: every server has a replica of the root, with the root's place and these flags
abbrev pub first_takes : List Flag → List Take
first_takes flags =
    Began root ∷ TookPlace Itself root root_place ∷ flags_of Itself root flags

-- ---- what a server's replicas took of a thing

abbrev pub is_same_taker : Taker → Taker → Bool
is_same_taker Itself Itself = true
is_same_taker Itself (InDir e) = false
is_same_taker (InDir d) Itself = false
is_same_taker (InDir d) (InDir e) = is_same_file d e

abbrev pub stamp_taken_by : FileId → Take → List Stamp
stamp_taken_by file (TookVersion f stamp) = if is_same_file f file then stamp ∷ [] else []
stamp_taken_by file (TookPlace b t place) = []
stamp_taken_by file (TookFlag b t flag) = []
stamp_taken_by file (Began f) = []

-- the versions that came to the replica of a file
abbrev pub stamps_taken : FileId → List Take → List Stamp
stamps_taken file takes = flat_map (stamp_taken_by file) takes

abbrev pub place_taken_by : Taker → FileId → Take → List Place
place_taken_by by thing (TookVersion f stamp) = []
place_taken_by by thing (TookPlace b t place) =
    if is_same_taker b by && is_same_file t thing then place ∷ [] else []
place_taken_by by thing (TookFlag b t flag) = []
place_taken_by by thing (Began f) = []

-- the places of a thing that a replica took
abbrev pub places_taken : Taker → FileId → List Take → List Place
places_taken by thing takes = flat_map (place_taken_by by thing) takes

abbrev pub flag_taken_by : Taker → FileId → Take → List Flag
flag_taken_by by thing (TookVersion f stamp) = []
flag_taken_by by thing (TookPlace b t place) = []
flag_taken_by by thing (TookFlag b t flag) =
    if is_same_taker b by && is_same_file t thing then flag ∷ [] else []
flag_taken_by by thing (Began f) = []

abbrev pub flags_taken : Taker → FileId → List Take → List Flag
flags_taken by thing takes = flat_map (flag_taken_by by thing) takes

-- ---- the newest of them

-- the place of a thing of which none came: the blank one, but the root stands in itself
abbrev pub first_place : FileId → Place
first_place thing = if is_same_file thing root then root_place else blank_place thing

-- the place of the latest stamp
abbrev pub latest_place : FileId → List Place → Place
latest_place thing [] = first_place thing
latest_place thing (place ∷ places) = newer_place (latest_place thing places) place

-- of each server the newest flag, by server
abbrev pub newest_flags : List Flag → List Flag
newest_flags flags = join_flags [] flags

-- the place that a replica has of a thing
abbrev pub place_in : Taker → FileId → List Take → Place
place_in by thing takes = latest_place thing (places_taken by thing takes)

abbrev pub flags_in : Taker → FileId → List Take → List Flag
flags_in by thing takes = newest_flags (flags_taken by thing takes)

-- a thing's own place
abbrev pub own_place : FileId → List Take → Place
own_place thing takes = place_in Itself thing takes

-- ---- what is held

-- the thing of which a replica began
abbrev pub begun_by : Take → List FileId
begun_by (TookVersion file stamp) = []
begun_by (TookPlace by thing place) = []
begun_by (TookFlag by thing flag) = []
begun_by (Began file) = file ∷ []

-- a server holds the things of which a replica began there: what a directory lists need not be
-- held, nor the parent of what is held. What a replica took goes with it
abbrev pub held : List Take → List FileId
held takes = flat_map begun_by takes

abbrev pub is_held : FileId → List Take → Bool
is_held file takes = is_among file (held takes)

-- ---- a replica that goes

abbrev pub is_taker : FileId → Taker → FileId → Bool
is_taker file Itself thing = is_same_file thing file
is_taker file (InDir dir) thing = is_same_file dir file

-- the replica of this thing took it: a version, place or flag of the thing, and as a directory an
-- update of a child; or it began so
abbrev pub is_of_replica : FileId → Take → Bool
is_of_replica file (TookVersion f stamp) = is_same_file f file
is_of_replica file (TookPlace by thing place) = is_taker file by thing
is_of_replica file (TookFlag by thing flag) = is_taker file by thing
is_of_replica file (Began f) = is_same_file f file

-- what it took goes with it. What directories took of the thing stays
abbrev pub without : FileId → List Take → List Take
without file takes = filter (λ t. not (is_of_replica file t)) takes

abbrev pub without_gone : Option FileId → List Take → List Take
without_gone None takes = takes
without_gone (Some file) takes = without file takes
