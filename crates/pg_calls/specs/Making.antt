-- What a server makes: places and versions. It takes them as it takes what comes.
use Rattle.std.specs.Prelude.{ℕ, ◌≡◌, true, [], map}
use Rattle.pg_base.specs.declared.id.FileId.{FileId}
use Rattle.pg_base.specs.declared.stamp.Stamp.{Stamp}
use Rattle.pg_base.specs.Stamp.{next_stamp}
use Rattle.pg_base.specs.Version.{stamp_of}
use Rattle.pg_edges.specs.declared.key.Key.TheVariants as key
use Rattle.pg_patch.specs.Ranges.{RangesValue, all}
use Rattle.pg_register.specs.declared.place.Place.{Place}
use Rattle.pg_cells.specs.pg_msg.declared.update.MadeVersion.{MadeVersion}
use Rattle.pg_cells.specs.pg_msg.declared.update.Update.TheVariants as update
use Rattle.pg_cells.specs.pg_msg.declared.work.Work.{Work}
use Rattle.pg_cells.specs.pg_msg.Work.{with_made, with_touched}
use Rattle.pg_cells.specs.pg_store.declared.store.Store.{Store}
use Rattle.pg_cells.specs.pg_store.Seen.{server_of}
use Rattle.pg_cells.specs.pg_store.Store.{content_of, has_replica, write}
use Rattle.pg_cells.specs.pg_pieces.Done.{Done}
use Rattle.pg_cells.specs.pg_pieces.Taking.{take_place_noted}

-- the stamp that the server draws next, at this moment
abbrev pub drawn : Store → ℕ → Stamp
drawn store moment = next_stamp moment store.names.last (server_of store)

-- a place is made, and taken
abbrev pub make_place : FileId → Place → Done → Done
make_place file place done =
    take_place_noted done.store file place (with_made done.work (update.Place file place))

-- a replica of the file is here, and it has no version
abbrev pub HasNoVersion : Store → FileId → Type 0
HasNoVersion store file =
    (has_replica store file ≡ true) × ((content_of store file).heads ≡ [])

-- the version that is made with these ranges, on all heads
abbrev pub version_of : Store → FileId → Stamp → RangesValue → MadeVersion
version_of store file stamp ranges = record {
  file = file;
  stamp = stamp;
  bases = map stamp_of (content_of store file).heads;
  ranges = ranges;
}

-- a version was made, and its key was touched
abbrev pub with_version : Work → MadeVersion → Work
with_version work made =
    with_touched (with_made work (update.Version made)) made.file (key.Version made.stamp)

-- a version is made on all heads, and is the only head from then on
abbrev pub make_version : FileId → Stamp → RangesValue → Done → Done
make_version file stamp ranges done = record {
  store = write done.store file stamp ranges;
  work = with_version done.work (version_of done.store file stamp ranges);
}

-- what the first version of a file makes of nothing: no byte
abbrev pub first_ranges : RangesValue
first_ranges = record { keep = all; least = 0; parts = [] }
