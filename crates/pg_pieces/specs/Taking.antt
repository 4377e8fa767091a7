-- What a held thing takes, with what is noted of it.
use Rattle.std.specs.Prelude.{ℕ, Bool, true, false, ◌&&◌, not, if◌then◌else◌, List, [], ◌∷◌}
use Rattle.pg_base.specs.declared.id.FileId.{FileId}
use Rattle.pg_base.specs.Version.{VersionValue}
use Rattle.pg_edges.specs.declared.key.Key.{Key}
use Rattle.pg_edges.specs.declared.key.Key.TheVariants as key
use Rattle.pg_register.specs.declared.flag.Flag.{Flag}
use Rattle.pg_register.specs.declared.place.Place.{Place}
use Rattle.pg_entries.specs.declared.entry.Entry.{Entry}
use Rattle.pg_store.specs.pg_house.pg_msg.declared.work.Work.{Work}
use Rattle.pg_store.specs.pg_house.pg_msg.Work.{with_touched, with_unsure}
use Rattle.pg_store.specs.pg_names.Names.{own_or_blank}
use Rattle.pg_store.specs.pg_house.Work.{note_left}
use Rattle.pg_store.specs.declared.store.Store.{Store}
use Rattle.pg_store.specs.declared.taking.EntryNews.{EntryNews}
use Rattle.pg_store.specs.declared.taking.EntryNews.TheVariants as news
use Rattle.pg_store.specs.Store.{entry_news, is_new_version, is_newer_flag, is_newer_place, take_entry, take_flag, take_place, take_version}
use Rattle.pg_pieces.specs.Done.{Done}

-- the key is touched, where what was taken there was news
abbrev pub with_news : Bool → Work → FileId → Key → Work
with_news news work file k = if news then with_touched work file k else work

-- ---- places

-- the directory of this place is noted, if it is live, where the thing has a newer one now
abbrev pub with_left_if : Bool → Work → FileId → Place → Work
with_left_if news work file old = if news then note_left work file old else work

-- a place comes to a thing
abbrev pub take_place_noted : Store → FileId → Place → Work → Done
take_place_noted store file place work = record {
  store = take_place store file place;
  work = with_news (is_newer_place store file place)
      (with_left_if (is_newer_place store file place) work file
      (own_or_blank store.names file).place)
      file key.Place;
}

-- ---- flags

abbrev pub take_flag_noted : Store → FileId → Flag → Work → Done
take_flag_noted store file flag work = record {
  store = take_flag store file flag;
  work = with_news (is_newer_flag store file flag) work file (key.Flag flag.server);
}

-- each of these, in their order
abbrev pub take_flags_noted : Store → FileId → List Flag → Work → Done
take_flags_noted store file [] work = record { store = store; work = work }
take_flags_noted store file (flag ∷ flags) work =
    take_flags_noted (take_flag_noted store file flag work).store file flags
    (take_flag_noted store file flag work).work

-- ---- entries

abbrev pub is_any_news : EntryNews → Bool
is_any_news news.Nothing = false
is_any_news news.Flags = true
is_any_news news.Place = true

abbrev pub is_place_news : EntryNews → Bool
is_place_news news.Nothing = false
is_place_news news.Flags = false
is_place_news news.Place = true

-- an entry comes to a directory, from a holder of its child
abbrev pub take_entry_noted : Store → FileId → Entry → Work → Done
take_entry_noted store dir entry work = record {
  store = take_entry store dir entry;
  work = with_news (is_any_news (entry_news store dir entry)) work dir (key.Entry entry.child);
}

-- the child's place is to be confirmed
abbrev pub with_doubt : Bool → Work → FileId → FileId → Work
with_doubt doubt work dir child = if doubt then with_unsure work dir child else work

-- the same from another directory, whose server may not be sure of it: then it is to be confirmed,
-- where the place is news
abbrev pub take_entry_cell : Store → FileId → Entry → Bool → Work → Done
take_entry_cell store dir entry sure work = record {
  store = take_entry store dir entry;
  work = with_doubt (is_place_news (entry_news store dir entry) && not sure)
      (take_entry_noted store dir entry work).work dir entry.child;
}

-- ---- versions

abbrev pub take_version_noted : Store → FileId → VersionValue → Work → Done
take_version_noted store file v work = record {
  store = take_version store file v;
  work = with_news (is_new_version store file v) work file (key.Version v.head.stamp);
}
