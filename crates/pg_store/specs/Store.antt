-- What one server holds: what it knows of names, and beside that of each thing that it holds a
-- replica with its edges, and the content of a file; and the versions that it heard of and lacks.
use Rattle.std.specs.Prelude.{ℕ, ◌+◌, ◌&&◌, Bool, true, false, nat_lt, nat_le, not, if◌then◌else◌, [], Option, None, Some, is_some}
use Rattle.std.specs.List.{list_any}
use Rattle.std.specs.Map.{values_of}
use Rattle.pg_base.specs.declared.id.FileId.{FileId}
use Rattle.pg_base.specs.declared.stamp.Stamp.{Stamp}
use Rattle.pg_base.specs.Stamp.{clock_end, is_before}
use Rattle.pg_base.specs.Version.{VersionValue}
use Rattle.pg_patch.specs.Ranges.{RangesValue}
use Rattle.pg_content.specs.Content.{ContentValue}
use Rattle.pg_announced.specs.Announced.{NotesValue, without_covered}
use Rattle.pg_delta.specs.declared.delta.KeptDelta.{KeptDelta}
use Rattle.pg_edges.specs.declared.key.Key.{Key}
use Rattle.pg_edges.specs.declared.key.Key.TheVariants as key
use Rattle.pg_register.specs.declared.flag.Flag.{Flag}
use Rattle.pg_register.specs.declared.place.Place.{Place}
use Rattle.pg_register.specs.Flag.{flag_of, number_or_0}
use Rattle.pg_entries.specs.declared.entry.Entry.{Entry}
use Rattle.pg_entries.specs.Entry.{covers as covers_entry, entry_of}
use Rattle.pg_names.specs.Names.{InodeValue, NamesValue, is_entry_new, is_flag_new, is_place_new, join_entry, join_flag, join_place, known, own_at, raise}
use Rattle.pg_names.specs.Names.{is_full as names_fill, is_held as names_hold}
use Rattle.pg_replica.specs.declared.link.Link.{Link}
use Rattle.pg_replica.specs.declared.replica.Replica.{Replica}
use Rattle.pg_replica.specs.Replicas.{ByFile, edge_count, have_own_end, or_nothing, replica_in, replicas_acked, replicas_keeping, replicas_taking, replicas_touched, replicas_writing, takes_version}
use Rattle.pg_store.specs.declared.store.Store.{Store}
use Rattle.pg_store.specs.declared.taking.EntryNews.{EntryNews}
use Rattle.pg_store.specs.declared.taking.EntryNews.TheVariants as news
use Rattle.pg_store.specs.Seen.{server_of}
use Rattle.pg_store.specs.Start.{first_names, first_replicas}

-- a server at the start of a run with so many servers
abbrev pub new_store : ℕ → ℕ → Store
new_store servers server = record {
  servers = servers;
  tags = 1;
  files = 0;
  births = 1;
  names = first_names servers server;
  replicas = first_replicas servers server;
  announced = [];
  intents = [];
  wishes = [];
}

-- a store of these names and replicas
abbrev pub store_of : NamesValue → ByFile → Store
store_of names replicas = record {
  servers = 0;
  tags = 0;
  files = 0;
  births = 0;
  names = names;
  replicas = replicas;
  announced = [];
  intents = [];
  wishes = [];
}

-- ---- look-ups

-- the thing is held, full or filling
abbrev pub is_held : Store → FileId → Bool
is_held store file = names_hold store.names file

-- it is held and full
abbrev pub is_full : Store → FileId → Bool
is_full store file = names_fill store.names file

-- the replica of a thing, if it is held
abbrev pub replica_at : Store → FileId → Option Replica
replica_at store file = replica_in store.replicas file

abbrev pub has_replica : Store → FileId → Bool
has_replica store file = is_some (replica_at store file)

-- the same, and where there is none one of birth 0, with no version and no edge
abbrev pub replica_of : Store → FileId → Replica
replica_of store file = or_nothing (replica_at store file)

-- what is held of a file's content
abbrev pub content_of : Store → FileId → ContentValue
content_of store file = (replica_of store file).content

-- ---- the end of the clock

-- no stamp that was taken, no tag, no id and no birth that was given out has come to 2^62
abbrev pub has_time : ℕ → ℕ → ℕ → ℕ → Bool
has_time last tags files births = nat_lt last clock_end
    && (nat_le tags clock_end && (nat_lt files clock_end && nat_lt births clock_end))

-- the server's own flag of a thing has a number at its end
abbrev pub is_own_flag_at_end : ℕ → InodeValue → Bool
is_own_flag_at_end server x =
    nat_le clock_end (number_or_0 (flag_of x.own.flags server))

-- and so of what may be held
abbrev pub is_end_of : ℕ → Option InodeValue → Bool
is_end_of server None = false
is_end_of server (Some x) = is_own_flag_at_end server x

abbrev pub is_end_at : NamesValue → FileId → Bool
is_end_at names file = is_end_of names.server (known names file)

-- some own flag has
abbrev pub have_own_flag_at_end : NamesValue → Bool
have_own_flag_at_end names =
    list_any (is_own_flag_at_end names.server) (values_of names.held)

-- the clock is not at its end: nor is a number of one of the server's own actors or flags that is
-- known here
abbrev pub is_before_clock_end : Store → Bool
is_before_clock_end store = has_time store.names.last store.tags store.files store.births
    && (not (have_own_end store.replicas (server_of store))
    && not (have_own_flag_at_end store.names))

-- ---- other names, and all else as it was

abbrev pub with_names : Store → NamesValue → Store
with_names store names = record store { names = names }

-- so many tags are drawn, and these are the replicas then
abbrev pub with_drawn : Store → ℕ → ByFile → Store
with_drawn store drawn replicas =
    record store { tags = store.tags + drawn; replicas = replicas }

-- ---- touching

-- a fresh tag at the key on each edge of a replica
abbrev pub touch : Store → FileId → Key → Store
touch store file k = with_drawn store (edge_count (replica_at store file))
    (replicas_touched store.replicas file k store.tags (replica_at store file))

-- ---- what comes to a server: as a cell, or as it makes it

-- a place: a held thing has it where it is newer than its own
abbrev pub is_newer_place : Store → FileId → Place → Bool
is_newer_place store file place = is_place_new (own_at store.names file) place

abbrev pub put_place : Store → FileId → Place → Store
put_place store file place = touch
    (with_names store (raise (join_place store.names file place) place.stamp.time))
    file key.Place

abbrev pub take_place : Store → FileId → Place → Store
take_place store file place =
    if is_newer_place store file place then put_place store file place else store

-- a flag: the same
abbrev pub is_newer_flag : Store → FileId → Flag → Bool
is_newer_flag store file flag = is_flag_new (own_at store.names file) flag

abbrev pub put_flag : Store → FileId → Flag → Store
put_flag store file flag =
    touch (with_names store (join_flag store.names file flag)) file (key.Flag flag.server)

abbrev pub take_flag : Store → FileId → Flag → Store
take_flag store file flag =
    if is_newer_flag store file flag then put_flag store file flag else store

-- an entry: a held directory takes what is newer in it
abbrev pub is_newer_entry : Store → FileId → Entry → Bool
is_newer_entry store dir entry = is_entry_new (known store.names dir) entry

abbrev pub put_entry : Store → FileId → Entry → Store
put_entry store dir entry = touch
    (with_names store (raise (join_entry store.names dir entry) entry.place.stamp.time))
    dir (key.Entry entry.child)

abbrev pub take_entry : Store → FileId → Entry → Store
take_entry store dir entry =
    if is_newer_entry store dir entry then put_entry store dir entry else store

-- what is news in an entry beside the one that was there: the place, be it the first that is known
-- of the child, flags alone, or nothing
abbrev pub news_beside : Option Entry → Entry → EntryNews
news_beside None entry = news.Place
news_beside (Some held) entry =
    if is_before held.place.stamp entry.place.stamp then news.Place
    else (if covers_entry held entry then news.Nothing else news.Flags)

abbrev pub news_in : Option InodeValue → Entry → EntryNews
news_in None entry = news.Nothing
news_in (Some x) entry = news_beside (entry_of x.entries entry.child) entry

abbrev pub is_any_news : EntryNews → Bool
is_any_news news.Nothing = false
is_any_news news.Flags = true
is_any_news news.Place = true

abbrev pub entry_news : Store → FileId → Entry → EntryNews
entry_news store dir entry = news_in (known store.names dir) entry

-- ---- versions

-- a version that comes: of a held file it is a head from then on, if it is not covered
abbrev pub is_new_version : Store → FileId → VersionValue → Bool
is_new_version store file v = takes_version (replica_at store file) v

-- a version of this stamp came to a file or was made, so that these are the replicas then; each of
-- the file's edges took a tag
abbrev pub with_news : Store → FileId → Stamp → ByFile → Store
with_news store file stamp replicas =
    with_names (with_drawn store (edge_count (replica_at store file)) replicas)
    (raise store.names stamp.time)

-- what the replica of a file covers is not noted any more
abbrev pub notes_behind : NotesValue → FileId → Option Replica → NotesValue
notes_behind notes file None = notes
notes_behind notes file (Some x) = without_covered notes file x.content.heads

abbrev pub end_covered : Store → FileId → Store
end_covered store file =
    record store { announced = notes_behind store.announced file (replica_at store file) }

abbrev pub put_version : Store → FileId → VersionValue → Store
put_version store file v = end_covered (with_news store file v.head.stamp
    (replicas_taking store.replicas file v store.tags (replica_at store file))) file

abbrev pub take_version : Store → FileId → VersionValue → Store
take_version store file v =
    if is_new_version store file v then put_version store file v else store

-- the server makes a version of a held file, on all heads
abbrev pub write : Store → FileId → Stamp → RangesValue → Store
write store file stamp ranges = end_covered (with_news store file stamp
    (replicas_writing store.replicas file stamp ranges store.tags (replica_at store file))) file

-- one more delta of a held file is kept
abbrev pub keep_delta : Store → FileId → KeptDelta → Store
keep_delta store file delta = record store {
  replicas = replicas_keeping store.replicas file delta (replica_at store file);
}

-- ---- an answer

-- it takes the key off the edge where its tag is the present one there
abbrev pub acknowledge : Store → FileId → Link → Key → ℕ → Store
acknowledge store file link k tag = record store {
  replicas = replicas_acked store.replicas file link k tag (replica_at store file);
}
