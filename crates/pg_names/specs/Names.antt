-- What one server knows of names: where files and directories stand, their flags, and the entries
-- of directories.
use Rattle.std.specs.Prelude.{ℕ, Bool, true, false, max, not, ◌++◌, List, [], ◌∷◌, Option, None, Some, is_some}
use Rattle.std.specs.List.{filter}
use Rattle.std.specs.BTreeMap.{is_at, insert_entry}
use Rattle.std.specs.Map.{keys_of, lookup, set_value}
use Rattle.pg_base.specs.declared.id.Kind.{Kind}
use Rattle.pg_base.specs.declared.id.Kind.TheVariants.{Dir, File}
use Rattle.pg_base.specs.declared.id.FileId.{FileId}
use Rattle.pg_base.specs.Id.{file_cmp}
use Rattle.pg_base.specs.Stamp.{is_before}
use Rattle.pg_register.specs.declared.flag.Flag.{Flag}
use Rattle.pg_register.specs.declared.place.Place.{Place}
use Rattle.pg_register.specs.Flag.{flag_of}
use Rattle.pg_register.specs.Flag as flags
use Rattle.pg_register.specs.Place.{blank_place, newer_place}
use Rattle.pg_entries.specs.declared.entry.Entry.{Entry}
use Rattle.pg_entries.specs.Entry.{brings, entry_of, put_entry}
use Rattle.pg_entries.specs.Entry as entries
use Rattle.pg_names.specs.declared.attributes.Attributes.{Attributes}

-- full: it has all that the replica had from which it was filled; else it is filling
-- own: the thing's own place and flags
-- entries: of a directory, by child
pub record InodeValue : Type 0 where
  pub full : Bool
  pub own : Attributes
  pub entries : List (FileId × Entry)

-- last: the greatest time of a stamp that the server made or took
-- removed: the servers that were removed in its view
-- held: the files and directories that it holds, by id
pub record NamesValue : Type 0 where
  pub server : ℕ
  pub last : ℕ
  pub removed : List ℕ
  pub held : List (FileId × InodeValue)

abbrev pub is_dir_kind : Kind → Bool
is_dir_kind Dir = true
is_dir_kind File = false

abbrev pub is_dir : FileId → Bool
is_dir file = is_dir_kind file.kind

-- ---- what is held

abbrev pub known : NamesValue → FileId → Option InodeValue
known names file = lookup (is_at (file_cmp file)) names.held

abbrev pub own_of : Option InodeValue → Option Attributes
own_of None = None
own_of (Some x) = Some x.own

abbrev pub entry_in : FileId → Option InodeValue → Option Entry
entry_in child None = None
entry_in child (Some x) = entry_of x.entries child

-- the thing is held, full or filling
abbrev pub is_held : NamesValue → FileId → Bool
is_held names file = is_some (known names file)

abbrev pub is_full_of : Option InodeValue → Bool
is_full_of None = false
is_full_of (Some x) = x.full

-- the thing is held and full
abbrev pub is_full : NamesValue → FileId → Bool
is_full names file = is_full_of (known names file)

-- the own place and flags of a thing, where it is held
abbrev pub own_at : NamesValue → FileId → Option Attributes
own_at names file = own_of (known names file)

-- the cell for a child in a directory, where it is held and has one
abbrev pub cell_at : NamesValue → FileId → FileId → Option Entry
cell_at names dir child = entry_in child (known names dir)

-- the held directories, by id
abbrev pub directories : NamesValue → List FileId
directories names = filter is_dir (keys_of names.held)

-- ---- changes

-- what is known of a thing before anything is: the blank place, and no flag
abbrev pub blank_own : FileId → Attributes
blank_own file = record { place = blank_place file; flags = [] }

abbrev pub or_blank : FileId → Option Attributes → Attributes
or_blank file None = blank_own file
or_blank file (Some own) = own

-- what is known of a thing itself: where it is not held, nothing
abbrev pub own_or_blank : NamesValue → FileId → Attributes
own_or_blank names file = or_blank file (own_at names file)

-- a server that holds nothing
abbrev pub new_names : ℕ → NamesValue
new_names server = record { server = server; last = 0; removed = []; held = [] }

-- this is what is held of a thing from now on, where it is held
abbrev pub with_held : NamesValue → FileId → InodeValue → NamesValue
with_held names file x = record {
  server = names.server;
  last = names.last;
  removed = names.removed;
  held = set_value (is_at (file_cmp file)) names.held x;
}

abbrev pub changed :
    NamesValue → FileId → (InodeValue → InodeValue) → Option InodeValue → NamesValue
changed names file change None = names
changed names file change (Some x) = with_held names file (change x)

-- what is held of a thing changes; where it is not held nothing does
abbrev pub update : NamesValue → FileId → (InodeValue → InodeValue) → NamesValue
update names file change = changed names file change (known names file)

-- with this place and these flags, and no entry
abbrev pub new_held : Attributes → Bool → InodeValue
new_held own full = record { full = full; own = own; entries = [] }

-- one thing more is held
abbrev pub begin : NamesValue → FileId → Attributes → Bool → NamesValue
begin names file own full = record {
  server = names.server;
  last = names.last;
  removed = names.removed;
  held = insert_entry file_cmp names.held file (new_held own full);
}

-- one server more is removed in its view
abbrev pub remove_server : NamesValue → ℕ → NamesValue
remove_server names server = record names { removed = names.removed ++ server ∷ [] }

-- a thing is held no longer
abbrev pub let_go : NamesValue → FileId → NamesValue
let_go names file = record {
  server = names.server;
  last = names.last;
  removed = names.removed;
  held = filter (λ e. not (is_at (file_cmp file) e.0)) names.held;
}

abbrev pub filled : InodeValue → InodeValue
filled x = record { full = true; own = x.own; entries = x.entries }

-- a held thing is full
abbrev pub fill : NamesValue → FileId → NamesValue
fill names file = update names file filled

abbrev pub with_own : Attributes → InodeValue → InodeValue
with_own own x = record { full = x.full; own = own; entries = x.entries }

abbrev pub with_entries : InodeValue → List (FileId × Entry) → InodeValue
with_entries x entries = record { full = x.full; own = x.own; entries = entries }

abbrev pub with_entry : Entry → InodeValue → InodeValue
with_entry entry x = with_entries x (put_entry x.entries entry)

abbrev pub with_joined : Entry → InodeValue → InodeValue
with_joined entry x = with_entries x (entries.join_entry x.entries entry)

abbrev pub with_place : Place → InodeValue → InodeValue
with_place place x =
    with_own (record { place = newer_place x.own.place place; flags = x.own.flags }) x

abbrev pub with_flag : Flag → InodeValue → InodeValue
with_flag flag x =
    with_own (record { place = x.own.place; flags = flags.join_flag x.own.flags flag }) x

-- the own place and flags of a held thing are these
abbrev pub set_own : NamesValue → FileId → Attributes → NamesValue
set_own names file own = update names file (with_own own)

-- this is the cell for its child in a held directory, whole
abbrev pub set_entry : NamesValue → FileId → Entry → NamesValue
set_entry names dir entry = update names dir (with_entry entry)

-- a place came to a held thing: it has the newer one
abbrev pub join_place : NamesValue → FileId → Place → NamesValue
join_place names file place = update names file (with_place place)

-- a flag came to a held thing: it has the newer one of that server
abbrev pub join_flag : NamesValue → FileId → Flag → NamesValue
join_flag names file flag = update names file (with_flag flag)

-- a cell came to a held directory: it has the newer place and the newer flags of the child
abbrev pub join_entry : NamesValue → FileId → Entry → NamesValue
join_entry names dir entry = update names dir (with_joined entry)

-- the greatest time is this one
abbrev pub with_last : NamesValue → ℕ → NamesValue
with_last names last =
    record { server = names.server; last = last; removed = names.removed; held = names.held }

-- a stamp of this time was taken
abbrev pub raise : NamesValue → ℕ → NamesValue
raise names time = with_last names (max names.last time)

-- ---- which of these change a cell

-- a place that comes is newer than the one of a held thing
abbrev pub is_place_new : Option Attributes → Place → Bool
is_place_new None place = false
is_place_new (Some own) place = is_before own.place.stamp place.stamp

-- a flag that comes is newer than the one that a held thing has of its server
abbrev pub is_flag_new : Option Attributes → Flag → Bool
is_flag_new None flag = false
is_flag_new (Some own) flag = flags.is_new (flag_of own.flags flag.server) flag

-- a cell that comes brings a held directory a newer place or flag
abbrev pub is_entry_new : Option InodeValue → Entry → Bool
is_entry_new None entry = false
is_entry_new (Some x) entry = brings (entry_of x.entries entry.child) entry
