-- What a directory knows of its children.
use Rattle.std.specs.Prelude.{ℕ, Bool, ◌≡◌, ◌&&◌, ◌||◌, not, true, false, if◌then◌else◌, count_by, List, Option, None, Some}
use Rattle.std.specs.List.{All, list_any}
use Rattle.std.specs.List.Sorted.{IsStrictlySortedBy}
use Rattle.std.specs.Map.{lookup, keys_of, values_of}
use Rattle.std.specs.BTreeMap.{is_at, insert_entry}
use Rattle.pg_base.specs.declared.id.FileId.{FileId}
use Rattle.pg_base.specs.Id.{file_cmp, is_same_file}
use Rattle.pg_base.specs.Stamp.{is_before}
use Rattle.pg_register.specs.Place.{newer_place}
use Rattle.pg_register.specs.Flag.{join_flags, brings_news}
use Rattle.pg_entries.specs.declared.entry.Entry.{Entry}

-- an entry after another of the same child came: the newer place, and of each server the newer flag
abbrev pub joined : Entry → Entry → Entry
joined held e = record {
  child = held.child;
  place = newer_place held.place e.place;
  flags = join_flags held.flags e.flags;
}

-- whether the other has a newer place or a newer flag
abbrev pub brings_change : Entry → Entry → Bool
brings_change held e = is_before held.place.stamp e.place.stamp || brings_news held.flags e.flags

-- to join the other would change nothing
abbrev pub covers : Entry → Entry → Bool
covers held e = not (brings_change held e)

-- the entry of a child
abbrev pub entry_of : List (FileId × Entry) → FileId → Option Entry
entry_of entries child = lookup (is_at (file_cmp child)) entries

-- a new child gets the entry whole
abbrev pub joined_to : Option Entry → Entry → Entry
joined_to None e = e
joined_to (Some held) e = joined held e

abbrev pub brings : Option Entry → Entry → Bool
brings None e = true
brings (Some held) e = brings_change held e

-- the entries after one more came
abbrev pub join_entry : List (FileId × Entry) → Entry → List (FileId × Entry)
join_entry entries e =
    insert_entry file_cmp entries e.child (joined_to (entry_of entries e.child) e)

-- to join the entry would change nothing
abbrev pub covers_entry : List (FileId × Entry) → Entry → Bool
covers_entry entries e = not (brings (entry_of entries e.child) e)

-- the entries with this one for its child
abbrev pub put_entry : List (FileId × Entry) → Entry → List (FileId × Entry)
put_entry entries e = insert_entry file_cmp entries e.child e

-- by child, and each entry at its own child
pub record IsByChild (entries : List (FileId × Entry)) : Type 0 where
  pub rising : IsStrictlySortedBy file_cmp (keys_of entries)
  pub own : All (λ e. e.0 ≡ e.1.child) entries

-- the child has a live place, and stands in this directory
abbrev pub is_listed : FileId → Entry → Bool
is_listed dir e = e.place.live && is_same_file e.place.parent dir

abbrev pub is_listed_entry : FileId → Option Entry → Bool
is_listed_entry dir None = false
is_listed_entry dir (Some e) = is_listed dir e

-- the directory lists the child
abbrev pub lists : List (FileId × Entry) → FileId → FileId → Bool
lists entries dir child = is_listed_entry dir (entry_of entries child)

-- the directory lists a child
abbrev pub lists_any : List (FileId × Entry) → FileId → Bool
lists_any entries dir = list_any (is_listed dir) (values_of entries)

-- so many children the directory lists
abbrev pub count_listed : List (FileId × Entry) → FileId → ℕ
count_listed entries dir = count_by (is_listed dir) (values_of entries)

-- ---- what is known of each child after an entry came

-- after an entry was put: of its child this entry, and of each other what was known
abbrev pub PutIsFound : List (FileId × Entry) → Entry → FileId → Type 0
PutIsFound entries e child = entry_of (put_entry entries e) child
    ≡ (if is_same_file child e.child then Some e else entry_of entries child)

-- after an entry was joined: of its child the two in one, and of each other what was known
abbrev pub JoinedIsFound : List (FileId × Entry) → Entry → FileId → Type 0
JoinedIsFound entries e child = entry_of (join_entry entries e) child
    ≡ (if is_same_file child e.child
    then Some (joined_to (entry_of entries child) e)
    else entry_of entries child)
