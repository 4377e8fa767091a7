-- The names that a directory shows.
use Rattle.std.specs.Prelude.{ℕ, Bool, ◌≡◌, ◌&&◌, true, false, if◌then◌else◌, List, [], ◌∷◌, ◌++◌, map, Option, None, Some}
use Rattle.std.specs.Ordering.{nat_cmp, ordering_then, is_lt}
use Rattle.std.specs.declared.cmp.Ordering.{Ordering}
use Rattle.std.specs.Cmp.Lexicographic.{slice_cmp}
use Rattle.std.specs.List.{IsAmong, filter, find, fold, list_any}
use Rattle.std.specs.Option.{option_map}
use Rattle.std.specs.Map.{values_of}
use Rattle.pg_base.specs.declared.id.FileId.{FileId}
use Rattle.pg_base.specs.Id.{file_cmp}
use Rattle.pg_base.specs.Stamp.{stamp_cmp}
use Rattle.pg_register.specs.Place.{tilde_name}
use Rattle.pg_entries.specs.declared.entry.Entry.{Entry}
use Rattle.pg_entries.specs.declared.claim.Claim.{Claim}
use Rattle.pg_path.specs.declared.row.Row.{Row}
use Rattle.pg_entries.specs.Entry.{is_listed}
use Rattle.pg_entries.specs.Names.{HasName, same_name}

-- a child's claim on its name: the stamp of its place, and its id
abbrev pub claim_of : Entry → Claim
claim_of e = record { stamp = e.place.stamp; child = e.child }

-- the lesser stamp goes first, and of one stamp, which no run has, the lesser id
abbrev pub claim_cmp : Claim → Claim → Ordering
claim_cmp a b = ordering_then (stamp_cmp a.stamp b.stamp) (file_cmp a.child b.child)

-- a child that the directory lists, and whose name this is
abbrev pub is_rival : FileId → List ℕ → Entry → Bool
is_rival dir name e = is_listed dir e && same_name e.place.name name

-- another child that the directory lists has the same name, and goes first
abbrev pub is_hidden : List (FileId × Entry) → FileId → Entry → Bool
is_hidden entries dir e =
    list_any
    (λ o. is_rival dir e.place.name o && is_lt (claim_cmp (claim_of o) (claim_of e)))
    (values_of entries)

-- of the children with one name the first shows it, and each other shows it with a tilde and its id
-- behind
abbrev pub shown_name : List (FileId × Entry) → FileId → Entry → List ℕ
shown_name entries dir e =
    if is_hidden entries dir e then e.place.name ++ tilde_name e.child else e.place.name

-- the children that the directory lists, by child
abbrev pub children_of : List (FileId × Entry) → FileId → List Entry
children_of entries dir = filter (is_listed dir) (values_of entries)

-- whether a child is listed and shows this name
abbrev pub shows : List (FileId × Entry) → FileId → List ℕ → Entry → Bool
shows entries dir name e = is_listed dir e && same_name (shown_name entries dir e) name

-- the child that shows this name
abbrev pub find_of : List (FileId × Entry) → FileId → List ℕ → Option FileId
find_of entries dir name =
    option_map (λ e. e.child) (find (shows entries dir name) (values_of entries))

abbrev pub row_of : List (FileId × Entry) → FileId → Entry → Row
row_of entries dir e = record { name = shown_name entries dir e; child = e.child }

-- each child that the directory lists, with the name that it shows, by child
abbrev pub rows_of : List (FileId × Entry) → FileId → List Row
rows_of entries dir = map (row_of entries dir) (children_of entries dir)

-- by the bytes of the name, and then by child
abbrev pub row_cmp : Row → Row → Ordering
row_cmp a b = ordering_then (slice_cmp nat_cmp a.name b.name) (file_cmp a.child b.child)

-- these rows and one more, behind those that go before it
abbrev pub insert_row : List Row → Row → List Row
insert_row [] row = row ∷ []
insert_row (held ∷ rows) row =
    if is_lt (row_cmp held row) then held ∷ insert_row rows row else row ∷ held ∷ rows

-- the rows in order
abbrev pub rows_in_order : List Row → List Row
rows_in_order [] = []
rows_in_order (row ∷ rows) = insert_row (rows_in_order rows) row

-- what a directory shows: the rows in the byte order of their names
abbrev pub listing_of : List (FileId × Entry) → FileId → List Row
listing_of entries dir = rows_in_order (rows_of entries dir)

-- no two of the children that the directory lists show one name, where each has a name as in a run
abbrev pub ShownNamesDiffer : List (FileId × Entry) → FileId → Type 0
ShownNamesDiffer entries dir = (a b : Entry) →
    IsAmong (values_of entries) a → IsAmong (values_of entries) b
    → is_listed dir a ≡ true → is_listed dir b ≡ true → HasName a → HasName b
    → shown_name entries dir a ≡ shown_name entries dir b → a.child ≡ b.child

-- ---- how the first claim on a name is found

-- the claim that goes first
abbrev pub lesser : Option Claim → Claim → Claim
lesser None c = c
lesser (Some held) c = if is_lt (claim_cmp c held) then c else held

abbrev pub take_claim : FileId → List ℕ → Option Claim → Entry → Option Claim
take_claim dir name first e =
    if is_rival dir name e then Some (lesser first (claim_of e)) else first

-- the first of the claims on a name
abbrev pub first_claim : List (FileId × Entry) → FileId → List ℕ → Option Claim
first_claim entries dir name = fold (take_claim dir name) None (values_of entries)

-- whether the first claim goes before this one
abbrev pub is_beaten : Option Claim → Claim → Bool
is_beaten None c = false
is_beaten (Some first) c = is_lt (claim_cmp first c)
