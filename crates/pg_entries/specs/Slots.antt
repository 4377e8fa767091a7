-- The slots of names, and the index that lists at each slot the live children with a name of it.
use Rattle.std.specs.Prelude.{ℕ, Bool, ◌≡◌, ◌+◌, ◌*◌, ◌%◌, ◌^◌, ◌&&◌, true, false, not, if◌then◌else◌, List, Option, None, Some}
use Rattle.std.specs.List.{fold}
use Rattle.pg_base.specs.declared.id.FileId.{FileId}
use Rattle.std.specs.Ordering.{is_lt}
use Rattle.pg_base.specs.Id.{Fits, file_cmp, is_same_file}
use Rattle.pg_index.specs.Ids.{ListsValue, has}
use Rattle.pg_register.specs.declared.place.Place.{Place}
use Rattle.pg_entries.specs.declared.entry.Entry.{Entry}
use Rattle.pg_entries.specs.declared.claim.Claim.{Claim}
use Rattle.pg_entries.specs.Entry.{entry_of}
use Rattle.pg_entries.specs.Shown.{shows, take_claim}

-- what a further byte makes of a digest
abbrev pub digest_on : ℕ → ℕ → ℕ
digest_on digest byte = ((digest * 31) % 2 ^ 32 + byte) % 2 ^ 32

-- a number below 2 ^ 32 that is made of a first one and all bytes of a name
abbrev pub digest_of : ℕ → List ℕ → ℕ
digest_of first name = fold digest_on first name

-- the slot of a name in a directory: the directory's id, with the name's bytes put into it
abbrev pub slot_of : FileId → List ℕ → FileId
slot_of dir name = record {
  kind = dir.kind;
  server = digest_of dir.server name;
  number = dir.number;
}

-- the slot of a child that has this place: a dead child has none
abbrev pub slot_in : Place → Option FileId
slot_in place = if place.live then Some (slot_of place.parent place.name) else None

abbrev pub slot_at : Option Entry → Option FileId
slot_at None = None
slot_at (Some e) = slot_in e.place

-- each child whose place is live is listed at the slot of its name where it stands
abbrev pub AreNamed : List (FileId × Entry) → ListsValue → Type 0
AreNamed entries named = (child : FileId) (e : Entry) →
    entry_of entries child ≡ Some e → e.place.live ≡ true
    → has named (slot_of e.place.parent e.place.name) child ≡ true

-- each child's id has numbers that an id can have
abbrev pub AreFit : List (FileId × Entry) → Type 0
AreFit entries = (child : FileId) (e : Entry) → entry_of entries child ≡ Some e → Fits child

-- there is a slot, and it is this one
abbrev pub is_slot : Option FileId → FileId → Bool
is_slot None k = false
is_slot (Some slot) k = is_same_file slot k

-- a slot that a child had and that is not its next one
abbrev pub is_left : Option FileId → Option FileId → FileId → Bool
is_left None next k = false
is_left (Some held) next k = is_same_file held k && not (is_slot next held)

-- ---- how a name is looked up

-- the claim that goes first, of one so far and that of a child, if its entry is known
abbrev pub take_found : FileId → List ℕ → Option Claim → Option Entry → Option Claim
take_found dir name first None = first
take_found dir name first (Some e) = take_claim dir name first e

abbrev pub take_listed : List (FileId × Entry) → FileId → List ℕ → Option Claim → FileId
    → Option Claim
take_listed entries dir name first child = take_found dir name first (entry_of entries child)

-- a child, if its entry is known and it shows the name
abbrev pub shown_found : List (FileId × Entry) → FileId → List ℕ → FileId → Option Entry
    → Option FileId
shown_found entries dir shown child None = None
shown_found entries dir shown child (Some e) =
    if shows entries dir shown e then Some child else None

abbrev pub shown_by : List (FileId × Entry) → FileId → List ℕ → Option FileId → Option FileId
shown_by entries dir shown None = None
shown_by entries dir shown (Some child) =
    shown_found entries dir shown child (entry_of entries child)

-- the lesser of two ids that may be there
abbrev pub lesser_of : Option FileId → Option FileId → Option FileId
lesser_of None other = other
lesser_of (Some a) None = Some a
lesser_of (Some a) (Some b) = if is_lt (file_cmp b a) then Some b else Some a
