-- Versions that a server heard of and does not cover.
use Rattle.std.specs.Prelude.{ℕ, Bool, false, ◌==◌, ◌&&◌, not, nat_le, if◌then◌else◌, List, [], ◌∷◌, ◌++◌, map, Option, None, Some}
use Rattle.std.specs.List.{filter, list_any}
use Rattle.std.specs.BTreeMap.{is_at, insert_entry}
use Rattle.std.specs.List.Sorted.{IsStrictlySortedBy}
use Rattle.std.specs.Map.{keys_of, lookup, remove_entry, set_value}
use Rattle.std.specs.Ordering.{ordering_then}
use Rattle.std.specs.declared.cmp.Ordering.{Ordering}
use Rattle.pg_base.specs.declared.head.Head.{Head}
use Rattle.pg_base.specs.declared.id.FileId.{FileId}
use Rattle.pg_base.specs.declared.stamp.Stamp.{Stamp}
use Rattle.pg_base.specs.Id.{file_cmp, is_same_file}
use Rattle.pg_base.specs.Stamp.{stamp_cmp}
use Rattle.pg_base.specs.Vector.{number_at}
use Rattle.pg_base.specs.Version.{VersionValue, actor_of}
use Rattle.pg_content.specs.Content.{is_covered}
use Rattle.pg_announced.specs.declared.announced.Announced.{Announced}
use Rattle.pg_announced.specs.declared.announced.NoteKey.{NoteKey}

-- notes go by file, and then by stamp
abbrev pub key_cmp : NoteKey → NoteKey → Ordering
key_cmp a b = ordering_then (file_cmp a.file b.file) (stamp_cmp a.stamp b.stamp)

abbrev pub NotesValue : Type 0
NotesValue = List (NoteKey × Announced)

abbrev pub AreSorted : NotesValue → Type 0
AreSorted notes = IsStrictlySortedBy key_cmp (keys_of notes)

abbrev pub key_at : FileId → Stamp → NoteKey
key_at file stamp = record { file = file; stamp = stamp }

-- ---- look-ups

-- what is noted of a version
abbrev pub note_at : NotesValue → NoteKey → Option Announced
note_at notes k = lookup (is_at (key_cmp k)) notes

-- this server is asked for it: 0 asks nobody
abbrev pub is_asked_of : ℕ → Option Announced → Bool
is_asked_of from None = false
is_asked_of from (Some n) = n.source == from

-- a version of the file whose vector covers the head, and for which somebody else than this server
-- is asked
abbrev pub covers_for_other : FileId → ℕ → Head → NoteKey → Announced → Bool
covers_for_other file from head k n =
    is_same_file k.file file && (not (n.source == 0) && (not (n.source == from)
    && nat_le head.number (number_at n.head.vector (actor_of head))))

abbrev pub is_awaited : NotesValue → FileId → ℕ → Head → Bool
is_awaited notes file from head = list_any (λ e. covers_for_other file from head e.0 e.1) notes

-- the least stamp of those of a file
abbrev pub first_of : NotesValue → FileId → Option Stamp
first_of [] file = None
first_of (e ∷ es) file = if is_same_file e.0.file file then Some e.0.stamp else first_of es file

-- ---- changes

-- this is what is noted from now on
abbrev pub put_note : NotesValue → NoteKey → Announced → NotesValue
put_note notes k n = insert_entry key_cmp notes k n

-- the note of a version ends
abbrev pub without_note : NotesValue → NoteKey → NotesValue
without_note notes k = remove_entry (is_at (key_cmp k)) notes

-- the first of what is heard of a version
abbrev pub new_note : Head → ℕ → ℕ → Announced
new_note head source tag = record { head = head; source = source; tag = tag; bytes = [] }

-- a further harbinger: its sender is asked from now on
abbrev pub aimed : ℕ → ℕ → Announced → Announced
aimed source tag n =
    record { head = n.head; source = source; tag = tag; bytes = n.bytes }

abbrev pub longer : List ℕ → Announced → Announced
longer more n =
    record { head = n.head; source = n.source; tag = n.tag; bytes = n.bytes ++ more }

abbrev pub emptied : Announced → Announced
emptied n = record { head = n.head; source = n.source; tag = n.tag; bytes = [] }

abbrev pub unasked : Announced → Announced
unasked n = record { head = n.head; source = 0; tag = n.tag; bytes = n.bytes }

-- what is noted of a version changes, where something is
abbrev pub changed : (Announced → Announced) → NotesValue → NoteKey → Option Announced → NotesValue
changed f notes k None = notes
changed f notes k (Some n) = set_value (is_at (key_cmp k)) notes (f n)

abbrev pub change_note : (Announced → Announced) → NotesValue → NoteKey → NotesValue
change_note f notes k = changed f notes k (note_at notes k)

-- who was asked for it has no body now
abbrev pub lose_note : NotesValue → NoteKey → ℕ → NotesValue
lose_note notes k from =
    if is_asked_of from (note_at notes k) then change_note unasked notes k else notes

-- a tick: of no version anybody is asked any more
abbrev pub released : NotesValue → NotesValue
released notes = map (λ e. (e.0, unasked e.1)) notes

-- the replica of the file covers what these heads cover: of that the notes end
abbrev pub is_over : FileId → List VersionValue → NoteKey × Announced → Bool
is_over file heads e =
    is_same_file e.0.file file && is_covered heads (actor_of e.1.head) e.1.head.number

abbrev pub without_covered : NotesValue → FileId → List VersionValue → NotesValue
without_covered notes file heads = filter (λ e. not (is_over file heads e)) notes

-- the replica of the file goes
abbrev pub without_file : NotesValue → FileId → NotesValue
without_file notes file = filter (λ e. not (is_same_file e.0.file file)) notes
