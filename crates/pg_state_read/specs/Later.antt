-- Wishes, and versions that were announced.
use Rattle.std.specs.Prelude.{ℕ, ◌≡◌, Bool, true, List, length, Option, None, Some}
use Rattle.std.specs.Ordering.{is_le}
use Rattle.pg_announced.specs.Announced.{NotesValue, key_at, key_cmp}
use Rattle.pg_announced.specs.declared.announced.Announced.{Announced}
use Rattle.pg_announced.specs.declared.announced.NoteKey.{NoteKey}
use Rattle.pg_base.specs.Id as id
use Rattle.pg_base.specs.Id.{file_cmp}
use Rattle.pg_base.specs.declared.head.Head.{Head}
use Rattle.pg_base.specs.declared.id.FileId.{FileId}
use Rattle.pg_base.specs.declared.stamp.Stamp.{Stamp}
use Rattle.pg_codec.specs.Laws.{AreBytes, HasStampWidth, HasWidth}
use Rattle.pg_codec.specs.Reading.{Field, followed_by, seen_as, checked, number_at, file_at, stamp_at}
use Rattle.pg_packet_fields.specs.Faults.{of_packet}
use Rattle.pg_packet_fields.specs.Names.{counted_at}
use Rattle.pg_packet_fields.specs.declared.error.PacketError.{PacketError}
use Rattle.pg_store.specs.Wishes.{WishesValue}
use Rattle.pg_store.specs.declared.wishes.Wish.{Wish}
use Rattle.pg_state_fields.specs.Contents.{IsHeadWith, head_with}
use Rattle.pg_state_fields.specs.Orders.{AreCounted, Passes, counted_list_at, is_behind, is_target, next_file_at, target_at, tested_of}

-- ---- wishes

-- of a thing behind the last one: its birth and its target
unfoldable pub wish_at : Option FileId → Field PacketError (FileId × Wish)
wish_at last from = seen_as (λ x. (x.0, record { birth = x.1.0; target = x.1.1 }))
    (followed_by (next_file_at last)
    (λ file. followed_by (of_packet (number_at 8)) (λ birth. target_at))) from

abbrev pub to_wished : Option FileId → FileId × Wish → Option FileId
to_wished last w = Some w.0

unfoldable pub wishes_at : Field PacketError WishesValue
wishes_at from = counted_list_at 4 wish_at to_wished None from

-- ---- announced versions

-- it is not before the file of the last one
abbrev pub is_from : Option NoteKey → FileId → Bool
is_from None file = true
is_from (Some last) file = is_le (file_cmp last.file file)

unfoldable pub note_file_at : Option NoteKey → Field PacketError FileId
note_file_at last from = checked (tested_of (is_from last)) (of_packet file_at) from

-- a stamp with which the version of the file is behind the last one
unfoldable pub note_stamp_at : Option NoteKey → FileId → Field PacketError Stamp
note_stamp_at last file from =
    checked (tested_of (λ stamp. is_behind key_cmp last (key_at file stamp))) (of_packet stamp_at)
    from

unfoldable pub note_head_at : Option NoteKey → FileId → Field PacketError Head
note_head_at last file from = head_with (note_stamp_at last file) (of_packet (number_at 4)) from

-- who is asked, the tag, and the bytes that are here
unfoldable pub source_at : Field PacketError (ℕ × (ℕ × List ℕ))
source_at from =
    followed_by target_at (λ source. followed_by (of_packet (number_at 8)) (λ tag. counted_at 4))
    from

abbrev pub note_with : FileId → Head → ℕ → ℕ → List ℕ → NoteKey × Announced
note_with file head source tag bytes = (
  key_at file head.stamp,
  record {
    head = head;
    source = source;
    tag = tag;
    bytes = bytes;
  },
)

-- of a version behind the last one
unfoldable pub note_at : Option NoteKey → Field PacketError (NoteKey × Announced)
note_at last from = seen_as (λ x. note_with x.0 x.1.0 x.1.1.0 x.1.1.1.0 x.1.1.1.1)
    (followed_by (note_file_at last)
    (λ file. followed_by (note_head_at last file) (λ head. source_at))) from

abbrev pub to_noted : Option NoteKey → NoteKey × Announced → Option NoteKey
to_noted last n = Some n.0

unfoldable pub notes_at : Field PacketError NotesValue
notes_at from = counted_list_at 4 note_at to_noted None from

-- ---- what can be read

pub record IsWish (last : Option FileId) (w : FileId × Wish) : Type 0 where
  pub file : Passes id.Fits (is_behind file_cmp last) w.0
  pub birth : HasWidth 8 w.1.birth
  pub target : Passes (HasWidth 4) is_target w.1.target

abbrev pub AreWishes : WishesValue → Type 0
AreWishes wishes = AreCounted 4 IsWish to_wished None wishes

abbrev pub IsNoteHead : Option NoteKey → FileId → Head → Type 0
IsNoteHead last file h = IsHeadWith
    (Passes HasStampWidth (λ stamp. is_behind key_cmp last (key_at file stamp))) (HasWidth 4) h

-- bytes whose number takes four bytes
pub record AreHere (bytes : List ℕ) : Type 0 where
  pub short : HasWidth 4 (length bytes)
  pub width : AreBytes bytes

-- of a version behind the last one, at the stamp of its head
pub record IsNote (last : Option NoteKey) (n : NoteKey × Announced) : Type 0 where
  pub file : Passes id.Fits (is_from last) n.0.file
  pub head : IsNoteHead last n.0.file n.1.head
  pub stamp : n.0.stamp ≡ n.1.head.stamp
  pub source : Passes (HasWidth 4) is_target n.1.source
  pub tag : HasWidth 8 n.1.tag
  pub bytes : AreHere n.1.bytes

abbrev pub AreNotes : NotesValue → Type 0
AreNotes notes = AreCounted 4 IsNote to_noted None notes
