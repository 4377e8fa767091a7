-- Wishes and announced versions are fields.
use Rattle.std.proofs.Common.{◌≡◌, ℕ, List, ◌++◌, Option, None, refl, sym, ap}
use Rattle.pg_announced.specs.Announced.{key_at, key_cmp}
use Rattle.pg_announced.specs.declared.announced.Announced.{Announced}
use Rattle.pg_announced.specs.declared.announced.NoteKey.{NoteKey}
use Rattle.pg_base.specs.Id as id
use Rattle.pg_base.specs.declared.head.Head.{Head}
use Rattle.pg_base.specs.declared.id.FileId.{FileId}
use Rattle.pg_base.specs.declared.stamp.Stamp.{Stamp}
use Rattle.pg_codec.specs.Laws.{HasStampWidth, HasWidth, IsField}
use Rattle.pg_codec.specs.Reading.{followed_by}
use Rattle.pg_codec.specs.Spelling.{file_bytes, number_bytes, stamp_bytes}
use Rattle.pg_codec.proofs.Binding.{both_are}
use Rattle.pg_packet_write.specs.Fields.{counted, head_bytes, listed}
use Rattle.pg_packet_fields.specs.Names.{counted_at}
use Rattle.pg_packet_fields.proofs.Joining.{then_is, view_is}
use Rattle.pg_packet_fields.proofs.PlaceFields.{counted_field}
use Rattle.pg_packet_fields.proofs.Plain.{file_is, narrow_is, stamp_is, wide_is}
use Rattle.pg_state.specs.Spelling.{note_bytes, target_bytes, wish_bytes}
use Rattle.pg_store.specs.declared.wishes.Wish.{Wish}
use Rattle.pg_state_fields.specs.Intents.{IsTargetNumber}
use Rattle.pg_state_read.specs.Later.{AreHere, AreNotes, AreWishes, IsNote, IsNoteHead, IsWish, is_from, note_at, note_file_at, note_head_at, note_stamp_at, note_with, notes_at, source_at, to_noted, to_wished, wish_at, wishes_at}
use Rattle.pg_state_fields.specs.Orders.{Passes, is_behind}
use Rattle.pg_state_fields.proofs.ContentFields.{head_is}
use Rattle.pg_state_fields.proofs.FlagFields.{next_file_field}
use Rattle.pg_state_fields.proofs.IntentFields.{target_field}
use Rattle.pg_state_fields.proofs.Tested.{counted_list_is, tested_is}

abbrev wish_view : FileId × (ℕ × ℕ) → FileId × Wish
wish_view x = (x.0, record { birth = x.1.0; target = x.1.1 })

wish_field : (last : Option FileId) → IsField (IsWish last) wish_bytes (wish_at last)
unfolding wish_at wish_bytes
wish_field last = view_is (then_is (next_file_field last) (then_is wide_is target_field)) wish_view (IsWish last) wish_bytes
    (λ x fits. (record { file = fits.0; birth = fits.1.0; target = fits.1.1 }, refl))
    (λ w fits. ((w.0, (w.1.birth, w.1.target)), (fits.file, (fits.birth, fits.target)), refl))

pub wishes_field : IsField AreWishes (listed 4 wish_bytes) wishes_at
unfolding wishes_at
wishes_field = counted_list_is IsWish to_wished wish_bytes wish_at wish_field 4 None narrow_is

note_file_field : (last : Option NoteKey) → IsField (Passes id.Fits (is_from last)) file_bytes (note_file_at last)
unfolding note_file_at
note_file_field last = tested_is file_is (is_from last)

note_stamp_field : (last : Option NoteKey) (file : FileId)
    → IsField (Passes HasStampWidth (λ stamp. is_behind key_cmp last (key_at file stamp))) stamp_bytes (note_stamp_at last file)
unfolding note_stamp_at
note_stamp_field last file = tested_is stamp_is (λ stamp. is_behind key_cmp last (key_at file stamp))

note_head_field : (last : Option NoteKey) (file : FileId) → IsField (IsNoteHead last file) head_bytes (note_head_at last file)
unfolding note_head_at
note_head_field last file = head_is (note_stamp_field last file) narrow_is

here_field : IsField AreHere (counted 4) (counted_at 4)
here_field =
    let field = counted_field 4 narrow_is in
    record {
      takes = λ from x bytes e. let t = field.takes from x bytes e in (record { short = t.0.short; width = t.0.width }, t.1);
      again = λ x place rest fits. field.again x place rest (record { short = fits.short; width = fits.width });
    }

source_bytes : ℕ × (ℕ × List ℕ) → List ℕ
source_bytes x = target_bytes x.0 ++ (number_bytes 8 x.1.0 ++ counted 4 x.1.1)

abbrev IsSource : ℕ × (ℕ × List ℕ) → Type 0
IsSource x = IsTargetNumber x.0 × (HasWidth 8 x.1.0 × AreHere x.1.1)

source_field : IsField IsSource source_bytes source_at
unfolding source_at source_bytes
source_field = then_is target_field (then_is wide_is here_field)

abbrev note_view : FileId × (Head × (ℕ × (ℕ × List ℕ))) → NoteKey × Announced
note_view x = note_with x.0 x.1.0 x.1.1.0 x.1.1.1.0 x.1.1.1.1

note_back : (last : Option NoteKey) (n : NoteKey × Announced) → IsNote last n
    → note_with n.0.file n.1.head n.1.source n.1.tag n.1.bytes ≡ n
note_back last n fits = ap (λ (s : Stamp). (key_at n.0.file s, n.1)) (sym fits.stamp)

note_field : (last : Option NoteKey) → IsField (IsNote last) note_bytes (note_at last)
unfolding note_at note_bytes source_bytes
note_field last = view_is
    (both_are (Passes id.Fits (is_from last)) file_bytes (note_file_at last) (λ file (x : Head × (ℕ × (ℕ × List ℕ))). IsNoteHead last file x.0 × IsSource x.1) (λ file x. head_bytes x.0 ++ source_bytes x.1)
    (λ file. followed_by (note_head_at last file) (λ head. source_at)) (note_file_field last)
    (λ file _. then_is (note_head_field last file) source_field)) note_view (IsNote last) note_bytes
    (λ x fits. (record { file = fits.0; head = fits.1.0; stamp = refl; source = fits.1.1.0; tag = fits.1.1.1.0; bytes = fits.1.1.1.1 }, refl))
    (λ n fits. ((n.0.file, (n.1.head, (n.1.source, (n.1.tag, n.1.bytes)))), (fits.file, (fits.head, (fits.source, (fits.tag, fits.bytes)))), note_back last n fits))

pub notes_field : IsField AreNotes (listed 4 note_bytes) notes_at
unfolding notes_at
notes_field = counted_list_is IsNote to_noted note_bytes note_at note_field 4 None narrow_is
