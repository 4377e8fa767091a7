-- What a meter adds up.
use Rattle.std.specs.Prelude.{ℕ, ◌+◌, ◌-◌, ◌^◌, ◌==◌, List, Option, None, Some, if◌then◌else◌, length, map, min, set, slice_get, sum, unwrap_or}
use Rattle.pg_entries.specs.declared.cell.Cell.{Cell}
use Rattle.pg_entries.specs.declared.cell.Cell.TheVariants as cell
use Rattle.pg_event.specs.declared.entry.Entry.{Entry}
use Rattle.pg_event.specs.declared.meter.MeterKind.{MeterKind}
use Rattle.pg_event.specs.declared.meter.MeterKind.TheVariants.{Packets, Bodies, Repeats}
use Rattle.pg_meter.specs.declared.meter.Reading.{Reading}
use Rattle.pg_meter.specs.declared.note.Note.{Note}
use Rattle.pg_msg.specs.declared.message.Message.{Message}
use Rattle.pg_msg.specs.declared.message.Message.TheVariants as message
use Rattle.pg_msg.specs.declared.message.Sent.{Sent}
use Rattle.pg_patch.specs.Parts.{bytes_of_parts}

-- what a note has of the thing that a meter of this kind counts
abbrev pub field_of : MeterKind → Note → ℕ
field_of Packets note = note.packets
field_of Bodies note = note.body_bytes
field_of Repeats note = note.repeats

-- a sum that stops at the greatest u64
abbrev pub added : ℕ → ℕ → ℕ
added total more = min (total + more) (2 ^ 64 - 1)

-- ---- the note of an entry

abbrev pub cell_bytes : Cell → ℕ
cell_bytes (cell.Version v) = length v.body
cell_bytes (cell.Place place) = 0
cell_bytes (cell.Flag flag) = 0
cell_bytes (cell.Entry entry sure) = 0

-- how many bytes of a body a message has: of a version that of the body, of a delta those of its
-- parts, and those of a piece
abbrev pub body_bytes : Message → ℕ
body_bytes (message.Cell ends tag c) = cell_bytes c
body_bytes (message.Delta ends delta) = bytes_of_parts delta.ranges.parts
body_bytes (message.Piece ends piece) = length piece.bytes
body_bytes _ = 0

-- those of these messages, where they are more the greatest u64
abbrev pub all_body_bytes : List Sent → ℕ
all_body_bytes sent = min (sum (map (λ m. body_bytes m.packet.message) sent)) (2 ^ 64 - 1)

-- the note of an entry, where so many bodies came that were known
abbrev pub note_of : Entry → ℕ → Note
note_of entry repeats = record {
  packets = length entry.sent;
  body_bytes = all_body_bytes entry.sent;
  repeats = repeats;
}

-- ---- meters that are handed in, in their order: of each what it counts and what it has counted,
-- and none from when it was taken off

abbrev pub reading : MeterKind → ℕ → Reading
reading kind value = record { kind = kind; value = value }

abbrev pub Readings : Type 0
Readings = List (Option Reading)

-- a meter has seen a note: it has counted the note's field more
abbrev pub seen_by : Note → Reading → Reading
seen_by note r = reading r.kind (added r.value (field_of r.kind note))

abbrev pub seen_if_in : Note → Option Reading → Option Reading
seen_if_in note None = None
seen_if_in note (Some r) = Some (seen_by note r)

-- each that is still in has seen it
abbrev pub seen_by_all : Note → Readings → Readings
seen_by_all note readings = map (seen_if_in note) readings

-- what stands in the slot with this number, counted from 1, if there is one
abbrev pub slot_at : {A : Type 0} → List (Option A) → ℕ → Option A
slot_at slots number = if number == 0 then None else unwrap_or (slice_get slots (number - 1)) None

-- without it
abbrev pub without : {A : Type 0} → List (Option A) → ℕ → List (Option A)
without slots number = if number == 0 then slots else set slots (number - 1) None

-- that of the meter with this number, if there is one and it is still in
abbrev pub reading_at : Readings → ℕ → Option Reading
reading_at readings number = slot_at readings number

-- without it
abbrev pub taken_off : Readings → ℕ → Readings
taken_off readings number = without readings number
