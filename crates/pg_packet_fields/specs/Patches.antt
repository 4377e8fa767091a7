-- Ranges and bytes.
use Rattle.std.specs.Prelude.{ℕ, ◌<◌, ◌≤◌, ◌+◌, ◌-◌, ◌^◌, ◌&&◌, List, length, Result, Ok, Err, nat_le, nat_lt, if◌then◌else◌}
use Rattle.pg_codec.specs.Laws.{AreBytes}
use Rattle.pg_codec.specs.Reading.{Field, followed_by, seen_as, checked, bytes_at, number_at}
use Rattle.pg_patch.specs.Parts.{end_of}
use Rattle.pg_patch.specs.Ranges.{RangesValue}
use Rattle.pg_patch.specs.declared.part.Part.{Part}
use Rattle.pg_packet_fields.specs.Faults.{of_packet}
use Rattle.pg_packet_fields.specs.Lists.{AreListed, count_of, list_at}
use Rattle.pg_packet_fields.specs.declared.error.PacketError.{PacketError}
use Rattle.pg_packet_fields.specs.declared.error.PacketError.TheVariants.{BadTag, TooLong}

-- where the next part may begin, and how many bytes it may have
pub record Room : Type 0 where
  pub from : ℕ
  pub left : ℕ

-- 30,000 bytes anywhere
abbrev pub whole_room : Room
whole_room = record { from = 0; left = 30000 }

-- behind a part, and not touching it
abbrev pub to_room : Room → Part → Room
to_room room part = record { from = end_of part + 1; left = room.left - length part.bytes }

abbrev pub offset_of : ℕ → ℕ → ℕ → Result ℕ PacketError
offset_of first place n = if nat_le first n then Ok n else Err (BadTag place)

-- not more bytes than are left, at least one, and none behind `least`
abbrev pub long_of : ℕ → ℕ → ℕ → ℕ → ℕ → Result ℕ PacketError
long_of least left offset place n = if nat_lt left n then Err (TooLong place)
    else (if nat_le 1 n && nat_le (offset + n) least then Ok n else Err (BadTag place))

-- offset, length and bytes
unfoldable pub part_at : ℕ → Room → Field PacketError Part
part_at least room from = seen_as (λ x. record { offset = x.0; bytes = x.1.1 })
    (followed_by (checked (offset_of room.from) (of_packet (number_at 4)))
    (λ offset. followed_by (checked (long_of least room.left offset) (of_packet (number_at 4)))
    (λ count. of_packet (bytes_at count)))) from

-- keep, least, a count in four bytes, at most 200, and so many parts in their order
unfoldable pub ranges_at : Field PacketError RangesValue
ranges_at from = seen_as (λ x. record { keep = x.0; least = x.1.0; parts = x.1.1 })
    (followed_by (of_packet (number_at 4)) (λ keep. followed_by (of_packet (number_at 4))
    (λ least. list_at 4 200 (part_at least) to_room whole_room))) from

-- at most 32,768 bytes behind their number in four bytes
unfoldable pub block_at : Field PacketError (List ℕ)
block_at from = seen_as (λ x. x.1)
    (followed_by (checked (count_of 32768) (of_packet (number_at 4)))
    (λ count. of_packet (bytes_at count))) from

-- ---- what can be read

pub record IsOffset (room : Room) (offset : ℕ) : Type 0 where
  pub from : room.from ≤ offset
  pub width : offset < 2 ^ 32

pub record IsLong (least : ℕ) (room : Room) (offset long : ℕ) : Type 0 where
  pub left : long ≤ room.left
  pub some : 1 ≤ long
  pub end : offset + long ≤ least
  pub width : long < 2 ^ 32

pub record IsPartIn (least : ℕ) (room : Room) (part : Part) : Type 0 where
  pub offset : IsOffset room part.offset
  pub long : IsLong least room part.offset (length part.bytes)
  pub width : AreBytes part.bytes

pub record IsWholeRanges (r : RangesValue) : Type 0 where
  pub keep : r.keep < 2 ^ 32
  pub least : r.least < 2 ^ 32
  pub parts : AreListed 200 (IsPartIn r.least) to_room whole_room r.parts

pub record IsBlock (bytes : List ℕ) : Type 0 where
  pub most : length bytes ≤ 32768
  pub width : AreBytes bytes
