-- Heads with their bodies, and kept deltas.
use Rattle.std.specs.Prelude.{ℕ, ◌≡◌, ◌≤◌, Bool, List, length, Option, None, Some, nat_le}
use Rattle.pg_base.specs.Version.{VersionValue}
use Rattle.pg_base.specs.declared.head.Head.{Head}
use Rattle.pg_base.specs.declared.stamp.Stamp.{Stamp}
use Rattle.pg_codec.specs.Laws.{AreBytes, HasStampWidth, HasWidth}
use Rattle.pg_codec.specs.Reading.{Field, followed_by, seen_as, checked, bytes_at, number_at, stamp_at}
use Rattle.pg_delta.specs.declared.delta.KeptDelta.{KeptDelta}
use Rattle.pg_packet_fields.specs.Faults.{of_packet}
use Rattle.pg_packet_fields.specs.Heads.{AreKnown, vector_at}
use Rattle.pg_packet_fields.specs.Lists.{AreStamps, count_of, is_later, stamps_at}
use Rattle.pg_packet_fields.specs.Patches.{IsWholeRanges, ranges_at}
use Rattle.pg_packet_fields.specs.declared.error.PacketError.{PacketError}
use Rattle.pg_state_fields.specs.Orders.{AreCounted, Passes, counted_list_at, next_stamp_at, tested_of, unchanged}

-- ---- heads

abbrev pub is_ordinal : ℕ → Bool
is_ordinal n = nat_le 1 n

-- a number that is not 0
unfoldable pub ordinal_at : Field PacketError ℕ
ordinal_at from = checked (tested_of is_ordinal) (of_packet (number_at 8)) from

-- stamp, birth, number, vector, length of the body
abbrev pub head_with : Field PacketError Stamp → Field PacketError ℕ → Field PacketError Head
head_with stamp long from = seen_as (λ x. record {
  stamp = x.0;
  birth = x.1.0;
  number = x.1.1.0;
  vector = x.1.1.1.0;
  length = x.1.1.1.1;
})
    (followed_by stamp (λ s. followed_by (of_packet (number_at 8))
    (λ birth. followed_by ordinal_at (λ n. followed_by vector_at (λ vector. long))))) from

-- the length of a body
unfoldable pub length_at : Field PacketError ℕ
length_at from = checked (count_of 1048576) (of_packet (number_at 4)) from

-- the head in front of a body, with a stamp behind the last one
unfoldable pub front_at : Option Stamp → Field PacketError Head
front_at last from = head_with (next_stamp_at last) length_at from

-- the head, and as many bytes as it says
unfoldable pub version_at : Option Stamp → Field PacketError VersionValue
version_at last from = seen_as (λ x. record { head = x.0; body = x.1 })
    (followed_by (front_at last) (λ head. of_packet (bytes_at head.length))) from

abbrev pub to_stamp : Option Stamp → VersionValue → Option Stamp
to_stamp last v = Some v.head.stamp

-- a count of two bytes, and so many heads with their bodies, by stamp
unfoldable pub heads_at : Field PacketError (List VersionValue)
heads_at from = counted_list_at 2 version_at to_stamp None from

-- ---- kept deltas

-- from which heads, to which stamp, and the ranges
unfoldable pub delta_at : Field PacketError KeptDelta
delta_at from = seen_as (λ x. record { from = x.0; to = x.1.0; ranges = x.1.1 })
    (followed_by stamps_at (λ bases. followed_by (of_packet stamp_at) (λ to. ranges_at))) from

abbrev pub any_delta : Unit {0} → Field PacketError KeptDelta
any_delta state from = delta_at from

-- a count of one byte, and so many deltas
unfoldable pub deltas_at : Field PacketError (List KeptDelta)
deltas_at from = counted_list_at 1 any_delta unchanged tt from

-- ---- what can be read

-- a head with this for its stamp and for its length
pub record IsHeadWith (IsStamp : Stamp → Type 0) (IsLength : ℕ → Type 0) (h : Head) : Type 0 where
  pub stamp : IsStamp h.stamp
  pub birth : HasWidth 8 h.birth
  pub number : Passes (HasWidth 8) is_ordinal h.number
  pub vector : AreKnown h.vector
  pub long : IsLength h.length

abbrev pub IsLength : ℕ → Type 0
IsLength n = n ≤ 1048576

abbrev pub IsFront : Option Stamp → Head → Type 0
IsFront last h = IsHeadWith (Passes HasStampWidth (is_later last)) IsLength h

-- a version whose stamp is behind the last one
pub record IsWhole (last : Option Stamp) (v : VersionValue) : Type 0 where
  pub head : IsFront last v.head
  pub long : length v.body ≡ v.head.length
  pub width : AreBytes v.body

abbrev pub AreHeads : List VersionValue → Type 0
AreHeads heads = AreCounted 2 IsWhole to_stamp None heads

pub record IsDelta (d : KeptDelta) : Type 0 where
  pub bases : AreStamps d.from
  pub to : HasStampWidth d.to
  pub ranges : IsWholeRanges d.ranges

abbrev pub AnyDelta : Unit {0} → KeptDelta → Type 0
AnyDelta state d = IsDelta d

abbrev pub AreDeltas : List KeptDelta → Type 0
AreDeltas deltas = AreCounted 1 AnyDelta unchanged tt deltas
