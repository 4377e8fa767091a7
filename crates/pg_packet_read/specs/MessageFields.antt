-- The fields that only messages have.
use Rattle.std.specs.Prelude.{ℕ, ◌<◌, ◌≤◌, ◌^◌, ◌&&◌, Result, Ok, Err, nat_le, if◌then◌else◌}
use Rattle.pg_base.specs.declared.id.FileId.{FileId}
use Rattle.pg_base.specs.declared.stamp.Stamp.{Stamp}
use Rattle.pg_codec.specs.Laws.{HasStampWidth}
use Rattle.pg_codec.specs.Reading.{Field, followed_by, seen_as, checked, file_at, number_at, stamp_at}
use Rattle.pg_entries.specs.declared.entry.Entry.{Entry}
use Rattle.pg_msg.specs.declared.message.Delta.{Delta}
use Rattle.pg_msg.specs.declared.message.Ends.{Ends}
use Rattle.pg_msg.specs.declared.message.Granted.{Granted}
use Rattle.pg_msg.specs.declared.message.Piece.{Piece}
use Rattle.pg_msg.specs.declared.message.Wanted.{Wanted}
use Rattle.pg_packet_fields.specs.Faults.{of_packet}
use Rattle.pg_packet_fields.specs.Heads.{IsHead, head_at}
use Rattle.pg_packet_fields.specs.Lists.{AreStamps, stamps_at}
use Rattle.pg_packet_fields.specs.Patches.{IsBlock, IsWholeRanges, block_at, ranges_at}
use Rattle.pg_packet_fields.specs.Places.{AreGolds, IsWholePlace, entry_at, golds_at, place_at}
use Rattle.pg_packet_fields.specs.Reading.{dir_at, ends_at, policy_at}
use Rattle.pg_packet_fields.specs.declared.error.PacketError.{PacketError}
use Rattle.pg_packet_fields.specs.declared.error.PacketError.TheVariants.{BadTag}

-- stamp, offset, stamps of heads
unfoldable pub wanted_at : Field PacketError Wanted
wanted_at from = seen_as (λ x. record { stamp = x.0; offset = x.1.0; heads = x.1.1 })
    (followed_by (of_packet stamp_at)
    (λ stamp. followed_by (of_packet (number_at 4)) (λ offset. stamps_at))) from

-- head, the stamps it comes from, ranges
unfoldable pub delta_at : Field PacketError Delta
delta_at from = seen_as (λ x. record { head = x.0; from = x.1.0; ranges = x.1.1 })
    (followed_by head_at (λ head. followed_by stamps_at (λ stamps. ranges_at))) from

-- head, offset, bytes
unfoldable pub piece_at : Field PacketError Piece
piece_at from = seen_as (λ x. record { head = x.0; offset = x.1.0; bytes = x.1.1 })
    (followed_by head_at (λ head. followed_by (of_packet (number_at 4)) (λ offset. block_at))) from

-- policy, place, flags
unfoldable pub granted_at : Field PacketError Granted
granted_at from = seen_as (λ x. record { policy = x.0; place = x.1.0; flags = x.1.1 })
    (followed_by policy_at (λ policy. followed_by place_at (λ place. golds_at))) from

-- a file and a birth
unfoldable pub replica_at : Field PacketError (FileId × ℕ)
replica_at from = followed_by (of_packet file_at) (λ file. of_packet (number_at 8)) from

-- a directory and an entry of it
unfoldable pub listed_at : Field PacketError (FileId × Entry)
listed_at from = followed_by dir_at (λ dir. entry_at) from

-- an edge and a stamp
unfoldable pub about_at : Field PacketError (Ends × Stamp)
about_at from = followed_by ends_at (λ ends. of_packet stamp_at) from

-- 1 to 3 hops, else a fault at the place
abbrev pub hops_of : ℕ → ℕ → Result ℕ PacketError
hops_of place n = if nat_le 1 n && nat_le n 3 then Ok n else Err (BadTag place)

unfoldable pub hops_at : Field PacketError ℕ
hops_at from = checked hops_of (of_packet (number_at 1)) from

-- ---- what can be read

pub record IsWanted (w : Wanted) : Type 0 where
  pub stamp : HasStampWidth w.stamp
  pub offset : w.offset < 2 ^ 32
  pub heads : AreStamps w.heads

pub record IsDelta (d : Delta) : Type 0 where
  pub head : IsHead d.head
  pub from : AreStamps d.from
  pub ranges : IsWholeRanges d.ranges

pub record IsPiece (p : Piece) : Type 0 where
  pub head : IsHead p.head
  pub offset : p.offset < 2 ^ 32
  pub bytes : IsBlock p.bytes

pub record IsGranted (g : Granted) : Type 0 where
  pub place : IsWholePlace g.place
  pub flags : AreGolds g.flags

pub record IsHops (hops : ℕ) : Type 0 where
  pub least : 1 ≤ hops
  pub most : hops ≤ 3
