-- Heads with their bodies and kept deltas are fields.
use Rattle.std.proofs.Common.{ℕ, List, Option, None, refl, arith}
use Rattle.pg_base.specs.Version.{VersionValue}
use Rattle.pg_base.specs.declared.head.Head.{Head}
use Rattle.pg_base.specs.declared.stamp.Stamp.{Stamp}
use Rattle.pg_base.specs.declared.vector.Actor.{Actor}
use Rattle.pg_codec.specs.Laws.{HasStampWidth, HasWidth, IsField}
use Rattle.pg_codec.specs.Reading.{Field, bytes_at}
use Rattle.pg_codec.specs.Spelling.{number_bytes, stamp_bytes}
use Rattle.pg_codec.proofs.Binding.{both_are}
use Rattle.pg_codec.proofs.Numbers.{HasLength, bytes_field}
use Rattle.pg_delta.specs.declared.delta.KeptDelta.{KeptDelta}
use Rattle.pg_packet_write.specs.Fields.{head_bytes, listed, version_bytes}
use Rattle.pg_patch.specs.Ranges.{RangesValue}
use Rattle.pg_packet_fields.specs.Faults.{of_packet}
use Rattle.pg_packet_fields.specs.Lists.{is_later}
use Rattle.pg_packet_fields.specs.declared.error.PacketError.{PacketError}
use Rattle.pg_packet_fields.proofs.HeadFields.{vector_field}
use Rattle.pg_packet_fields.proofs.Joining.{packet_is, then_is, view_is}
use Rattle.pg_packet_fields.proofs.Many.{count_field, stamps_field}
use Rattle.pg_packet_fields.proofs.PatchFields.{ranges_field}
use Rattle.pg_packet_fields.proofs.Plain.{byte_is, narrow_is, short_is, stamp_is, wide_is}
use Rattle.pg_state.specs.Spelling.{kept_bytes}
use Rattle.pg_state_fields.specs.Contents.{AnyDelta, AreDeltas, AreHeads, IsDelta, IsFront, IsHeadWith, IsLength, IsWhole, any_delta, delta_at, deltas_at, front_at, head_with, heads_at, is_ordinal, length_at, ordinal_at, to_stamp, version_at}
use Rattle.pg_state_fields.specs.Orders.{Passes, next_stamp_at, unchanged}
use Rattle.pg_state_fields.proofs.Tested.{counted_list_is, tested_is}

next_stamp_field : (last : Option Stamp) → IsField (Passes HasStampWidth (is_later last)) stamp_bytes (next_stamp_at last)
unfolding next_stamp_at
next_stamp_field last = tested_is stamp_is (is_later last)

ordinal_field : IsField (Passes (HasWidth 8) is_ordinal) (number_bytes 8) ordinal_at
unfolding ordinal_at
ordinal_field = tested_is wide_is is_ordinal

length_field : IsField IsLength (number_bytes 4) length_at
unfolding length_at
length_field = count_field 4 1048576 (omega arith) narrow_is

abbrev head_view : Stamp × (ℕ × (ℕ × (List (Actor × ℕ) × ℕ))) → Head
head_view x = record {
  stamp = x.0;
  birth = x.1.0;
  number = x.1.1.0;
  vector = x.1.1.1.0;
  length = x.1.1.1.1;
}

pub head_is : {IsStamp : Stamp → Type 0} {IsLong : ℕ → Type 0} {stamp : Field PacketError Stamp} {long : Field PacketError ℕ}
    → IsField IsStamp stamp_bytes stamp → IsField IsLong (number_bytes 4) long
    → IsField (IsHeadWith IsStamp IsLong) head_bytes (head_with stamp long)
unfolding head_bytes
head_is {IsStamp = IsStamp} {IsLong = IsLong} s l = view_is (then_is s (then_is wide_is (then_is ordinal_field (then_is vector_field l)))) head_view (IsHeadWith IsStamp IsLong) head_bytes
    (λ x fits. (record { stamp = fits.0; birth = fits.1.0; number = fits.1.1.0; vector = fits.1.1.1.0; long = fits.1.1.1.1 }, refl))
    (λ h fits. ((h.stamp, (h.birth, (h.number, (h.vector, h.length)))), (fits.stamp, (fits.birth, (fits.number, (fits.vector, fits.long)))), refl))

front_field : (last : Option Stamp) → IsField (IsFront last) head_bytes (front_at last)
unfolding front_at
front_field last = head_is (next_stamp_field last) length_field

abbrev version_view : Head × List ℕ → VersionValue
version_view x = record { head = x.0; body = x.1 }

version_field : (last : Option Stamp) → IsField (IsWhole last) version_bytes (version_at last)
unfolding version_at version_bytes
version_field last = view_is
    (both_are (IsFront last) head_bytes (front_at last) (λ (h : Head). HasLength h.length) (λ h (body : List ℕ). body) (λ h. of_packet (bytes_at h.length)) (front_field last)
    (λ h _. packet_is (HasLength h.length) (λ body. body) (bytes_at h.length) (bytes_field h.length))) version_view (IsWhole last) version_bytes
    (λ x fits. (record { head = fits.0; long = fits.1.length; width = fits.1.width }, refl))
    (λ v fits. ((v.head, v.body), (fits.head, record { length = fits.long; width = fits.width }), refl))

pub heads_field : IsField AreHeads (listed 2 version_bytes) heads_at
unfolding heads_at
heads_field = counted_list_is IsWhole to_stamp version_bytes version_at version_field 2 None short_is

abbrev delta_view : List Stamp × (Stamp × RangesValue) → KeptDelta
delta_view x = record { from = x.0; to = x.1.0; ranges = x.1.1 }

delta_field : IsField IsDelta kept_bytes delta_at
unfolding delta_at kept_bytes
delta_field = view_is (then_is stamps_field (then_is stamp_is ranges_field)) delta_view IsDelta kept_bytes
    (λ x fits. (record { bases = fits.0; to = fits.1.0; ranges = fits.1.1 }, refl))
    (λ d fits. ((d.from, (d.to, d.ranges)), (fits.bases, (fits.to, fits.ranges)), refl))

pub deltas_field : IsField AreDeltas (listed 1 kept_bytes) deltas_at
unfolding deltas_at
deltas_field = counted_list_is AnyDelta unchanged kept_bytes any_delta (λ known. delta_field) 1 tt byte_is
