-- The fields that only messages have are fields.
use Rattle.std.proofs.Common.{◌≡◌, ℕ, Bool, true, false, cond, List, ◌++◌, Ok, Err, refl, subst, arith}
use Rattle.std.specs.Prelude.{nat_le, ◌&&◌}
use Rattle.std.proofs.lemmas.Bool.{leb-true, le-leb, and_parts}
use Rattle.pg_base.specs.Id.{Fits}
use Rattle.pg_base.specs.declared.head.Head.{Head}
use Rattle.pg_base.specs.declared.id.FileId.{FileId}
use Rattle.pg_base.specs.declared.policy.Policy.{Policy}
use Rattle.pg_base.specs.declared.stamp.Stamp.{Stamp}
use Rattle.pg_codec.specs.Laws.{HasStampWidth, HasWidth, IsField}
use Rattle.pg_codec.specs.Reading.{number_at}
use Rattle.pg_codec.specs.Spelling.{number_bytes, stamp_bytes}
use Rattle.pg_codec.proofs.Binding.{checked_is, ok_is}
use Rattle.pg_entries.specs.declared.entry.Entry.{Entry}
use Rattle.pg_msg.specs.declared.message.Delta.{Delta}
use Rattle.pg_msg.specs.declared.message.Ends.{Ends}
use Rattle.pg_msg.specs.declared.message.Granted.{Granted}
use Rattle.pg_msg.specs.declared.message.Piece.{Piece}
use Rattle.pg_msg.specs.declared.message.Wanted.{Wanted}
use Rattle.pg_packet_write.specs.Fields.{ends_bytes}
use Rattle.pg_packet_write.specs.Messages.{delta_bytes, granted_bytes, piece_bytes, replica_bytes, told_bytes, wanted_bytes}
use Rattle.pg_patch.specs.Ranges.{RangesValue}
use Rattle.pg_register.specs.declared.flag.Flag.{Flag}
use Rattle.pg_register.specs.declared.place.Place.{Place}
use Rattle.pg_packet_fields.specs.Faults.{of_packet}
use Rattle.pg_packet_fields.specs.Places.{IsWholeEntry}
use Rattle.pg_packet_fields.specs.Values.{AreEnds}
use Rattle.pg_packet_fields.specs.declared.error.PacketError.{PacketError}
use Rattle.pg_packet_fields.specs.declared.error.PacketError.TheVariants.{BadTag}
use Rattle.pg_packet_fields.proofs.HeadFields.{head_field}
use Rattle.pg_packet_fields.proofs.Joining.{then_is, view_is}
use Rattle.pg_packet_fields.proofs.Many.{stamps_field}
use Rattle.pg_packet_fields.proofs.PatchFields.{block_field, ranges_field}
use Rattle.pg_packet_fields.proofs.PlaceFields.{entry_field, golds_field, place_field}
use Rattle.pg_packet_fields.proofs.Plain.{byte_is, dir_field, ends_field, file_is, narrow_is, policy_field, stamp_is, wide_is}
use Rattle.pg_packet_read.specs.MessageFields.{IsDelta, IsGranted, IsHops, IsPiece, IsWanted, about_at, delta_at, granted_at, hops_at, hops_of, piece_at, replica_at, listed_at, wanted_at}
use Rattle.pg_words.specs.FileWord.{IsDirectory}

abbrev wanted_view : Stamp × (ℕ × List Stamp) → Wanted
wanted_view x = record { stamp = x.0; offset = x.1.0; heads = x.1.1 }

pub wanted_field : IsField IsWanted wanted_bytes wanted_at
unfolding wanted_at wanted_bytes
wanted_field = view_is (then_is stamp_is (then_is narrow_is stamps_field)) wanted_view IsWanted wanted_bytes
    (λ x fits. (record { stamp = fits.0; offset = fits.1.0; heads = fits.1.1 }, refl))
    (λ w fits. ((w.stamp, (w.offset, w.heads)), (fits.stamp, (fits.offset, fits.heads)), refl))

abbrev delta_view : Head × (List Stamp × RangesValue) → Delta
delta_view x = record { head = x.0; from = x.1.0; ranges = x.1.1 }

pub delta_field : IsField IsDelta delta_bytes delta_at
unfolding delta_at delta_bytes
delta_field = view_is (then_is head_field (then_is stamps_field ranges_field)) delta_view IsDelta delta_bytes
    (λ x fits. (record { head = fits.0; from = fits.1.0; ranges = fits.1.1 }, refl))
    (λ d fits. ((d.head, (d.from, d.ranges)), (fits.head, (fits.from, fits.ranges)), refl))

abbrev piece_view : Head × (ℕ × List ℕ) → Piece
piece_view x = record { head = x.0; offset = x.1.0; bytes = x.1.1 }

pub piece_field : IsField IsPiece piece_bytes piece_at
unfolding piece_at piece_bytes
piece_field = view_is (then_is head_field (then_is narrow_is block_field)) piece_view IsPiece piece_bytes
    (λ x fits. (record { head = fits.0; offset = fits.1.0; bytes = fits.1.1 }, refl))
    (λ p fits. ((p.head, (p.offset, p.bytes)), (fits.head, (fits.offset, fits.bytes)), refl))

abbrev granted_view : Policy × (Place × List Flag) → Granted
granted_view x = record { policy = x.0; place = x.1.0; flags = x.1.1 }

pub granted_field : IsField IsGranted granted_bytes granted_at
unfolding granted_at granted_bytes
granted_field = view_is (then_is policy_field (then_is place_field golds_field)) granted_view IsGranted granted_bytes
    (λ x fits. (record { place = fits.1.0; flags = fits.1.1 }, refl))
    (λ g fits. ((g.policy, (g.place, g.flags)), (tt, (fits.place, fits.flags)), refl))

pub replica_field : IsField (λ (x : FileId × ℕ). Fits x.0 × HasWidth 8 x.1) (λ (x : FileId × ℕ). replica_bytes x.0 x.1) replica_at
unfolding replica_at replica_bytes
replica_field = then_is file_is wide_is

pub listed_field : IsField (λ (x : FileId × Entry). IsDirectory x.0 × IsWholeEntry x.1) (λ (x : FileId × Entry). told_bytes x.0 x.1) listed_at
unfolding listed_at told_bytes
listed_field = then_is dir_field entry_field

pub about_field : IsField (λ (x : Ends × Stamp). AreEnds x.0 × HasStampWidth x.1) (λ (x : Ends × Stamp). ends_bytes x.0 ++ stamp_bytes x.1) about_at
unfolding about_at
about_field = then_is ends_field stamp_is

hops_case : (t : Bool) (place n h : ℕ) → (nat_le 1 n && nat_le n 3) ≡ t → cond t (Ok n) (Err (BadTag place)) ≡ Ok h
    → IsHops h × (number_bytes 1 h ≡ number_bytes 1 n)
hops_case true place n h test e =
    let both = and_parts (nat_le 1 n) (nat_le n 3) test in
    subst (λ (x : ℕ). IsHops x × (number_bytes 1 x ≡ number_bytes 1 n)) (ok_is PacketError n h e) (record { least = leb-true 1 n both.0; most = leb-true n 3 both.1 }, refl)
hops_case false place n h test e = absurd cc

hops_tested : (place h : ℕ) → IsHops h → hops_of place h ≡ Ok h
hops_tested place h fits =
    let low : nat_le 1 h ≡ true = le-leb 1 h fits.least in
    let high : nat_le h 3 ≡ true = le-leb h 3 fits.most in
    rw (low, high) refl

pub hops_field : IsField IsHops (number_bytes 1) hops_at
unfolding hops_at
hops_field = checked_is hops_of (HasWidth 1) (number_bytes 1) (of_packet (number_at 1)) IsHops (number_bytes 1)
    (λ place n h fits e. hops_case (nat_le 1 n && nat_le n 3) place n h refl e)
    (λ h fits. let most = fits.most in (h, omega (arith, most), λ place. hops_tested place h fits)) byte_is
