-- Parts of ranges, whose room has an end, and blocks of bytes.
use Rattle.std.proofs.Common.{◌≡◌, ℕ, ◌+◌, ◌≤◌, ◌⊎◌, inl, inr, Bool, true, false, cond, List, [], ◌++◌, Result, Ok, Err, refl, sym, ap, subst, arith}
use Rattle.std.specs.Prelude.{nat_le, nat_lt, ◌&&◌}
use Rattle.std.proofs.lemmas.Bool.{cases_lt, le-leb, le-ltb}
use Rattle.pg_codec.specs.Reading.{Field, followed_by, seen_as, checked, bytes_at, number_at}
use Rattle.pg_codec.specs.Laws.{AreBytes, HasWidth}
use Rattle.pg_codec.specs.Spelling.{number_bytes}
use Rattle.pg_patch.specs.declared.part.Part.{Part}
use Rattle.pg_packet_fields.specs.Faults.{of_packet}
use Rattle.pg_packet_fields.specs.Lists.{list_at}
use Rattle.pg_packet_fields.specs.Patches.{IsLong, IsOffset, IsPartIn, Room, block_at, long_of, offset_of, part_at, ranges_at, to_room, whole_room}
use Rattle.pg_packet_fields.specs.declared.error.PacketError.{PacketError}
use Rattle.pg_packet_fields.specs.declared.error.PacketError.TheVariants.{BadTag, TooLong}
use Rattle.pg_packet_fields.proofs.PatchFields.{part_field}
use Rattle.pg_packet_fields.proofs.Plain.{narrow_is}
use Rattle.pg_packet_write.specs.Fields.{part_bytes}
use Rattle.law_packets.specs.Lists.{LeavesNoRoom}
use Rattle.law_packets.proofs.Atoms.{bytes_sure, narrow_sure}
use Rattle.law_packets.proofs.Checks.{IsCheck, test_check}
use Rattle.law_packets.proofs.Items.{NoOther, item_told, plain, plain_told, seen_item}
use Rattle.law_packets.proofs.Lists.{Inner, OpenList, list_none, list_told}
use Rattle.law_packets.proofs.Opened.{SameBut, same}
use Rattle.law_packets.proofs.Plain.{checked_number, checked_some, count_sure}
use Rattle.law_packets.proofs.Tested.{offset_field}
use Rattle.law_packets.proofs.Sure.{IsRelation, IsSure, Reached, followed_sure, seen_sure, starts_first, starts_second, starts_seen, then_sure}
use Rattle.law_packets.proofs.Telling.{IsTold, Reads, Starts, bound_told, bytes_front, err_is, no_error, pair, reads_field, seen_told}

pub block_sure : {R : List ℕ → List ℕ → Type 0} → IsRelation R → IsSure R block_at
unfolding block_at
block_sure rel = seen_sure _ (followed_sure rel (count_sure rel 4 32768 (omega arith) (omega arith) narrow_is) (λ n. bytes_sure rel n))

-- ---- lengths of parts

abbrev long_by : Bool → Bool → ℕ → ℕ → Result ℕ PacketError
long_by over fits place n = cond over (Err (TooLong place)) (cond fits (Ok n) (Err (BadTag place)))

long_fault : (over fits : Bool) (place n : ℕ) (e : PacketError) → long_by over fits place n ≡ Err e → (e ≡ BadTag place) ⊎ (e ≡ TooLong place)
long_fault true fits place n e k = inr (sym (err_is ℕ (TooLong place) e k))
long_fault false true place n e k = absurd (no_error n e k)
long_fault false false place n e k = inl (sym (err_is ℕ (BadTag place) e k))

long_steady : (over fits : Bool) (p q n b : ℕ) → long_by over fits p n ≡ Ok b → long_by over fits q n ≡ Ok b
long_steady true fits p q n b k = absurd (no_error b (TooLong p) (sym k))
long_steady false true p q n b k = k
long_steady false false p q n b k = absurd (no_error b (BadTag p) (sym k))

long_check : (least left offset : ℕ) → IsCheck (long_of least left offset)
long_check least left offset = record {
  fault = λ place n e k. long_fault (nat_lt left n) (nat_le 1 n && nat_le (offset + n) least) place n e k;
  steady = λ p q n b k. long_steady (nat_lt left n) (nat_le 1 n && nat_le (offset + n) least) p q n b k;
}

abbrev long_at : ℕ → Room → ℕ → Field PacketError ℕ
long_at least room offset = checked (long_of least room.left offset) (of_packet (number_at 4))

abbrev part_rest : ℕ → Room → ℕ → Field PacketError (ℕ × List ℕ)
part_rest least room offset = followed_by (long_at least room offset) (λ count. of_packet (bytes_at count))

part_rest_told : (least : ℕ) (room : Room) (offset : ℕ) → IsTold (Inner (part_rest least room offset) NoOther) (part_rest least room offset)
part_rest_told least room offset = item_told (long_at least room offset) (λ count. of_packet (bytes_at count)) NoOther
    (checked_number 4 (long_of least room.left offset) (omega arith) (long_check least room.left offset))
    (λ count. plain_told (of_packet (bytes_at count)) (bytes_sure plain count)) (λ count text width reads. inl (bytes_sure plain count).some)

-- one byte has room
long_good : (least : ℕ) (room : Room) (offset : ℕ) → 1 ≤ room.left → offset + 1 ≤ least → Starts (part_rest least room offset) []
long_good least room offset left end =
    let over : nat_lt room.left 1 ≡ false = le-ltb room.left 1 left in
    let fits : nat_le (offset + 1) least ≡ true = le-leb (offset + 1) least end in
    let good : (place : ℕ) → long_of least room.left offset place 1 ≡ Ok 1 = λ place. rw (over, fits) refl in
    let one : Starts (long_at least room offset) [] = checked_some 4 (long_of least room.left offset) narrow_is 1 1 (omega arith) good in
    let rest : (n : ℕ) → Starts (seen_as (pair n) (of_packet (bytes_at n))) [] = λ n. starts_seen (pair n) (of_packet (bytes_at n)) [] (bytes_sure plain n).some in
    starts_first (long_at least room offset) (λ (n : ℕ). seen_as (pair n) (of_packet (bytes_at n))) [] rest one

abbrev NoRoom : ℕ → Room → ℕ → Type 0
NoRoom least room offset = (long : ℕ) → IsLong least room offset long → ⊥

room_or_none : (least : ℕ) (room : Room) (offset : ℕ) → Starts (part_rest least room offset) [] ⊎ NoRoom least room offset
room_or_none least room offset =
    elim (cases_lt 0 room.left) [
      | inl some ↦
          elim (cases_lt offset least) [
            | inl lt ↦ inl (long_good least room offset (omega (arith, some)) (omega (arith, lt)))
            | inr le ↦ inr (λ long is. let least_is = is.some in let end = is.end in omega (arith, le, least_is, end))
          ]
      | inr none ↦ inr (λ long is. let least_is = is.some in let left = is.left in omega (arith, none, least_is, left))
    ]

after_offset : (least : ℕ) (room : Room) (offset : ℕ) (text : List ℕ) → AreBytes text → Reads (checked (offset_of room.from) (of_packet (number_at 4))) text offset
    → Starts (part_rest least room offset) [] ⊎ NoRoom least room offset → Starts (part_rest least room offset) [] ⊎ LeavesNoRoom least room text
after_offset least room offset text width reads (inl some) = inl some
after_offset least room offset text width reads (inr none) =
    let r = reads_field (IsOffset room) (number_bytes 4) (checked (offset_of room.from) (of_packet (number_at 4))) (offset_field room) text offset width reads in
    inr (record { offset = offset; from = r.0; spelled = r.1; none = none })

part_told : (least : ℕ) (room : Room) → IsTold (Inner (part_at least room) (LeavesNoRoom least room)) (part_at least room)
unfolding part_at
part_told least room = seen_item _ (item_told (checked (offset_of room.from) (of_packet (number_at 4))) (part_rest least room) (LeavesNoRoom least room)
    (checked_number 4 (offset_of room.from) (omega arith) (test_check (λ n. nat_le room.from n)))
    (part_rest_told least room) (λ offset text width reads. after_offset least room offset text width reads (room_or_none least room offset)))

-- ---- parts behind `least`

abbrev parts_at : ℕ → Field PacketError (List Part)
parts_at least = list_at 4 200 (part_at least) to_room whole_room

parts_none : (least : ℕ) → Starts (parts_at least) []
parts_none least = list_none (part_at least) (IsPartIn least) to_room part_bytes (part_field least) 4 200 whole_room (omega arith) narrow_is

abbrev OpenParts : ℕ → List ℕ → Type 0
OpenParts least b = OpenList (part_at least) (IsPartIn least) to_room part_bytes (LeavesNoRoom least) 4 200 whole_room b

parts_told : (least : ℕ) → IsTold (OpenParts least) (parts_at least)
parts_told least = list_told (part_at least) (IsPartIn least) to_room part_bytes (LeavesNoRoom least) (part_field least) (part_told least) 4 200 whole_room (omega arith) (omega arith) narrow_is

abbrev least_parts : Field PacketError (ℕ × List Part)
least_parts = followed_by (of_packet (number_at 4)) parts_at

behind_least : (least : ℕ) (text b : List ℕ) → AreBytes (text ++ b) → Reads (of_packet (number_at 4)) text least → OpenParts least b → Reached SameBut least_parts (text ++ b)
behind_least least text b width reads (inl none) = record {
  whole = text ++ b;
  same = same.here (text ++ b);
  starts = starts_second (of_packet (number_at 4)) (λ (n : ℕ). seen_as (pair n) (parts_at n)) least text b (bytes_front text b width) reads
      (starts_seen (pair least) (parts_at least) b (subst (λ (t : List ℕ). Starts (parts_at least) t) (sym none) (parts_none least)));
}
behind_least least text b width reads (inr o) =
    let r = reads_field (HasWidth 4) (number_bytes 4) (of_packet (number_at 4)) narrow_is text least (bytes_front text b width) reads in
    record {
      whole = text ++ o.0;
      same = (
        [],
        text ++ o.0,
        text ++ b,
        refl,
        refl,
        inr (inr (inr (inr (record {
          least = least;
          parts = o.0;
          begun_parts = b;
          is_open = o.1;
          whole_is = ap (λ (t : List ℕ). t ++ o.0) r.1;
          open_is = ap (λ (t : List ℕ). t ++ b) r.1;
        })))),
      );
      starts = starts_second (of_packet (number_at 4)) (λ (n : ℕ). seen_as (pair n) (parts_at n)) least text o.0 (bytes_front text b width) reads
          (starts_seen (pair least) (parts_at least) o.0 o.2);
    }

least_sure : IsSure SameBut least_parts
least_sure =
    let rest : (n : ℕ) → Starts (seen_as (pair n) (parts_at n)) [] = λ n. starts_seen (pair n) (parts_at n) [] (parts_none n) in
    record {
      told = bound_told (Reached SameBut (of_packet (number_at 4))) (Reached SameBut least_parts) OpenParts (of_packet (number_at 4)) (λ (n : ℕ). seen_as (pair n) (parts_at n)) (narrow_sure same).told
          (λ n. seen_told (OpenParts n) (pair n) (parts_at n) (parts_told n))
          (λ b width p. record { whole = p.whole; same = p.same; starts = starts_first (of_packet (number_at 4)) (λ (n : ℕ). seen_as (pair n) (parts_at n)) p.whole rest p.starts })
          behind_least;
      some = starts_first (of_packet (number_at 4)) (λ (n : ℕ). seen_as (pair n) (parts_at n)) [] rest (narrow_sure same).some;
    }

pub ranges_sure : IsSure SameBut ranges_at
unfolding ranges_at
ranges_sure = seen_sure _ (then_sure same (narrow_sure same) least_sure)
