-- Ranges and bytes are fields.
use Rattle.std.proofs.Common.{◌≡◌, ℕ, ◌≤◌, ◌+◌, Bool, true, false, cond, List, ◌++◌, length, Ok, Err, refl, sym, ap, subst, arith}
use Rattle.std.specs.Prelude.{nat_le, nat_lt, ◌&&◌}
use Rattle.std.proofs.lemmas.Bool.{leb-true, le-leb, ltb-false, le-ltb, and_parts}
use Rattle.pg_codec.specs.Laws.{HasWidth, IsField}
use Rattle.pg_codec.specs.Reading.{checked, followed_by, bytes_at, number_at}
use Rattle.pg_codec.specs.Spelling.{number_bytes}
use Rattle.pg_codec.proofs.Binding.{both_are, checked_is, ok_is}
use Rattle.pg_codec.proofs.Numbers.{HasLength, bytes_field}
use Rattle.pg_packet_write.specs.Fields.{counted, listed, part_bytes, ranges_bytes}
use Rattle.pg_patch.specs.Ranges.{RangesValue}
use Rattle.pg_patch.specs.declared.part.Part.{Part}
use Rattle.pg_packet_fields.specs.Faults.{of_packet}
use Rattle.pg_packet_fields.specs.Lists.{AreListed, count_of, list_at}
use Rattle.pg_packet_fields.specs.Patches.{IsBlock, IsLong, IsOffset, IsPartIn, IsWholeRanges, Room, block_at, long_of, offset_of, part_at, ranges_at, to_room, whole_room}
use Rattle.pg_packet_fields.specs.declared.error.PacketError.{PacketError}
use Rattle.pg_packet_fields.specs.declared.error.PacketError.TheVariants.{BadTag, TooLong}
use Rattle.pg_packet_fields.proofs.Joining.{packet_is, then_is, view_is}
use Rattle.pg_packet_fields.proofs.Many.{count_field, list_is}
use Rattle.pg_packet_fields.proofs.Plain.{narrow_is}

-- ---- bytes

abbrev block_view : ℕ × List ℕ → List ℕ
block_view x = x.1

block_to : (n : ℕ) (bytes : List ℕ) → n ≤ 32768 → HasLength n bytes → IsBlock bytes × (counted 4 bytes ≡ number_bytes 4 n ++ bytes)
unfolding counted
block_to n bytes most long =
    let same = long.length in
    (record { most = omega (arith, most, same); width = long.width }, ap (λ (k : ℕ). number_bytes 4 k ++ bytes) same)

pub block_field : IsField IsBlock (counted 4) block_at
unfolding block_at
block_field = view_is
    (both_are (λ n. n ≤ 32768) (number_bytes 4) (checked (count_of 32768) (of_packet (number_at 4))) HasLength (λ n (bytes : List ℕ). bytes) (λ n. of_packet (bytes_at n)) (count_field 4 32768 (omega arith) narrow_is)
    (λ n _. packet_is (HasLength n) (λ bytes. bytes) (bytes_at n) (bytes_field n))) block_view IsBlock (counted 4)
    (λ x fits. block_to x.0 x.1 fits.0 fits.1)
    (λ bytes fits. ((length bytes, bytes), (fits.most, record { length = refl; width = fits.width }), refl))

-- ---- parts

offset_case : (t : Bool) (room : Room) (place n s : ℕ) → HasWidth 4 n → nat_le room.from n ≡ t → cond t (Ok n) (Err (BadTag place)) ≡ Ok s
    → IsOffset room s × (number_bytes 4 s ≡ number_bytes 4 n)
offset_case true room place n s width test e =
    subst (λ (x : ℕ). IsOffset room x × (number_bytes 4 x ≡ number_bytes 4 n)) (ok_is PacketError n s e) (record { from = leb-true room.from n test; width = width }, refl)
offset_case false room place n s width test e = absurd cc

offset_tested : (room : Room) (place s : ℕ) → IsOffset room s → offset_of room.from place s ≡ Ok s
offset_tested room place s fits = let test : nat_le room.from s ≡ true = le-leb room.from s fits.from in rw test refl

offset_field : (room : Room) → IsField (IsOffset room) (number_bytes 4) (checked (offset_of room.from) (of_packet (number_at 4)))
offset_field room = checked_is (offset_of room.from) (HasWidth 4) (number_bytes 4) (of_packet (number_at 4)) (IsOffset room) (number_bytes 4)
    (λ place n s fits e. offset_case (nat_le room.from n) room place n s fits refl e)
    (λ s fits. (s, fits.width, λ place. offset_tested room place s fits)) narrow_is

long_case : (t u : Bool) (least : ℕ) (room : Room) (offset place n s : ℕ) → HasWidth 4 n → nat_lt room.left n ≡ t → (nat_le 1 n && nat_le (offset + n) least) ≡ u
    → cond t (Err (TooLong place)) (cond u (Ok n) (Err (BadTag place))) ≡ Ok s
    → IsLong least room offset s × (number_bytes 4 s ≡ number_bytes 4 n)
long_case true u least room offset place n s width over test e = absurd cc
long_case false true least room offset place n s width over test e =
    let both = and_parts (nat_le 1 n) (nat_le (offset + n) least) test in
    subst (λ (x : ℕ). IsLong least room offset x × (number_bytes 4 x ≡ number_bytes 4 n)) (ok_is PacketError n s e)
    (record { left = ltb-false room.left n over; some = leb-true 1 n both.0; end = leb-true (offset + n) least both.1; width = width }, refl)
long_case false false least room offset place n s width over test e = absurd cc

long_tested : (least : ℕ) (room : Room) (offset place s : ℕ) → IsLong least room offset s → long_of least room.left offset place s ≡ Ok s
long_tested least room offset place s fits =
    let over : nat_lt room.left s ≡ false = le-ltb room.left s fits.left in
    let some : nat_le 1 s ≡ true = le-leb 1 s fits.some in
    let end : nat_le (offset + s) least ≡ true = le-leb (offset + s) least fits.end in
    rw (over, some, end) refl

long_field : (least : ℕ) (room : Room) (offset : ℕ) → IsField (IsLong least room offset) (number_bytes 4) (checked (long_of least room.left offset) (of_packet (number_at 4)))
long_field least room offset = checked_is (long_of least room.left offset) (HasWidth 4) (number_bytes 4) (of_packet (number_at 4)) (IsLong least room offset) (number_bytes 4)
    (λ place n s fits e. long_case (nat_lt room.left n) (nat_le 1 n && nat_le (offset + n) least) least room offset place n s fits refl refl e)
    (λ s fits. (s, fits.width, λ place. long_tested least room offset place s fits)) narrow_is

abbrev part_view : ℕ × (ℕ × List ℕ) → Part
part_view x = record { offset = x.0; bytes = x.1.1 }

part_to : (least : ℕ) (room : Room) (offset n : ℕ) (bytes : List ℕ) → IsOffset room offset → IsLong least room offset n → HasLength n bytes
    → IsPartIn least room (part_view (offset, (n, bytes))) × (part_bytes (part_view (offset, (n, bytes))) ≡ number_bytes 4 offset ++ (number_bytes 4 n ++ bytes))
unfolding part_bytes counted
part_to least room offset n bytes begins long have = (
  record { offset = begins; long = subst (λ (k : ℕ). IsLong least room offset k) (sym have.length) long; width = have.width },
  ap (λ (k : ℕ). number_bytes 4 offset ++ (number_bytes 4 k ++ bytes)) have.length,
)

pub part_field : (least : ℕ) (room : Room) → IsField (IsPartIn least room) part_bytes (part_at least room)
unfolding part_at
part_field least room = view_is
    (both_are (IsOffset room) (number_bytes 4) (checked (offset_of room.from) (of_packet (number_at 4)))
    (λ offset (x : ℕ × List ℕ). IsLong least room offset x.0 × HasLength x.0 x.1) (λ offset x. number_bytes 4 x.0 ++ x.1)
    (λ offset. followed_by (checked (long_of least room.left offset) (of_packet (number_at 4))) (λ count. of_packet (bytes_at count))) (offset_field room)
    (λ offset _. both_are (IsLong least room offset) (number_bytes 4) (checked (long_of least room.left offset) (of_packet (number_at 4))) HasLength (λ n (bytes : List ℕ). bytes) (λ n. of_packet (bytes_at n)) (long_field least room offset)
    (λ n _. packet_is (HasLength n) (λ bytes. bytes) (bytes_at n) (bytes_field n)))) part_view (IsPartIn least room) part_bytes
    (λ x fits. part_to least room x.0 x.1.0 x.1.1 fits.0 fits.1.0 fits.1.1)
    (λ p fits. ((p.offset, (length p.bytes, p.bytes)), (fits.offset, (fits.long, record { length = refl; width = fits.width })), refl))

abbrev ranges_view : ℕ × (ℕ × List Part) → RangesValue
ranges_view x = record { keep = x.0; least = x.1.0; parts = x.1.1 }

pub ranges_field : IsField IsWholeRanges ranges_bytes ranges_at
unfolding ranges_at ranges_bytes
ranges_field = view_is
    (then_is narrow_is
    (both_are (HasWidth 4) (number_bytes 4) (of_packet (number_at 4)) (λ least. AreListed 200 (IsPartIn least) to_room whole_room) (λ least. listed 4 part_bytes) (λ least. list_at 4 200 (part_at least) to_room whole_room) narrow_is
    (λ least _. list_is (IsPartIn least) to_room part_bytes (part_at least) (part_field least) 4 200 whole_room (omega arith) narrow_is))) ranges_view IsWholeRanges ranges_bytes
    (λ x fits. (record { keep = fits.0; least = fits.1.0; parts = fits.1.1 }, refl))
    (λ r fits. ((r.keep, (r.least, r.parts)), (fits.keep, (fits.least, fits.parts)), refl))
