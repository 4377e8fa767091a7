-- How long fields of packets are.
use Rattle.std.proofs.Common.{ℕ, ◌+◌, ◌*◌, ◌≤◌, Bool, true, false, List, [], ◌∷◌, ◌++◌, length, arith, suc-mul, mul-le-mul_right, le_trans}
use Rattle.std.specs.List.{flat_map}
use Rattle.std.proofs.lemmas.List.{length-append}
use Rattle.byteorder.specs.Numbers.{length-bytes_high_first}
use Rattle.pg_base.specs.declared.id.FileId.{FileId}
use Rattle.pg_base.specs.Id.{letter}
use Rattle.pg_base.specs.declared.head.Head.{Head}
use Rattle.pg_base.specs.declared.policy.Policy.{Policy}
use Rattle.pg_base.specs.declared.policy.Policy.TheVariants as policy
use Rattle.pg_base.specs.declared.stamp.Stamp.{Stamp}
use Rattle.pg_base.specs.declared.vector.Actor.{Actor}
use Rattle.pg_codec.specs.Spelling.{file_bytes, flag_bytes, number_bytes, stamp_bytes}
use Rattle.pg_edges.specs.declared.key.Key.{Key}
use Rattle.pg_edges.specs.declared.key.Key.TheVariants as key
use Rattle.pg_entries.specs.declared.entry.Entry.{Entry}
use Rattle.pg_server.specs.pg_pieces.pg_msg.declared.message.Ask.{Ask}
use Rattle.pg_server.specs.pg_pieces.pg_msg.declared.message.Ask.TheVariants as ask
use Rattle.pg_server.specs.pg_pieces.pg_msg.declared.message.Ends.{Ends}
use Rattle.pg_packet_write.proofs.Lengths.{name_short}
use Rattle.pg_packet_write.specs.Fields.{ask_bytes, counted, ends_bytes, entry_bytes, gold_bytes, golds_bytes, head_bytes, key_bytes, known_bytes, listed, part_bytes, place_bytes, policy_bytes, ranges_bytes, stamps_bytes, vector_bytes}
use Rattle.pg_packet_write.specs.Fits.{FitGolds, FitStamps, FitsEntry, FitsHead, FitsRanges, FitsVector, laid}
use Rattle.pg_patch.specs.declared.part.Part.{Part}
use Rattle.pg_patch.specs.Ranges.{RangesValue}
use Rattle.pg_register.specs.declared.flag.Flag.{Flag}
use Rattle.pg_register.specs.declared.place.Place.{Place}
use Rattle.pg_words.specs.PlaceWords.{IsPlace}

-- ---- of what a field is made

pub both : (a b : ℕ) (xs ys : List ℕ) → length xs ≤ a → length ys ≤ b → length (xs ++ ys) ≤ a + b
both a b xs ys p q = omega (arith, length-append xs ys, p, q)

pub number : (width n : ℕ) → length (number_bytes width n) ≤ width
unfolding number_bytes
number width n = omega (arith, length-bytes_high_first width n)

pub one : (byte : ℕ) → length (byte ∷ []) ≤ 1
one byte = omega arith

pub truth : (b : Bool) → length (flag_bytes b) ≤ 1
unfolding flag_bytes
truth false = omega arith
truth true = omega arith

pub block : (width most : ℕ) (bytes : List ℕ) → length bytes ≤ most → length (counted width bytes) ≤ width + most
unfolding counted
block width most bytes few = both width most _ _ (number width (length bytes)) few

each : {X : Type 0} (f : X → List ℕ) (most : ℕ) (xs : List X) → ((x : X) → length (f x) ≤ most) → length (flat_map f xs) ≤ length xs * most
each f most [] h = omega arith
each f most (x ∷ xs) h = omega (arith, suc-mul (length xs) most, length-append (f x) (flat_map f xs), h x, each f most xs h)

pub items : {X : Type 0} (width count most : ℕ) (f : X → List ℕ) (xs : List X) → ((x : X) → length (f x) ≤ most) → length xs ≤ count
    → length (listed width f xs) ≤ width + count * most
unfolding listed
items width count most f xs h few =
    both width (count * most) _ _ (number width (length xs)) (le_trans (each f most xs h) (mul-le-mul_right most few))

-- ---- ids, stamps, places

pub file_length : (id : FileId) → length (file_bytes id) ≤ 13
unfolding file_bytes
file_length id = both 1 12 (letter id.kind ∷ []) _ (one (letter id.kind)) (both 4 8 _ _ (number 4 id.server) (number 8 id.number))

pub stamp_length : (s : Stamp) → length (stamp_bytes s) ≤ 12
unfolding stamp_bytes
stamp_length s = both 8 4 _ _ (number 8 s.time) (number 4 s.server)

name_length : (p : Place) → IsPlace p → length p.name ≤ 255
name_length p h = let short = name_short p.name h.name in omega (arith, short)

pub place_length : (p : Place) → IsPlace p → length (place_bytes p) ≤ 282
unfolding place_bytes
place_length p h =
    both 12 270 _ _ (stamp_length p.stamp) (both 13 257 _ _ (file_length p.parent)
    (both 1 256 _ _ (truth p.live) (block 1 255 p.name (name_length p h))))

pub gold_length : (f : Flag) → length (gold_bytes f) ≤ 21
unfolding gold_bytes
gold_length f = both 4 17 _ _ (number 4 f.server) (both 8 9 _ _ (number 8 f.birth) (both 8 1 _ _ (number 8 f.number) (truth f.raised)))

pub golds_length : (flags : List Flag) → FitGolds flags → length (golds_bytes flags) ≤ 1345
unfolding golds_bytes
golds_length flags h = items 1 64 21 gold_bytes flags gold_length h.few

pub entry_length : (e : Entry) → FitsEntry e → length (entry_bytes e) ≤ 1640
unfolding entry_bytes
entry_length e h =
    both 13 1627 _ _ (file_length e.child) (both 282 1345 _ _ (place_length e.place h.place) (golds_length e.flags h.flags))

-- ---- versions

known_length : (known : Actor × ℕ) → length (known_bytes known) ≤ 20
unfolding known_bytes
known_length known = both 4 16 _ _ (number 4 known.0.server) (both 8 8 _ _ (number 8 known.0.birth) (number 8 known.1))

pub vector_length : (vector : List (Actor × ℕ)) → FitsVector vector → length (vector_bytes vector) ≤ 5122
unfolding vector_bytes
vector_length vector h = items 2 256 20 known_bytes vector known_length h.few

pub head_length : (h : Head) → FitsHead h → length (head_bytes h) ≤ 5154
unfolding head_bytes
head_length h fits =
    both 12 5142 _ _ (stamp_length h.stamp) (both 8 5134 _ _ (number 8 h.birth) (both 8 5126 _ _ (number 8 h.number)
    (both 5122 4 _ _ (vector_length h.vector fits.vector) (number 4 h.length))))

pub stamps_length : (stamps : List Stamp) → FitStamps stamps → length (stamps_bytes stamps) ≤ 3074
unfolding stamps_bytes
stamps_length stamps h = items 2 256 12 stamp_bytes stamps stamp_length h.few

-- ---- parts of bodies

part_length : (p : Part) → length (part_bytes p) ≤ 8 + length p.bytes
unfolding part_bytes
part_length p =
    le_trans (both 4 (4 + length p.bytes) _ _ (number 4 p.offset) (block 4 (length p.bytes) p.bytes (omega arith))) (omega arith)

parts_length : (parts : List Part) → length (flat_map part_bytes parts) ≤ 8 * length parts + laid parts
parts_length [] = omega arith
parts_length (p ∷ ps) = omega (arith, length-append (part_bytes p) (flat_map part_bytes ps), part_length p, parts_length ps)

many_parts : (parts : List Part) → length parts ≤ 200 → laid parts ≤ 30000 → length (listed 4 part_bytes parts) ≤ 31604
unfolding listed
many_parts parts few short =
    both 4 31600 _ _ (number 4 (length parts)) (omega (arith, parts_length parts, few, short))

pub ranges_length : (r : RangesValue) → FitsRanges r → length (ranges_bytes r) ≤ 31612
unfolding ranges_bytes
ranges_length r h = both 4 31608 _ _ (number 4 r.keep) (both 4 31604 _ _ (number 4 r.least) (many_parts r.parts h.few h.short))

-- ---- what else messages have

pub key_length : (k : Key) → length (key_bytes k) ≤ 14
unfolding key_bytes
key_length key.Place = omega (arith, number 1 1)
key_length (key.Flag server) = omega (arith, both 1 4 _ _ (number 1 2) (number 4 server))
key_length (key.Entry child) = both 1 13 _ _ (number 1 3) (file_length child)
key_length (key.Version stamp) = omega (arith, both 1 12 _ _ (number 1 4) (stamp_length stamp))

pub policy_length : (p : Policy) → length (policy_bytes p) ≤ 1
unfolding policy_bytes
policy_length policy.Last = number 1 1
policy_length policy.Join = number 1 2

pub ask_length : (a : Ask) → length (ask_bytes a) ≤ 1
unfolding ask_bytes
ask_length ask.Seek = number 1 1
ask_length ask.Confirm = number 1 2
ask_length ask.Patch = number 1 3

pub ends_length : (e : Ends) → length (ends_bytes e) ≤ 29
unfolding ends_bytes
ends_length e = both 13 16 _ _ (file_length e.file) (both 8 8 _ _ (number 8 e.sender) (number 8 e.receiver))
