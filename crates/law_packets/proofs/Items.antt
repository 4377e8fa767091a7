-- The items of lists: flags, actors, stamps and parts, each behind those before it.
use Rattle.std.proofs.Common.{◌≡◌, ℕ, ◌+◌, ◌^◌, ◌<◌, ◌≤◌, ◌⊎◌, inl, inr, Bool, true, cond, List, [], ◌++◌, None, Ok, Err, refl, sym, ap, subst, ◌∙◌, arith}
use Rattle.std.specs.Prelude.{nat_le, nat_lt, ◌&&◌, ◌||◌}
use Rattle.std.proofs.lemmas.Bool.{cases_lt, lt-ltb, or_left, or_right}
use Rattle.std.proofs.lemmas.List.{append-nil}
use Rattle.pg_base.specs.declared.vector.Actor.{Actor}
use Rattle.pg_codec.specs.Reading.{Field, followed_by, seen_as, checked, flag_at, number_at}
use Rattle.pg_codec.specs.Laws.{AreBytes, HasWidth}
use Rattle.pg_codec.specs.Spelling.{number_bytes, stamp_bytes}
use Rattle.pg_packet_fields.specs.Faults.{of_packet}
use Rattle.pg_packet_fields.specs.Heads.{IsBirth, IsFrom, IsKnown, birth_of, from_of, known_at, nobody, some_at, some_of, to_actor, vector_at}
use Rattle.pg_packet_fields.specs.Lists.{IsLater, later_at, stamps_at, to_last}
use Rattle.pg_packet_fields.specs.Places.{IsGold, above_of, gold_at, golds_at, to_server}
use Rattle.pg_packet_fields.specs.declared.error.PacketError.{PacketError}
use Rattle.pg_packet_fields.specs.declared.error.PacketError.TheVariants.{BadTag}
use Rattle.pg_packet_fields.proofs.HeadFields.{known_field}
use Rattle.pg_packet_fields.proofs.PlaceFields.{gold_field}
use Rattle.pg_packet_fields.proofs.Plain.{byte_is, narrow_is, short_is, wide_is}
use Rattle.pg_packet_write.specs.Fields.{gold_bytes, known_bytes}
use Rattle.law_packets.specs.Lists.{LeavesNoBirth, Never}
use Rattle.law_packets.proofs.Atoms.{Nothing, wide_sure}
use Rattle.law_packets.proofs.Checks.{test_check}
use Rattle.law_packets.proofs.Lists.{Inner}
use Rattle.law_packets.proofs.Opened.{SameBut, list_sure}
use Rattle.law_packets.proofs.Plain.{check_sure, checked_number, checked_some, flag_sure}
use Rattle.law_packets.proofs.Stamps.{later_told}
use Rattle.law_packets.proofs.Tested.{from_field, later_field}
use Rattle.law_packets.proofs.Sure.{IsRelation, IsSure, Reached, seen_sure, starts_first, starts_second, starts_seen, then_sure}
use Rattle.law_packets.proofs.Telling.{IsTold, Reads, Starts, bound_told, bytes_front, other_reached, pair, reads_field, seen_told}

-- ---- a first field, and what may be behind it

abbrev pub NoOther : List ℕ → Type 0
NoOther b = ⊥

-- nothing is taken for anything else
abbrev pub Same : List ℕ → List ℕ → Type 0
Same a b = a ≡ b

pub plain : IsRelation Same
plain = record { here = λ b. refl; behind = λ front a b same. ap (λ (t : List ℕ). front ++ t) same }

pub plain_told : {X : Type 0} (read : Field PacketError X) → IsSure Same read → IsTold (Inner read NoOther) read
plain_told read sure = other_reached (Reached Same read) (Inner read NoOther) read sure.told
    (λ b width p. inr (inl (subst (λ (t : List ℕ). Starts read t) p.same p.starts)))

pair_start : {A B : Type 0} (first : Field PacketError A) (second : A → Field PacketError B) (a : A) (text b : List ℕ)
    → AreBytes text → Reads first text a → Starts (second a) b → Starts (followed_by first second) (text ++ b)
pair_start {A = A} {B = B} first second a text b width reads s =
    starts_second first (λ (x : A). seen_as (pair x) (second x)) a text b width reads (starts_seen (pair a) (second a) b s)

second_inner : {A B : Type 0} (first : Field PacketError A) (second : A → Field PacketError B) (N : List ℕ → Type 0) (a : A) (text b : List ℕ)
    → AreBytes (text ++ b) → Reads first text a → Starts (second a) [] ⊎ N text → Inner (second a) NoOther b → Inner (followed_by first second) N (text ++ b)
second_inner first second N a text b width reads (inl some) (inl none) =
    inr (inl (pair_start first second a text b (bytes_front text b width) reads (subst (λ (t : List ℕ). Starts (second a) t) (sym none) some)))
second_inner first second N a text b width reads (inr last) (inl none) =
    inr (inr (subst N (sym (append-nil text) ∙ ap (λ (t : List ℕ). text ++ t) (sym none)) last))
second_inner first second N a text b width reads some (inr (inl s)) = inr (inl (pair_start first second a text b (bytes_front text b width) reads s))
second_inner first second N a text b width reads some (inr (inr wrong)) = absurd wrong

pub item_told : {A B : Type 0} (first : Field PacketError A) (second : A → Field PacketError B) (N : List ℕ → Type 0) → IsTold Nothing first
    → ((a : A) → IsTold (Inner (second a) NoOther) (second a))
    → ((a : A) (text : List ℕ) → AreBytes text → Reads first text a → Starts (second a) [] ⊎ N text)
    → IsTold (Inner (followed_by first second) N) (followed_by first second)
item_told {A = A} {B = B} first second N one two some =
    bound_told Nothing (Inner (followed_by first second) N) (λ a. Inner (second a) NoOther) first (λ a. seen_as (pair a) (second a)) one
    (λ a. seen_told (Inner (second a) NoOther) (pair a) (second a) (two a)) (λ b width none. inl none)
    (λ a text b width reads p. second_inner first second N a text b width reads (some a text (bytes_front text b width) reads) p)

inner_seen : {A B : Type 0} (view : A → B) (read : Field PacketError A) (N : List ℕ → Type 0) (b : List ℕ) → Inner read N b → Inner (seen_as view read) N b
inner_seen view read N b (inl none) = inl none
inner_seen view read N b (inr (inl s)) = inr (inl (starts_seen view read b s))
inner_seen view read N b (inr (inr last)) = inr (inr last)

pub seen_item : {A B : Type 0} {read : Field PacketError A} {N : List ℕ → Type 0} (view : A → B) → IsTold (Inner read N) read → IsTold (Inner (seen_as view read) N) (seen_as view read)
seen_item {read = read} {N = N} view told =
    seen_told (Inner (seen_as view read) N) view read (other_reached (Inner read N) (Inner (seen_as view read) N) read told (λ b width p. inner_seen view read N b p))

-- ---- flags

abbrev flag_rest : Field PacketError (ℕ × (ℕ × Bool))
flag_rest = followed_by (of_packet (number_at 8)) (λ birth. followed_by (of_packet (number_at 8)) (λ number. of_packet flag_at))

flag_rest_sure : {R : List ℕ → List ℕ → Type 0} → IsRelation R → IsSure R flag_rest
flag_rest_sure rel = then_sure rel (wide_sure rel) (then_sure rel (wide_sure rel) (flag_sure rel))

gold_told : (last : ℕ) → IsTold (Inner (gold_at last) (Never last)) (gold_at last)
unfolding gold_at
gold_told last = seen_item _ (item_told (checked (above_of last) (of_packet (number_at 4))) (λ server. flag_rest) NoOther
    (checked_number 4 (above_of last) (omega arith) (test_check (λ n. nat_lt last n && nat_le n 64)))
    (λ server. plain_told flag_rest (flag_rest_sure plain)) (λ server text width reads. inl (flag_rest_sure plain).some))

-- a flag of any server
pub first_flag_sure : {R : List ℕ → List ℕ → Type 0} → IsRelation R → IsSure R (gold_at 0)
unfolding gold_at
first_flag_sure rel = seen_sure _ (then_sure rel (check_sure rel 4 (above_of 0) (omega arith) narrow_is (test_check (λ n. nat_lt 0 n && nat_le n 64)) 1 1 (omega arith) (λ place. refl)) (flag_rest_sure rel))

pub golds_sure : IsSure SameBut golds_at
unfolding golds_at
golds_sure = list_sure gold_at IsGold to_server gold_bytes Never gold_field gold_told 1 64 0 (omega arith) (omega arith) byte_is (λ whole begun o. inl o)

-- ---- stamps

pub stamps_sure : IsSure SameBut stamps_at
unfolding stamps_at
stamps_sure = list_sure later_at IsLater to_last stamp_bytes Never later_field
    (λ last. other_reached Nothing (Inner (later_at last) (Never last)) (later_at last) (later_told last) (λ b width none. inl none))
    2 256 None (omega arith) (omega arith) short_is (λ whole begun o. inr (inr (inl o)))

-- ---- actors

pub some_sure : {R : List ℕ → List ℕ → Type 0} → IsRelation R → IsSure R some_at
unfolding some_at
some_sure rel = check_sure rel 8 some_of (omega arith) wide_is (test_check (λ n. nat_le 1 n)) 1 1 (omega arith) (λ place. refl)

abbrev birth_at : Actor → ℕ → Field PacketError ℕ
birth_at last server = checked (birth_of last server) (of_packet (number_at 8))

abbrev known_rest : Actor → ℕ → Field PacketError (ℕ × ℕ)
known_rest last server = followed_by (birth_at last server) (λ birth. some_at)

known_rest_told : (last : Actor) (server : ℕ) → IsTold (Inner (known_rest last server) NoOther) (known_rest last server)
known_rest_told last server = item_told (birth_at last server) (λ birth. some_at) NoOther
    (checked_number 8 (birth_of last server) (omega arith) (test_check (λ n. nat_lt last.server server || nat_lt last.birth n)))
    (λ birth. plain_told some_at (some_sure plain)) (λ birth text width reads. inl (some_sure plain).some)

-- some birth behind the last actor
birth_good : (last : Actor) (server birth : ℕ) → HasWidth 8 birth → (nat_lt last.server server || nat_lt last.birth birth) ≡ true → Starts (known_rest last server) []
birth_good last server birth width test =
    let good : (place : ℕ) → birth_of last server place birth ≡ Ok birth = λ place. ap (λ (t : Bool). cond t (Ok birth) (Err (BadTag place))) test in
    let one : Starts (birth_at last server) [] = checked_some 8 (birth_of last server) wide_is birth birth width good in
    starts_first (birth_at last server) (λ (x : ℕ). seen_as (pair x) some_at) [] (λ x. starts_seen (pair x) some_at [] (some_sure plain).some) one

abbrev NoBirth : Actor → ℕ → Type 0
NoBirth last server = (birth : ℕ) → IsBirth last server birth → ⊥

no_birth : (last : Actor) (server birth : ℕ) → server ≤ last.server → 2 ^ 64 ≤ last.birth + 1 → (last.server < server) ⊎ (last.birth < birth) → birth < 2 ^ 64 → ⊥
no_birth last server birth le over (inl lt) width = omega (arith, le, lt)
no_birth last server birth le over (inr lt) width = omega (arith, over, lt, width)

birth_or_none : (last : Actor) (server : ℕ) → Starts (known_rest last server) [] ⊎ NoBirth last server
birth_or_none last server =
    elim (cases_lt last.server server) [
      | inl lt ↦ inl (birth_good last server 0 (omega arith) (or_left (nat_lt last.server server) (nat_lt last.birth 0) (lt-ltb last.server server lt)))
      | inr le ↦
          elim (cases_lt (last.birth + 1) (2 ^ 64)) [
            | inl few ↦ inl (birth_good last server (last.birth + 1) few (or_right (nat_lt last.server server) (nat_lt last.birth (last.birth + 1)) (lt-ltb last.birth (last.birth + 1) (omega arith))))
            | inr over ↦ inr (λ birth is. no_birth last server birth le over is.behind is.width)
          ]
    ]

after_server : (last : Actor) (server : ℕ) (text : List ℕ) → AreBytes text → Reads (checked (from_of last.server) (of_packet (number_at 4))) text server
    → Starts (known_rest last server) [] ⊎ NoBirth last server → Starts (known_rest last server) [] ⊎ LeavesNoBirth last text
after_server last server text width reads (inl some) = inl some
after_server last server text width reads (inr none) =
    let r = reads_field (IsFrom last.server) (number_bytes 4) (checked (from_of last.server) (of_packet (number_at 4))) (from_field last.server) text server width reads in
    inr (record { server = server; from = r.0; spelled = r.1; none = none })

known_told : (last : Actor) → IsTold (Inner (known_at last) (LeavesNoBirth last)) (known_at last)
unfolding known_at
known_told last = seen_item _ (item_told (checked (from_of last.server) (of_packet (number_at 4))) (known_rest last) (LeavesNoBirth last)
    (checked_number 4 (from_of last.server) (omega arith) (test_check (λ n. nat_le last.server n && (nat_le 1 n && nat_le n 64))))
    (known_rest_told last) (λ server text width reads. after_server last server text width reads (birth_or_none last server)))

pub vector_sure : IsSure SameBut vector_at
unfolding vector_at
vector_sure = list_sure known_at IsKnown to_actor known_bytes LeavesNoBirth known_field known_told 2 256 nobody (omega arith) (omega arith) short_is (λ whole begun o. inr (inl o))
