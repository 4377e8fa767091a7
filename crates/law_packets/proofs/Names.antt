-- Names, and places, which have no list.
use Rattle.std.proofs.Common.{◌≡◌, ℕ, zero, suc, ◌+◌, ◌<◌, ◌⊎◌, inl, inr, List, [], ◌++◌, Ok, refl, sym, ap, subst, ◌∙◌, arith}
use Rattle.std.specs.Prelude.{All}
use Rattle.std.proofs.lemmas.List.{append-nil}
use Rattle.std.proofs.lemmas.List.Elements.{All-nil, All-cons}
use Rattle.pg_codec.specs.Unread.{Unread}
use Rattle.pg_codec.specs.Reading.{◌>>=◌, followed_by, seen_as, bytes_at, number_at}
use Rattle.pg_codec.specs.Laws.{AreBytes, HasWidth}
use Rattle.pg_codec.specs.Spelling.{number_bytes}
use Rattle.pg_codec.proofs.Binding.{bind_ok}
use Rattle.pg_packet_fields.specs.Faults.{of_packet}
use Rattle.pg_packet_fields.specs.Names.{counted_at, is_place_name, name_at, name_of}
use Rattle.pg_packet_fields.specs.Places.{IsName, place_at}
use Rattle.pg_packet_fields.proofs.Plain.{byte_is}
use Rattle.pg_packet_fields.proofs.PlaceFields.{name_field}
use Rattle.pg_packet_write.specs.Fields.{counted}
use Rattle.pg_path.specs.Name.{IsNameByte}
use Rattle.pg_register.specs.Place.{IsPlaceName}
use Rattle.law_packets.proofs.Atoms.{Nothing, bytes_told, number_told, number_width, row_bytes, row_long, row_of}
use Rattle.law_packets.proofs.Checks.{checked_told, test_check}
use Rattle.law_packets.proofs.Plain.{dir_sure, flag_sure, number_wants, stamp_sure}
use Rattle.law_packets.proofs.Sure.{IsRelation, IsSure, seen_sure, starts_sure, then_sure}
use Rattle.law_packets.proofs.Telling.{IsTold, Reads, Starts, bound_told, bytes_front, bytes_join, other_reached, pair, reads_field, seen_told}

name_byte : IsNameByte 97
name_byte = record { least = omega arith; most = omega arith; no_slash = λ e. omega arith; no_tilde = λ e. omega arith }

name_bytes : (n : ℕ) → All IsNameByte (row_of 97 n)
name_bytes zero = All-nil IsNameByte
name_bytes (suc n) = All-cons IsNameByte 97 (row_of 97 n) name_byte (name_bytes n)

row_name : (n : ℕ) → n < 256 → IsPlaceName (row_of 97 n)
row_name zero few = inl refl
row_name (suc n) few = inr (inl (record { some = omega (arith, row_long 97 n); most = omega (arith, few, row_long 97 n); each = name_bytes (suc n) }))

is_name : (n : ℕ) → n < 256 → IsName (row_of 97 n)
is_name n few = record { place = row_name n few; width = row_bytes 97 n (omega arith) }

name_start : (n : ℕ) → HasWidth 1 n → Starts name_at (number_bytes 1 n)
unfolding counted
name_start n fits =
    let few : n < 256 = omega (arith, fits) in
    let spelled : number_bytes 1 n ++ row_of 97 n ≡ counted 1 (row_of 97 n) = ap (λ (k : ℕ). number_bytes 1 k ++ row_of 97 n) (sym (row_long 97 n)) in
    let reads : Reads name_at (counted 1 (row_of 97 n)) (row_of 97 n) = λ place rest. name_field.again (row_of 97 n) place rest (is_name n few) in
    record {
      value = row_of 97 n;
      more = row_of 97 n;
      width = bytes_join (number_bytes 1 n) (row_of 97 n) (number_width 1 n) (row_bytes 97 n (omega arith));
      reads = subst (λ (t : List ℕ). Reads name_at t (row_of 97 n)) (sym spelled) reads;
    }

no_name : Starts name_at []
no_name =
    let s = name_start 0 (omega arith) in
    let value : List ℕ = s.value in
    record { value = value; more = number_bytes 1 0 ++ s.more; width = s.width; reads = s.reads }

-- nothing, or the length
abbrev IsLength : List ℕ → Type 0
IsLength b = (b ≡ []) ⊎ ((n : ℕ) × HasWidth 1 n × (b ≡ number_bytes 1 n))

length_of : (n : ℕ) (text b : List ℕ) → AreBytes (text ++ b) → Reads (of_packet (number_at 1)) text n → Nothing b → IsLength (text ++ b)
length_of n text b width reads none =
    let r = reads_field (HasWidth 1) (number_bytes 1) (of_packet (number_at 1)) byte_is text n (bytes_front text b width) reads in
    let all : text ++ b ≡ number_bytes 1 n = ap (λ (t : List ℕ). text ++ t) none ∙ append-nil text ∙ r.1 in
    inr (n, r.0, all)

counted_told : IsTold IsLength (counted_at 1)
counted_told = seen_told IsLength (λ (x : ℕ × List ℕ). x.1) (followed_by (of_packet (number_at 1)) (λ n. of_packet (bytes_at n)))
    (bound_told Nothing IsLength (λ n. Nothing) (of_packet (number_at 1)) (λ n. seen_as (pair n) (of_packet (bytes_at n))) (number_told 1)
    (λ n. seen_told Nothing (pair n) (of_packet (bytes_at n)) (bytes_told n)) (λ b width p. inl p) length_of)

counted_wants : (place : ℕ) (x : List ℕ × Unread) → counted_at 1 (record { place = place; rest = [] }) ≡ Ok x → ⊥
counted_wants place x k =
    let from : Unread = record { place = place; rest = [] } in
    let a = bind_ok (followed_by (of_packet (number_at 1)) (λ n. of_packet (bytes_at n)) from) (λ a. Ok (a.0.1, a.1)) x k in
    let b = bind_ok (of_packet (number_at 1) from) (λ a. (of_packet (bytes_at a.0) a.1 >>= λ b. Ok ((a.0, b.0), b.1))) a.0 a.1 in
    number_wants 1 (omega arith) place b.0 b.1

name_begins : (b : List ℕ) → AreBytes b → IsLength b → Starts name_at b
name_begins b width (inl none) = subst (λ (t : List ℕ). Starts name_at t) (sym none) no_name
name_begins b width (inr some) = subst (λ (t : List ℕ). Starts name_at t) (sym some.2) (name_start some.0 some.1)

pub name_sure : {R : List ℕ → List ℕ → Type 0} → IsRelation R → IsSure R name_at
unfolding name_at
name_sure rel = starts_sure rel (other_reached IsLength (Starts name_at) name_at (checked_told IsLength name_of (counted_at 1) (test_check is_place_name) (inl refl) counted_wants counted_told) name_begins) no_name

pub place_sure : {R : List ℕ → List ℕ → Type 0} → IsRelation R → IsSure R place_at
unfolding place_at
place_sure rel = seen_sure _ (then_sure rel (stamp_sure rel) (then_sure rel (dir_sure rel) (then_sure rel (flag_sure rel) (name_sure rel))))
