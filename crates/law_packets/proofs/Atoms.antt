-- Fields of one part: numbers, bytes, and what is checked.
use Rattle.std.proofs.Common.{◌≡◌, ℕ, zero, suc, ◌+◌, ◌-◌, ◌/◌, ◌^◌, ◌<◌, ◌≤◌, Bool, true, false, cond, ltb, List, [], ◌∷◌, ◌++◌, length, take, Result, Ok, Err, refl, sym, ap, subst, ◌∙◌, arith}
use Rattle.std.proofs.Math.Nat.{mod-lt}
use Rattle.std.specs.Int.{byte_at, bytes_high_first}
use Rattle.std.proofs.lemmas.Bool.{ltb-true, lt-ltb}
use Rattle.std.proofs.lemmas.List.{append-nil, length-append}
use Rattle.byteorder.specs.Endian.{big_number}
use Rattle.pg_codec.specs.Unread.{Unread}
use Rattle.pg_codec.specs.declared.error.ReadError.{ReadError}
use Rattle.pg_codec.specs.declared.error.ReadError.TheVariants as read
use Rattle.pg_codec.specs.Reading.{Field, ◌>>=◌, followed_by, seen_as, checked, bytes_at, behind, end_of, number_at}
use Rattle.pg_codec.specs.Laws.{AreBytes, HasWidth, IsField}
use Rattle.pg_codec.specs.Spelling.{number_bytes}
use Rattle.pg_codec.proofs.Numbers.{HasLength, bytes_field}
use Rattle.pg_packet_fields.specs.Faults.{of_packet, with_fault}
use Rattle.pg_packet_fields.specs.declared.error.PacketError.{PacketError}
use Rattle.pg_packet_fields.specs.declared.error.PacketError.TheVariants.{Short}
use Rattle.pg_packet_fields.proofs.Joining.{packet_is}
use Rattle.pg_packet_fields.proofs.Plain.{byte_is, narrow_is, short_is, wide_is}
use Rattle.law_packets.proofs.Sure.{IsRelation, IsSure, empty_sure, starts_sure}
use Rattle.law_packets.proofs.Telling.{IsTold, Starts, Stops, bytes_join, err_is, no_error, pair, same_told, seen_step, seen_told, took_field, value_step}

abbrev pub Nothing : List ℕ → Type 0
Nothing b = b ≡ []

-- ---- bytes

pub bytes_lack : (n : ℕ) (from : Unread) → length from.rest < n → (x : List ℕ × Unread) → of_packet (bytes_at n) from ≡ Ok x → ⊥
bytes_lack n from few x e =
    let test : ltb (length from.rest) n ≡ true = lt-ltb _ _ few in
    let short : of_packet (bytes_at n) from ≡ Err (Short (end_of from)) = rw test refl in
    no_error x (Short (end_of from)) (sym e ∙ short)

bytes_case : (t : Bool) (n : ℕ) (from : Unread) (e : PacketError) → ltb (length from.rest) n ≡ t
    → with_fault {X = List ℕ × Unread} (cond t (Err (read.Short (end_of from))) (Ok (take n from.rest, behind n from))) ≡ Err e → (e ≡ Short (end_of from)) × (length from.rest < n)
bytes_case true n from e test k = (sym (err_is (List ℕ × Unread) (Short (end_of from)) e k), ltb-true _ _ test)
bytes_case false n from e test k = absurd (no_error (take n from.rest, behind n from) e k)

pub bytes_only : (n : ℕ) (from : Unread) (e : PacketError) → of_packet (bytes_at n) from ≡ Err e → (e ≡ Short (end_of from)) × (length from.rest < n)
bytes_only n from e k = bytes_case (ltb (length from.rest) n) n from e refl k

abbrev itself : List ℕ → List ℕ
itself bytes = bytes

bytes_is : (n : ℕ) → IsField (HasLength n) itself (of_packet (bytes_at n))
bytes_is n = packet_is (HasLength n) itself (bytes_at n) (bytes_field n)

-- the bytes that are there taken for a field that is not whole
pub bytes_told : (n : ℕ) → IsTold Nothing (of_packet (bytes_at n))
bytes_told n = record {
  takes = took_field (HasLength n) itself (of_packet (bytes_at n)) (bytes_is n);
  stops = λ from e bytes k.
      let only = bytes_only n from e k in
      let s : Stops Nothing (of_packet (bytes_at n)) from (Short (end_of from)) = record {
        before = [];
        field = from.rest;
        rest = [];
        size = n;
        parts = sym (append-nil from.rest);
        told = (refl, (refl, only.1));
        reached = refl;
        refused = λ more few x j. bytes_lack n (record { place = from.place; rest = more }) few x j;
      } in
      subst (λ (d : PacketError). Stops Nothing (of_packet (bytes_at n)) from d) (sym only.0) s;
}

-- so many of one byte
abbrev pub row_of : ℕ → ℕ → List ℕ
row_of byte zero = []
row_of byte (suc n) = byte ∷ row_of byte n

pub row_bytes : (byte n : ℕ) → byte < 256 → AreBytes (row_of byte n)
row_bytes byte zero small i = omega arith
row_bytes byte (suc n) small zero = small
row_bytes byte (suc n) small (suc i) = row_bytes byte n small i

pub row_long : (byte n : ℕ) → length (row_of byte n) ≡ n
row_long byte zero = refl
row_long byte (suc n) = ap suc (row_long byte n)

-- the bytes that are there begin a field of so many
pub bytes_start : (n : ℕ) (b : List ℕ) → AreBytes b → length b ≤ n → Starts (of_packet (bytes_at n)) b
bytes_start n b width few =
    let more = row_of 0 (n - length b) in
    let long : length (b ++ more) ≡ n = omega (arith, length-append b more, row_long 0 (n - length b), few) in
    let all = bytes_join b more width (row_bytes 0 (n - length b) (omega arith)) in
    let fits : HasLength n (b ++ more) = record { length = long; width = all } in
    record { value = b ++ more; more = more; width = all; reads = λ place rest. (bytes_is n).again (b ++ more) place rest fits }

pub bytes_begun : (n : ℕ) → IsTold (Starts (of_packet (bytes_at n))) (of_packet (bytes_at n))
bytes_begun n = record {
  takes = took_field (HasLength n) itself (of_packet (bytes_at n)) (bytes_is n);
  stops = λ from e bytes k.
      let only = bytes_only n from e k in
      let few = only.1 in
      let s : Stops (Starts (of_packet (bytes_at n))) (of_packet (bytes_at n)) from (Short (end_of from)) = record {
        before = from.rest;
        field = [];
        rest = [];
        size = n - length from.rest;
        parts = sym (append-nil from.rest);
        told = (refl, (refl, omega (arith, few)));
        reached = bytes_start n from.rest bytes (omega (arith, few));
        refused = λ more less x j. bytes_lack n (record { place = from.place; rest = from.rest ++ more }) (omega (arith, less, few, length-append from.rest more)) x j;
      } in
      subst (λ (d : PacketError). Stops (Starts (of_packet (bytes_at n))) (of_packet (bytes_at n)) from d) (sym only.0) s;
}

pub bytes_sure : {R : List ℕ → List ℕ → Type 0} → IsRelation R → (n : ℕ) → IsSure R (of_packet (bytes_at n))
bytes_sure rel n = starts_sure rel (bytes_begun n) (bytes_start n [] (λ i. omega arith) (omega arith))

-- ---- fields with the faults of packets

seen_case : {A B : Type 0} (view : A → B) (r : Result (A × Unread) ReadError) → with_fault (r >>= seen_step ReadError view) ≡ (with_fault r >>= seen_step PacketError view)
seen_case view (Ok x) = refl
seen_case view (Err e) = refl

pub of_seen : {A B : Type 0} (view : A → B) (field : Field ReadError A) (from : Unread) → of_packet (seen_as view field) from ≡ seen_as view (of_packet field) from
of_seen view field from = seen_case view (field from)

followed_case : {A B : Type 0} (r : Result (A × Unread) ReadError) (second : A → Field ReadError B)
    → with_fault (r >>= λ a. (second a.0 a.1 >>= seen_step ReadError (pair a.0))) ≡ (with_fault r >>= λ a. (with_fault (second a.0 a.1) >>= seen_step PacketError (pair a.0)))
followed_case (Ok x) second = seen_case (pair x.0) (second x.0 x.1)
followed_case (Err e) second = refl

pub of_followed : {A B : Type 0} (first : Field ReadError A) (second : A → Field ReadError B) (from : Unread)
    → of_packet (followed_by first second) from ≡ followed_by (of_packet first) (λ a. of_packet (second a)) from
of_followed first second from = followed_case (first from) second

value_case : {B : Type 0} (r : Result B ReadError) (rest : Unread) → with_fault (r >>= value_step ReadError rest) ≡ (with_fault r >>= value_step PacketError rest)
value_case (Ok b) rest = refl
value_case (Err e) rest = refl

checked_case : {A B : Type 0} (check : ℕ → A → Result B ReadError) (place : ℕ) (r : Result (A × Unread) ReadError)
    → with_fault (r >>= λ a. (check place a.0 >>= value_step ReadError a.1)) ≡ (with_fault r >>= λ a. (with_fault (check place a.0) >>= value_step PacketError a.1))
checked_case check place (Ok x) = value_case (check place x.0) x.1
checked_case check place (Err e) = refl

pub of_checked : {A B : Type 0} (check : ℕ → A → Result B ReadError) (field : Field ReadError A) (from : Unread)
    → of_packet (checked check field) from ≡ checked (λ place a. with_fault (check place a)) (of_packet field) from
of_checked check field from = checked_case check from.place (field from)

-- ---- numbers

pub number_told : (width : ℕ) → IsTold Nothing (of_packet (number_at width))
unfolding number_at
number_told width = same_told Nothing (seen_as (big_number width) (of_packet (bytes_at width))) (of_packet (number_at width))
    (of_seen (big_number width) (bytes_at width)) (seen_told Nothing (big_number width) (of_packet (bytes_at width)) (bytes_told width))

digit_below : (k x : ℕ) → byte_at k x < 256
digit_below zero x = mod-lt x (omega arith)
digit_below (suc k) x = mod-lt (x / 256 ^ suc k) (omega arith)

digits_below : (n x : ℕ) → AreBytes (bytes_high_first n x)
digits_below zero x i = omega arith
digits_below (suc n) x zero = digit_below n x
digits_below (suc n) x (suc i) = digits_below n x i

pub number_width : (width n : ℕ) → AreBytes (number_bytes width n)
unfolding number_bytes
number_width width n = digits_below width n

pub number_start : (width n : ℕ) → IsField (HasWidth width) (number_bytes width) (of_packet (number_at width)) → HasWidth width n → Starts (of_packet (number_at width)) []
number_start width n field fits = record { value = n; more = number_bytes width n; width = number_width width n; reads = λ place rest. field.again n place rest fits }

pub number_sure : {R : List ℕ → List ℕ → Type 0} → IsRelation R → (width : ℕ) → 0 < 256 ^ width → IsField (HasWidth width) (number_bytes width) (of_packet (number_at width)) → IsSure R (of_packet (number_at width))
number_sure rel width some field = empty_sure rel (number_told width) (number_start width 0 field some)

pub byte_sure : {R : List ℕ → List ℕ → Type 0} → IsRelation R → IsSure R (of_packet (number_at 1))
byte_sure rel = number_sure rel 1 (omega arith) byte_is

pub short_sure : {R : List ℕ → List ℕ → Type 0} → IsRelation R → IsSure R (of_packet (number_at 2))
short_sure rel = number_sure rel 2 (omega arith) short_is

pub narrow_sure : {R : List ℕ → List ℕ → Type 0} → IsRelation R → IsSure R (of_packet (number_at 4))
narrow_sure rel = number_sure rel 4 (omega arith) narrow_is

pub wide_sure : {R : List ℕ → List ℕ → Type 0} → IsRelation R → IsSure R (of_packet (number_at 8))
wide_sure rel = number_sure rel 8 (omega arith) wide_is
