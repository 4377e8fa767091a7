-- Numbers that are checked, ids, stamps, edges, keys and texts.
use Rattle.std.proofs.Common.{◌≡◌, ℕ, zero, suc, ◌^◌, ◌<◌, ◌⊎◌, inl, Bool, true, false, cond, eqb, List, [], Result, Ok, Err, refl, sym, ◌∙◌, arith}
use Rattle.std.specs.Prelude.{nat_le, ◌&&◌, ◌==◌}
use Rattle.std.proofs.lemmas.Bool.{le-leb}
use Rattle.byteorder.specs.Endian.{big_number}
use Rattle.pg_base.specs.declared.id.FileId.{FileId}
use Rattle.pg_base.specs.declared.id.Kind.{Kind}
use Rattle.pg_base.specs.declared.id.Kind.TheVariants.{Dir, File}
use Rattle.pg_base.specs.declared.policy.Policy.{Policy}
use Rattle.pg_base.specs.declared.policy.Policy.TheVariants.{Last, Join}
use Rattle.pg_base.specs.declared.stamp.Stamp.{Stamp}
use Rattle.pg_codec.specs.Unread.{Unread}
use Rattle.pg_codec.specs.declared.error.ReadError.{ReadError}
use Rattle.pg_codec.specs.declared.error.ReadError.TheVariants as read
use Rattle.pg_codec.specs.Reading.{Field, ◌>>=◌, followed_by, seen_as, checked, bytes_at, file_at, flag_at, flag_of, kind_at, kind_of, number_at, stamp_at}
use Rattle.pg_codec.specs.Laws.{HasWidth, IsField}
use Rattle.pg_codec.specs.Spelling.{number_bytes}
use Rattle.pg_codec.proofs.Binding.{bind_ok}
use Rattle.pg_edges.specs.declared.key.Key.{Key}
use Rattle.pg_edges.specs.declared.key.Key.TheVariants as key
use Rattle.pg_msg.specs.declared.message.Ask.{Ask}
use Rattle.pg_msg.specs.declared.message.Ask.TheVariants as ask
use Rattle.pg_packet_fields.specs.Faults.{of_packet, with_fault}
use Rattle.pg_packet_fields.specs.Lists.{count_of}
use Rattle.pg_packet_fields.specs.Reading.{ask_at, ask_of, dir_at, dir_of, ends_at, key_at, key_of, policy_at, policy_of, server_at, server_of, text_at}
use Rattle.pg_packet_fields.specs.declared.error.PacketError.{PacketError}
use Rattle.pg_packet_fields.specs.declared.error.PacketError.TheVariants.{BadTag, TooLong}
use Rattle.pg_packet_fields.proofs.Plain.{byte_is, narrow_is}
use Rattle.law_packets.proofs.Atoms.{Nothing, bytes_lack, bytes_sure, narrow_sure, number_told, number_width, of_checked, of_followed, of_seen, short_sure, wide_sure}
use Rattle.law_packets.proofs.Checks.{IsCheck, checked_told, most_check, test_check}
use Rattle.law_packets.proofs.Sure.{IsRelation, IsSure, bound_sure, empty_sure, followed_sure, nothing_sure, same_sure, seen_sure, then_sure}
use Rattle.law_packets.proofs.Telling.{IsTold, Reads, Starts, bound, err_is, failed, no_error, value_step}

-- ---- numbers that are checked

pub number_wants : (width : ℕ) → 0 < width → (place : ℕ) (x : ℕ × Unread) → of_packet (number_at width) (record { place = place; rest = [] }) ≡ Ok x → ⊥
unfolding number_at
number_wants width some place x k =
    let from : Unread = record { place = place; rest = [] } in
    let seen : seen_as (big_number width) (of_packet (bytes_at width)) from ≡ Ok x = sym (of_seen (big_number width) (bytes_at width) from) ∙ k in
    let a = bind_ok (of_packet (bytes_at width) from) (λ a. Ok (big_number width a.0, a.1)) x seen in
    bytes_lack width from some a.0 a.1

pub checked_number : {B : Type 0} (width : ℕ) (check : ℕ → ℕ → Result B PacketError) → 0 < width → IsCheck check → IsTold Nothing (checked check (of_packet (number_at width)))
checked_number width check some is = checked_told Nothing check (of_packet (number_at width)) is refl (number_wants width some) (number_told width)

-- one number that passes
pub checked_some : {B : Type 0} (width : ℕ) (check : ℕ → ℕ → Result B PacketError) → IsField (HasWidth width) (number_bytes width) (of_packet (number_at width))
    → (n : ℕ) (b : B) → HasWidth width n → ((place : ℕ) → check place n ≡ Ok b) → Starts (checked check (of_packet (number_at width))) []
checked_some {B = B} width check field n b fits good =
    let read : Field PacketError B = checked check (of_packet (number_at width)) in
    let text = number_bytes width n in
    let reads : Reads read text b = λ place rest. rw (field.again n place rest fits) (rw (good place) refl) in
    record { value = b; more = text; width = number_width width n; reads = reads }

pub check_sure : {B : Type 0} {R : List ℕ → List ℕ → Type 0} → IsRelation R → (width : ℕ) (check : ℕ → ℕ → Result B PacketError) → 0 < width → IsField (HasWidth width) (number_bytes width) (of_packet (number_at width))
    → IsCheck check → (n : ℕ) (b : B) → HasWidth width n → ((place : ℕ) → check place n ≡ Ok b) → IsSure R (checked check (of_packet (number_at width)))
check_sure rel width check some field is n b fits good = empty_sure rel (checked_number width check some is) (checked_some width check field n b fits good)

pub count_sure : {R : List ℕ → List ℕ → Type 0} → IsRelation R → (width most : ℕ) → 0 < width → 0 < 256 ^ width → IsField (HasWidth width) (number_bytes width) (of_packet (number_at width))
    → IsSure R (checked (count_of most) (of_packet (number_at width)))
count_sure rel width most some wide field =
    let few : nat_le 0 most ≡ true = le-leb 0 most (omega arith) in
    check_sure rel width (count_of most) some field (most_check (λ n. nat_le n most)) 0 0 wide (λ place. rw few refl)

pub server_sure : {R : List ℕ → List ℕ → Type 0} → IsRelation R → IsSure R server_at
unfolding server_at
server_sure rel = check_sure rel 4 server_of (omega arith) narrow_is (test_check (λ n. nat_le 1 n && nat_le n 64)) 1 1 (omega arith) (λ place. refl)

abbrev PlaceFault : ℕ → PacketError → Type 0
PlaceFault place e = (e ≡ BadTag place) ⊎ (e ≡ TooLong place)

tag_fault : (A : Type 0) (place : ℕ) (e : PacketError) → failed A (BadTag place) ≡ Err e → PlaceFault place e
tag_fault A place e k = inl (sym (err_is A (BadTag place) e k))

policy_fault : (place n : ℕ) (e : PacketError) → policy_of place n ≡ Err e → PlaceFault place e
policy_fault place zero e k = tag_fault Policy place e k
policy_fault place (suc zero) e k = absurd (no_error Last e k)
policy_fault place (suc (suc zero)) e k = absurd (no_error Join e k)
policy_fault place (suc (suc (suc n))) e k = tag_fault Policy place e k

policy_steady : (p q n : ℕ) (b : Policy) → policy_of p n ≡ Ok b → policy_of q n ≡ Ok b
policy_steady p q zero b k = absurd (no_error b (BadTag p) (sym k))
policy_steady p q (suc zero) b k = k
policy_steady p q (suc (suc zero)) b k = k
policy_steady p q (suc (suc (suc n))) b k = absurd (no_error b (BadTag p) (sym k))

policy_check : IsCheck policy_of
policy_check = record { fault = policy_fault; steady = policy_steady }

pub policy_sure : {R : List ℕ → List ℕ → Type 0} → IsRelation R → IsSure R policy_at
unfolding policy_at
policy_sure rel = check_sure rel 1 policy_of (omega arith) byte_is policy_check 1 Last (omega arith) (λ place. refl)

ask_fault : (place n : ℕ) (e : PacketError) → ask_of place n ≡ Err e → PlaceFault place e
ask_fault place zero e k = tag_fault Ask place e k
ask_fault place (suc zero) e k = absurd (no_error ask.Seek e k)
ask_fault place (suc (suc zero)) e k = absurd (no_error ask.Confirm e k)
ask_fault place (suc (suc (suc zero))) e k = absurd (no_error ask.Patch e k)
ask_fault place (suc (suc (suc (suc n)))) e k = tag_fault Ask place e k

ask_steady : (p q n : ℕ) (b : Ask) → ask_of p n ≡ Ok b → ask_of q n ≡ Ok b
ask_steady p q zero b k = absurd (no_error b (BadTag p) (sym k))
ask_steady p q (suc zero) b k = k
ask_steady p q (suc (suc zero)) b k = k
ask_steady p q (suc (suc (suc zero))) b k = k
ask_steady p q (suc (suc (suc (suc n)))) b k = absurd (no_error b (BadTag p) (sym k))

ask_check : IsCheck ask_of
ask_check = record { fault = ask_fault; steady = ask_steady }

pub ask_sure : {R : List ℕ → List ℕ → Type 0} → IsRelation R → IsSure R ask_at
unfolding ask_at
ask_sure rel = check_sure rel 1 ask_of (omega arith) byte_is ask_check 1 ask.Seek (omega arith) (λ place. refl)

-- ---- fields of bytes anywhere, with the faults of packets

packet_seen : {A B : Type 0} {R : List ℕ → List ℕ → Type 0} (view : A → B) (field : Field ReadError A) → IsSure R (of_packet field) → IsSure R (of_packet (seen_as view field))
packet_seen view field sure = same_sure (seen_as view (of_packet field)) (of_packet (seen_as view field)) (of_seen view field) (seen_sure view sure)

packet_then : {A B : Type 0} {R : List ℕ → List ℕ → Type 0} (first : Field ReadError A) (second : Field ReadError B) → IsRelation R → IsSure R (of_packet first) → IsSure R (of_packet second)
    → IsSure R (of_packet (followed_by first (λ a. second)))
packet_then first second rel one two =
    same_sure (followed_by (of_packet first) (λ a. of_packet second)) (of_packet (followed_by first (λ a. second))) (of_followed first (λ a. second)) (then_sure rel one two)

flag_fault : (place n : ℕ) (e : PacketError) → with_fault (flag_of place n) ≡ Err e → PlaceFault place e
flag_fault place zero e k = absurd (no_error false e k)
flag_fault place (suc zero) e k = absurd (no_error true e k)
flag_fault place (suc (suc n)) e k = tag_fault Bool place e k

flag_steady : (p q n : ℕ) (b : Bool) → with_fault (flag_of p n) ≡ Ok b → with_fault (flag_of q n) ≡ Ok b
flag_steady p q zero b k = k
flag_steady p q (suc zero) b k = k
flag_steady p q (suc (suc n)) b k = absurd (no_error b (BadTag p) (sym k))

flag_check : IsCheck (λ place n. with_fault (flag_of place n))
flag_check = record { fault = flag_fault; steady = flag_steady }

pub flag_sure : {R : List ℕ → List ℕ → Type 0} → IsRelation R → IsSure R (of_packet flag_at)
unfolding flag_at
flag_sure rel = same_sure (checked (λ place n. with_fault (flag_of place n)) (of_packet (number_at 1))) (of_packet flag_at) (of_checked flag_of (number_at 1))
    (check_sure rel 1 (λ place n. with_fault (flag_of place n)) (omega arith) byte_is flag_check 0 false (omega arith) (λ place. refl))

abbrev by_tests : Bool → Bool → ℕ → Result Kind ReadError
by_tests t u place = cond t (Ok Dir) (cond u (Ok File) (Err (read.BadTag place)))

kind_fault : (t u : Bool) (place : ℕ) (e : PacketError) → with_fault (by_tests t u place) ≡ Err e → PlaceFault place e
kind_fault true u place e k = absurd (no_error Dir e k)
kind_fault false true place e k = absurd (no_error File e k)
kind_fault false false place e k = tag_fault Kind place e k

kind_steady : (t u : Bool) (p q : ℕ) (b : Kind) → with_fault (by_tests t u p) ≡ Ok b → with_fault (by_tests t u q) ≡ Ok b
kind_steady true u p q b k = k
kind_steady false true p q b k = k
kind_steady false false p q b k = absurd (no_error b (BadTag p) (sym k))

kind_check : IsCheck (λ place n. with_fault (kind_of place n))
kind_check = record { fault = λ place n e k. kind_fault (eqb n 100) (eqb n 102) place e k; steady = λ p q n b k. kind_steady (eqb n 100) (eqb n 102) p q b k }

kind_sure : {R : List ℕ → List ℕ → Type 0} → IsRelation R → IsSure R (of_packet kind_at)
unfolding kind_at
kind_sure rel = same_sure (checked (λ place n. with_fault (kind_of place n)) (of_packet (number_at 1))) (of_packet kind_at) (of_checked kind_of (number_at 1))
    (check_sure rel 1 (λ place n. with_fault (kind_of place n)) (omega arith) byte_is kind_check 100 Dir (omega arith) (λ place. refl))

abbrev file_view : Kind × (ℕ × ℕ) → FileId
file_view x = record { kind = x.0; server = x.1.0; number = x.1.1 }

pub file_sure : {R : List ℕ → List ℕ → Type 0} → IsRelation R → IsSure R (of_packet file_at)
unfolding file_at
file_sure rel = packet_seen file_view (followed_by kind_at (λ kind. followed_by (number_at 4) (λ server. number_at 8)))
    (packet_then kind_at (followed_by (number_at 4) (λ server. number_at 8)) rel (kind_sure rel) (packet_then (number_at 4) (number_at 8) rel (narrow_sure rel) (wide_sure rel)))

abbrev stamp_view : ℕ × ℕ → Stamp
stamp_view x = record { time = x.0; server = x.1 }

pub stamp_sure : {R : List ℕ → List ℕ → Type 0} → IsRelation R → IsSure R (of_packet stamp_at)
unfolding stamp_at
stamp_sure rel = packet_seen stamp_view (followed_by (number_at 8) (λ time. number_at 4)) (packet_then (number_at 8) (number_at 4) rel (wide_sure rel) (narrow_sure rel))

-- ---- directories, edges, texts

pub dir_sure : {R : List ℕ → List ℕ → Type 0} → IsRelation R → IsSure R dir_at
unfolding dir_at
dir_sure rel = seen_sure _ (then_sure rel (check_sure rel 1 dir_of (omega arith) byte_is (test_check (λ n. n == 100)) 100 100 (omega arith) (λ place. refl)) (then_sure rel (narrow_sure rel) (wide_sure rel)))

pub ends_sure : {R : List ℕ → List ℕ → Type 0} → IsRelation R → IsSure R ends_at
unfolding ends_at
ends_sure rel = seen_sure _ (then_sure rel (file_sure rel) (then_sure rel (wide_sure rel) (wide_sure rel)))

pub text_sure : {R : List ℕ → List ℕ → Type 0} → IsRelation R → IsSure R text_at
unfolding text_at
text_sure rel = seen_sure _ (followed_sure rel (short_sure rel) (λ n. bytes_sure rel n))

-- ---- keys

-- the kind, and what stands behind it
abbrev kind_number : ℕ → ℕ → Result ℕ PacketError
kind_number place (suc zero) = Ok 1
kind_number place (suc (suc zero)) = Ok 2
kind_number place (suc (suc (suc zero))) = Ok 3
kind_number place (suc (suc (suc (suc zero)))) = Ok 4
kind_number place n = Err (BadTag place)

kind_number_fault : (place n : ℕ) (e : PacketError) → kind_number place n ≡ Err e → PlaceFault place e
kind_number_fault place zero e k = tag_fault ℕ place e k
kind_number_fault place (suc zero) e k = absurd (no_error 1 e k)
kind_number_fault place (suc (suc zero)) e k = absurd (no_error 2 e k)
kind_number_fault place (suc (suc (suc zero))) e k = absurd (no_error 3 e k)
kind_number_fault place (suc (suc (suc (suc zero)))) e k = absurd (no_error 4 e k)
kind_number_fault place (suc (suc (suc (suc (suc n))))) e k = tag_fault ℕ place e k

kind_number_steady : (p q n b : ℕ) → kind_number p n ≡ Ok b → kind_number q n ≡ Ok b
kind_number_steady p q zero b k = absurd (no_error b (BadTag p) (sym k))
kind_number_steady p q (suc zero) b k = k
kind_number_steady p q (suc (suc zero)) b k = k
kind_number_steady p q (suc (suc (suc zero))) b k = k
kind_number_steady p q (suc (suc (suc (suc zero)))) b k = k
kind_number_steady p q (suc (suc (suc (suc (suc n))))) b k = absurd (no_error b (BadTag p) (sym k))

kind_number_check : IsCheck kind_number
kind_number_check = record { fault = kind_number_fault; steady = kind_number_steady }

-- what a reader by kinds 1 to 4 does, whose fault is at the kind
abbrev pub IsByKind : {B : Type 0} → (ℕ → ℕ → Field PacketError B) → (ℕ → Field PacketError B) → Type 0
IsByKind of by = (place n : ℕ) (to : Unread) → of place n to ≡ ((kind_number place n >>= value_step PacketError to) >>= λ k. by k.0 k.1)

kinds_case : {B : Type 0} (of : ℕ → ℕ → Field PacketError B) (by : ℕ → Field PacketError B) → IsByKind of by → (place : ℕ) (r : Result (ℕ × Unread) PacketError)
    → (r >>= λ k. of place k.0 k.1) ≡ ((r >>= λ a. (kind_number place a.0 >>= value_step PacketError a.1)) >>= λ k. by k.0 k.1)
kinds_case of by one place (Ok x) = one place x.0 x.1
kinds_case of by one place (Err e) = refl

pub kinds_sure : {B : Type 0} {R : List ℕ → List ℕ → Type 0} (of : ℕ → ℕ → Field PacketError B) (by : ℕ → Field PacketError B) → IsRelation R → IsByKind of by
    → ((n : ℕ) → IsSure R (by n)) → IsSure R (λ from. of_packet (number_at 1) from >>= λ k. of from.place k.0 k.1)
kinds_sure {B = B} {R = R} of by rel one each =
    let kind : Field PacketError ℕ = checked kind_number (of_packet (number_at 1)) in
    let whole : Field PacketError B = λ from. of_packet (number_at 1) from >>= λ k. of from.place k.0 k.1 in
    same_sure (bound kind by) whole (λ from. kinds_case of by one from.place (of_packet (number_at 1) from))
    (bound_sure R kind by rel (check_sure rel 1 kind_number (omega arith) byte_is kind_number_check 1 1 (omega arith) (λ place. refl)) each)

abbrev key_by : ℕ → Field PacketError Key
key_by (suc (suc zero)) from = seen_as key.Flag server_at from
key_by (suc (suc (suc zero))) from = seen_as key.Entry (of_packet file_at) from
key_by (suc (suc (suc (suc zero)))) from = seen_as key.Version (of_packet stamp_at) from
key_by n from = Ok (key.Place, from)

key_one : IsByKind key_of key_by
key_one place zero to = refl
key_one place (suc zero) to = refl
key_one place (suc (suc zero)) to = refl
key_one place (suc (suc (suc zero))) to = refl
key_one place (suc (suc (suc (suc zero)))) to = refl
key_one place (suc (suc (suc (suc (suc n))))) to = refl

key_each : {R : List ℕ → List ℕ → Type 0} → IsRelation R → (n : ℕ) → IsSure R (key_by n)
key_each rel zero = nothing_sure key.Place
key_each rel (suc zero) = nothing_sure key.Place
key_each rel (suc (suc zero)) = seen_sure _ (server_sure rel)
key_each rel (suc (suc (suc zero))) = seen_sure _ (file_sure rel)
key_each rel (suc (suc (suc (suc zero)))) = seen_sure _ (stamp_sure rel)
key_each rel (suc (suc (suc (suc (suc n))))) = nothing_sure key.Place

pub key_sure : {R : List ℕ → List ℕ → Type 0} → IsRelation R → IsSure R key_at
unfolding key_at
key_sure rel = kinds_sure key_of key_by rel key_one (key_each rel)
