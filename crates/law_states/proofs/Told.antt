-- Readers of states that tell where they fail, wherever they have come: the ways in which fields are joined.
use Rattle.std.proofs.Common.{◌≡◌, ℕ, zero, suc, ◌<◌, Bool, List, [], ◌∷◌, ◌++◌, Ok, sym}
use Rattle.std.specs.Prelude.{nat_le}
use Rattle.pg_codec.specs.Reading.{Field, checked, file_at, followed_by, kind_at, number_at, seen_as, stamp_at}
use Rattle.pg_codec.specs.Unread.{Unread}
use Rattle.pg_packet_fields.specs.Faults.{of_packet}
use Rattle.pg_packet_fields.specs.Lists.{count_of, list_at, many}
use Rattle.pg_packet_fields.specs.Reading.{key_at, policy_at, server_at}
use Rattle.pg_packet_fields.specs.declared.error.PacketError.{PacketError}
use Rattle.pg_state_fields.specs.Orders.{counted_list_at, tested_of}
use Rattle.law_packets.proofs.Atoms.{number_told}
use Rattle.law_packets.proofs.Checks.{checked_told, most_check, test_check}
use Rattle.law_packets.proofs.Opened.{SameBut}
use Rattle.law_packets.proofs.Plain.{checked_number, number_wants}
use Rattle.law_packets.proofs.Sure.{IsSure, alone_told}
use Rattle.law_packets.proofs.Telling.{IsTold, bound_told, no_error, other_reached, pair, seen_told}

abbrev pub Anywhere : List ℕ → Type 0
Anywhere bytes = Unit {0}

abbrev pub Told : {X : Type 0} → Field PacketError X → Type 0
Told read = IsTold Anywhere read

-- it takes a byte
abbrev pub Wants : {X : Type 0} → Field PacketError X → Type 0
Wants {X = X} read = (place : ℕ) (x : X × Unread) → read (record { place = place; rest = [] }) ≡ Ok x → ⊥

pub any : {X : Type 0} {P : List ℕ → Type 0} {read : Field PacketError X} → IsTold P read → Told read
any {P = P} {read = read} told = other_reached P Anywhere read told (λ b width p. tt)

pub sure : {X : Type 0} {read : Field PacketError X} → IsSure SameBut read → Told read
sure s = any s.told

-- ---- joined

pub seen : {A B : Type 0} {read : Field PacketError A} (view : A → B) → Told read → Told (seen_as view read)
seen {read = read} view told = seen_told Anywhere view read told

pub followed : {A B : Type 0} {first : Field PacketError A} {second : A → Field PacketError B} → Told first → ((a : A) → Told (second a)) → Told (followed_by first second)
followed {A = A} {B = B} {first = first} {second = second} one two =
    bound_told Anywhere Anywhere (λ (a : A). Anywhere) first (λ a. seen_as (pair a) (second a)) one (λ a. seen_told Anywhere (pair a) (second a) (two a))
    (λ b width p. tt) (λ a text b width reads p. tt)

pub and_then : {A B : Type 0} {first : Field PacketError A} {second : Field PacketError B} → Told first → Told second → Told (followed_by first (λ a. second))
and_then one two = followed one (λ a. two)

pub tested : {X : Type 0} {read : Field PacketError X} → Wants read → Told read → (test : X → Bool) → Told (checked (tested_of test) read)
tested {read = read} wants told test = checked_told Anywhere (tested_of test) read (test_check test) tt wants told

-- ---- numbers and lists

pub number : (width : ℕ) → Told (of_packet (number_at width))
number width = any (number_told width)

pub tested_number : (width : ℕ) → 0 < width → (test : ℕ → Bool) → Told (checked (tested_of test) (of_packet (number_at width)))
tested_number width some test = tested (number_wants width some) (number width) test

pub count : (width most : ℕ) → 0 < width → Told (checked (count_of most) (of_packet (number_at width)))
count width most some = any (checked_number width (count_of most) some (most_check (λ n. nat_le n most)))

rows : {X S : Type 0} (item : S → Field PacketError X) (next : S → X → S) → ((state : S) → Told (item state)) → (n : ℕ) (state : S) (done : List X)
    → Told (many item next n state done)
unfolding many
rows item next told zero state done = alone_told Anywhere done
rows {X = X} item next told (suc n) state done =
    bound_told Anywhere Anywhere (λ (x : X). Anywhere) (item state) (λ x. many item next n (next state x) (done ++ x ∷ []))
    (told state) (λ x. rows item next told n (next state x) (done ++ x ∷ []))
    (λ b width p. tt) (λ x text b width reads p. tt)

pub counted_list : {X S : Type 0} (size : ℕ) (item : S → Field PacketError X) (next : S → X → S) (start : S) → ((state : S) → Told (item state))
    → Told (counted_list_at size item next start)
counted_list size item next start told = seen _ (followed (number size) (λ n. rows item next told n start []))

pub short_list : {X S : Type 0} (size most : ℕ) (item : S → Field PacketError X) (next : S → X → S) (start : S) → 0 < size → ((state : S) → Told (item state))
    → Told (list_at size most item next start)
short_list size most item next start some told = seen _ (followed (count size most some) (λ n. rows item next told n start []))

-- ---- what takes a byte

pub file_wants : Wants (of_packet file_at)
unfolding file_at kind_at number_at
file_wants place x k = no_error x _ (sym k)

pub stamp_wants : Wants (of_packet stamp_at)
unfolding stamp_at number_at
stamp_wants place x k = no_error x _ (sym k)

pub server_wants : Wants server_at
unfolding server_at number_at
server_wants place x k = no_error x _ (sym k)

pub policy_wants : Wants policy_at
unfolding policy_at number_at
policy_wants place x k = no_error x _ (sym k)

pub key_wants : Wants key_at
unfolding key_at number_at
key_wants place x k = no_error x _ (sym k)
