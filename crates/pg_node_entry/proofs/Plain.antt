-- Entries that carry no packet are a field, kind by kind.
use Rattle.std.proofs.Common.{◌≡◌, ℕ, zero, suc, List, [], ◌++◌, Ok, refl, sym, arith}
use Rattle.std.proofs.lemmas.List.{append-nil}
use Rattle.pg_call.specs.declared.call.Call.{Call}
use Rattle.pg_codec.specs.Laws.{Any, HasWidth, IsField}
use Rattle.pg_codec.specs.Reading.{number_at}
use Rattle.pg_codec.specs.Spelling.{number_bytes}
use Rattle.pg_codec.proofs.Binding.{checked_is, ok_is}
use Rattle.pg_node_entry.specs.Entries.{IsWholeEntry, entry_bytes}
use Rattle.pg_node_entry.specs.Reading.{call_of, entry_at, fields_at, kind_at, kind_of, noted_call_at}
use Rattle.pg_node_entry.specs.declared.entry.NodeEntry.{NodeEntry}
use Rattle.pg_node_entry.specs.declared.entry.NodeEntry.TheVariants as entry
use Rattle.pg_node_entry.specs.declared.reading.EntryKind.{EntryKind}
use Rattle.pg_node_entry.specs.declared.reading.EntryKind.TheVariants as kind
use Rattle.pg_packet_fields.specs.Faults.{of_packet}
use Rattle.pg_packet_fields.specs.declared.error.PacketError.{PacketError}
use Rattle.pg_packet_fields.proofs.Joining.{chosen_is, nothing_is, then_is, view_is}
use Rattle.pg_packet_fields.proofs.Plain.{byte_is, narrow_is, wide_is}
use Rattle.pg_packet_read.specs.Calls.{IsWholeCall, IsWholeRequest, request_at}
use Rattle.pg_packet_read.proofs.AskedKinds.{request_field}
use Rattle.pg_packet_write.specs.Calls.{call_bytes}
use Rattle.pg_packet_write.specs.Datagrams.{request_bytes}
use Rattle.pg_packet_write.specs.declared.datagram.Request.{Request}
use Rattle.pg_packet_write.specs.declared.datagram.Request.TheVariants as request

-- ---- numbers

abbrev kind_number : EntryKind → ℕ
kind_number kind.Call = 1
kind_number kind.Tick = 2
kind_number kind.Restart = 4
kind_number kind.First = 5

abbrev kind_bytes : EntryKind → List ℕ
kind_bytes k = number_bytes 1 (kind_number k)

kind_is : (x k : EntryKind) (n : ℕ) → n ≡ kind_number x → x ≡ k → kind_bytes k ≡ number_bytes 1 n
kind_is x k n at same = rw (at, sym same) refl

kind_to : (place n : ℕ) (k : EntryKind) → kind_of place n ≡ Ok k → kind_bytes k ≡ number_bytes 1 n
kind_to place zero k e = absurd cc
kind_to place (suc zero) k e = kind_is kind.Call k 1 refl (ok_is PacketError kind.Call k e)
kind_to place (suc (suc zero)) k e = kind_is kind.Tick k 2 refl (ok_is PacketError kind.Tick k e)
kind_to place (suc (suc (suc zero))) k e = absurd cc
kind_to place (suc (suc (suc (suc zero)))) k e = kind_is kind.Restart k 4 refl (ok_is PacketError kind.Restart k e)
kind_to place (suc (suc (suc (suc (suc zero))))) k e = kind_is kind.First k 5 refl (ok_is PacketError kind.First k e)
kind_to place (suc (suc (suc (suc (suc (suc n)))))) k e = absurd cc

kind_back : (k : EntryKind) → (n : ℕ) × HasWidth 1 n × ((place : ℕ) → kind_of place n ≡ Ok k)
kind_back kind.Call = (1, omega arith, λ place. refl)
kind_back kind.Tick = (2, omega arith, λ place. refl)
kind_back kind.Restart = (4, omega arith, λ place. refl)
kind_back kind.First = (5, omega arith, λ place. refl)

pub kind_field : IsField Any kind_bytes kind_at
unfolding kind_at
kind_field = checked_is kind_of (HasWidth 1) (number_bytes 1) (of_packet (number_at 1)) Any kind_bytes
    (λ place n k fits e. (tt, kind_to place n k e)) (λ k fits. kind_back k) byte_is

-- ---- calls that are no ticks

call_to : (place : ℕ) (a : Request) (b : Call) → IsWholeRequest a → call_of place a ≡ Ok b → IsWholeCall b × (call_bytes b ≡ request_bytes a)
unfolding request_bytes
call_to place (request.Call c) b fits e = let same : c ≡ b = ok_is PacketError c b e in rw (← same) (fits, refl)
call_to place request.Tick b fits e = absurd cc

noted_call_field : IsField IsWholeCall call_bytes noted_call_at
unfolding noted_call_at
noted_call_field = checked_is call_of IsWholeRequest request_bytes request_at IsWholeCall call_bytes call_to (λ b fits. (request.Call b, fits, λ place. refl)) request_field

-- ---- what stands behind the number

-- what carries no packet, and can be read
abbrev pub IsPlain : NodeEntry → Type 0
IsPlain (entry.Arrival packet) = ⊥
IsPlain e = IsWholeEntry e

-- an arrival has none, and any will do
abbrev kind_in : NodeEntry → EntryKind
kind_in (entry.Call moment call) = kind.Call
kind_in (entry.Tick moment word) = kind.Tick
kind_in (entry.Arrival packet) = kind.Restart
kind_in entry.Restart = kind.Restart
kind_in (entry.First server servers) = kind.First

abbrev behind : NodeEntry → List ℕ
behind (entry.Call moment call) = number_bytes 8 moment ++ call_bytes call
behind (entry.Tick moment word) = number_bytes 8 moment ++ number_bytes 8 word
behind (entry.Arrival packet) = []
behind entry.Restart = []
behind (entry.First server servers) = number_bytes 4 server ++ number_bytes 4 servers

-- the spelling, but of arrivals
abbrev pub plain_bytes : NodeEntry → List ℕ
plain_bytes e = kind_bytes (kind_in e) ++ behind e

pub plain_is : (e : NodeEntry) → IsPlain e → plain_bytes e ≡ entry_bytes e
unfolding entry_bytes
plain_is (entry.Call moment call) fits = refl
plain_is (entry.Tick moment word) fits = refl
plain_is (entry.Arrival packet) fits = absurd fits
plain_is entry.Restart fits = append-nil (number_bytes 1 4)
plain_is (entry.First server servers) fits = refl

abbrev IsOf : EntryKind → NodeEntry → Type 0
IsOf k e = IsPlain e × (kind_in e ≡ k)

abbrev call_view : ℕ × Call → NodeEntry
call_view x = entry.Call x.0 x.1

call_in : (e : NodeEntry) → IsOf kind.Call e → (x : ℕ × Call) × (HasWidth 8 x.0 × IsWholeCall x.1) × (call_view x ≡ e)
call_in (entry.Call moment call) fits = ((moment, call), fits.0, refl)
call_in (entry.Tick moment word) fits = let wrong = fits.1 in absurd cc
call_in (entry.Arrival packet) fits = absurd fits.0
call_in entry.Restart fits = let wrong = fits.1 in absurd cc
call_in (entry.First server servers) fits = let wrong = fits.1 in absurd cc

abbrev tick_view : ℕ × ℕ → NodeEntry
tick_view x = entry.Tick x.0 x.1

tick_in : (e : NodeEntry) → IsOf kind.Tick e → (x : ℕ × ℕ) × (HasWidth 8 x.0 × HasWidth 8 x.1) × (tick_view x ≡ e)
tick_in (entry.Call moment call) fits = let wrong = fits.1 in absurd cc
tick_in (entry.Tick moment word) fits = ((moment, word), fits.0, refl)
tick_in (entry.Arrival packet) fits = absurd fits.0
tick_in entry.Restart fits = let wrong = fits.1 in absurd cc
tick_in (entry.First server servers) fits = let wrong = fits.1 in absurd cc

restart_in : (e : NodeEntry) → IsOf kind.Restart e → entry.Restart ≡ e
restart_in (entry.Call moment call) fits = let wrong = fits.1 in absurd cc
restart_in (entry.Tick moment word) fits = let wrong = fits.1 in absurd cc
restart_in (entry.Arrival packet) fits = absurd fits.0
restart_in entry.Restart fits = refl
restart_in (entry.First server servers) fits = let wrong = fits.1 in absurd cc

abbrev first_view : ℕ × ℕ → NodeEntry
first_view x = entry.First x.0 x.1

first_in : (e : NodeEntry) → IsOf kind.First e → (x : ℕ × ℕ) × (HasWidth 4 x.0 × HasWidth 4 x.1) × (first_view x ≡ e)
first_in (entry.Call moment call) fits = let wrong = fits.1 in absurd cc
first_in (entry.Tick moment word) fits = let wrong = fits.1 in absurd cc
first_in (entry.Arrival packet) fits = absurd fits.0
first_in entry.Restart fits = let wrong = fits.1 in absurd cc
first_in (entry.First server servers) fits = ((server, servers), fits.0, refl)

fields_are : (k : EntryKind) → IsField (IsOf k) behind (fields_at k)
unfolding fields_at
fields_are kind.Call = view_is (then_is wide_is noted_call_field) call_view (IsOf kind.Call) behind (λ x fits. ((fits, refl), refl)) call_in
fields_are kind.Tick = view_is (then_is wide_is wide_is) tick_view (IsOf kind.Tick) behind (λ x fits. ((fits, refl), refl)) tick_in
fields_are kind.Restart = nothing_is (IsOf kind.Restart) behind entry.Restart (tt, refl) refl restart_in
fields_are kind.First = view_is (then_is narrow_is narrow_is) first_view (IsOf kind.First) behind (λ x fits. ((fits, refl), refl)) first_in

pub entry_field : IsField IsPlain plain_bytes entry_at
unfolding entry_at
entry_field = chosen_is kind_in Any kind_bytes kind_at IsPlain plain_bytes behind (λ place. fields_at) kind_field
    (λ e fits. tt) (λ e. refl) (λ place. fields_are)
