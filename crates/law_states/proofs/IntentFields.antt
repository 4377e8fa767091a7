-- Each intention of a state tells where it fails.
use Rattle.std.proofs.Common.{◌≡◌, ℕ, zero, suc, List, [], Result, Ok, Err, refl, sym, arith, inl}
use Rattle.pg_base.specs.declared.id.FileId.{FileId}
use Rattle.pg_codec.specs.Reading.{Field, ◌>>=◌, checked, number_at}
use Rattle.pg_codec.specs.Unread.{Unread}
use Rattle.pg_intent.specs.declared.intent.Intent.{Intent}
use Rattle.pg_packet_fields.specs.Faults.{of_packet}
use Rattle.pg_packet_fields.specs.declared.error.PacketError.{PacketError}
use Rattle.pg_packet_fields.specs.declared.error.PacketError.TheVariants.{BadTag}
use Rattle.pg_state_fields.specs.declared.intents.FileKey.{FileKey}
use Rattle.pg_state_fields.specs.Intents.{all_intents_at, bye_at, confirm_at, fill_at, fresh_file_at, fresh_peer_at, intent_at, intent_of, leave_at, patch_at, peer_birth_at, same_at, seek_at, with_intent}
use Rattle.law_packets.proofs.Checks.{IsCheck}
use Rattle.law_packets.proofs.Opened.{same}
use Rattle.law_packets.proofs.Plain.{checked_number, dir_sure, server_sure}
use Rattle.law_packets.proofs.Telling.{bound, bound_told, err_is, failed, no_error, same_told, value_step}
use Rattle.law_states.proofs.Told.{Anywhere, Told, any, counted_list, file_wants, followed, number, seen, server_wants, sure, tested, tested_number, and_then}
use Rattle.law_states.proofs.Fields.{file, own, target}

fresh_file : (done : List Intent) (part : FileKey) → Told (fresh_file_at done part)
unfolding fresh_file_at
fresh_file done part = tested file_wants file _

fresh_peer : (done : List Intent) (f : FileId) (birth : ℕ) → Told (fresh_peer_at done f birth)
unfolding fresh_peer_at
fresh_peer done f birth = tested server_wants (sure (server_sure same)) _

peer_birth : (peer : ℕ) → Told (peer_birth_at peer)
unfolding peer_birth_at same_at
peer_birth peer = seen _ (and_then (number 8) (tested_number 4 (omega arith) _))

-- the number of the kind, and what stands behind it
abbrev kind_number : ℕ → ℕ → Result ℕ PacketError
kind_number place (suc zero) = Ok 1
kind_number place (suc (suc zero)) = Ok 2
kind_number place (suc (suc (suc zero))) = Ok 3
kind_number place (suc (suc (suc (suc zero)))) = Ok 4
kind_number place (suc (suc (suc (suc (suc zero))))) = Ok 5
kind_number place (suc (suc (suc (suc (suc (suc zero)))))) = Ok 6
kind_number place n = Err (BadTag place)

bad : (place : ℕ) (e : PacketError) → failed ℕ (BadTag place) ≡ Err e → e ≡ BadTag place
bad place e k = sym (err_is ℕ (BadTag place) e k)

kind_fault : (place n : ℕ) (e : PacketError) → kind_number place n ≡ Err e → e ≡ BadTag place
kind_fault place zero e k = bad place e k
kind_fault place (suc zero) e k = absurd (no_error 1 e k)
kind_fault place (suc (suc zero)) e k = absurd (no_error 2 e k)
kind_fault place (suc (suc (suc zero))) e k = absurd (no_error 3 e k)
kind_fault place (suc (suc (suc (suc zero)))) e k = absurd (no_error 4 e k)
kind_fault place (suc (suc (suc (suc (suc zero))))) e k = absurd (no_error 5 e k)
kind_fault place (suc (suc (suc (suc (suc (suc zero)))))) e k = absurd (no_error 6 e k)
kind_fault place (suc (suc (suc (suc (suc (suc (suc n))))))) e k = bad place e k

kind_steady : (p q n b : ℕ) → kind_number p n ≡ Ok b → kind_number q n ≡ Ok b
kind_steady p q zero b k = absurd (no_error b (BadTag p) (sym k))
kind_steady p q (suc zero) b k = k
kind_steady p q (suc (suc zero)) b k = k
kind_steady p q (suc (suc (suc zero))) b k = k
kind_steady p q (suc (suc (suc (suc zero)))) b k = k
kind_steady p q (suc (suc (suc (suc (suc zero))))) b k = k
kind_steady p q (suc (suc (suc (suc (suc (suc zero)))))) b k = k
kind_steady p q (suc (suc (suc (suc (suc (suc (suc n))))))) b k = absurd (no_error b (BadTag p) (sym k))

kind_check : IsCheck kind_number
kind_check = record { fault = λ place n e k. inl (kind_fault place n e k); steady = kind_steady }

none : Field PacketError Intent
none from = Err (BadTag 0)

by_kind : List Intent → ℕ → Field PacketError Intent
by_kind done (suc zero) = bye_at done
by_kind done (suc (suc zero)) = seek_at done
by_kind done (suc (suc (suc zero))) = fill_at done
by_kind done (suc (suc (suc (suc zero)))) = patch_at done
by_kind done (suc (suc (suc (suc (suc zero))))) = confirm_at done
by_kind done n = leave_at done

one_kind : (done : List Intent) (place n : ℕ) (to : Unread) → intent_of done place n to ≡ ((kind_number place n >>= value_step PacketError to) >>= λ k. by_kind done k.0 k.1)
unfolding by_kind
one_kind done place zero to = refl
one_kind done place (suc zero) to = refl
one_kind done place (suc (suc zero)) to = refl
one_kind done place (suc (suc (suc zero))) to = refl
one_kind done place (suc (suc (suc (suc zero)))) to = refl
one_kind done place (suc (suc (suc (suc (suc zero))))) to = refl
one_kind done place (suc (suc (suc (suc (suc (suc zero)))))) to = refl
one_kind done place (suc (suc (suc (suc (suc (suc (suc n))))))) to = refl

each_kind : (done : List Intent) (place : ℕ) (r : Result (ℕ × Unread) PacketError)
    → (r >>= λ k. intent_of done place k.0 k.1) ≡ ((r >>= λ a. (kind_number place a.0 >>= value_step PacketError a.1)) >>= λ k. by_kind done k.0 k.1)
each_kind done place (Ok x) = one_kind done place x.0 x.1
each_kind done place (Err e) = refl

bye : (done : List Intent) → Told (bye_at done)
unfolding bye_at
bye done = seen _ (followed file (λ f. followed (number 8) (λ birth. followed (fresh_peer done f birth) peer_birth)))

leave : (done : List Intent) → Told (leave_at done)
unfolding leave_at
leave done = seen _ (and_then (fresh_file done _) (followed (sure (server_sure same)) peer_birth))

seek : (done : List Intent) → Told (seek_at done)
unfolding seek_at
seek done = seen _ (and_then (fresh_file done _) target)

fill : (done : List Intent) → Told (fill_at done)
unfolding fill_at
fill done = seen _ (and_then (fresh_file done _) (and_then (number 8) target))

patch : (done : List Intent) → Told (patch_at done)
unfolding patch_at
patch done = seen _ (followed (sure (dir_sure same)) (λ dir. and_then (fresh_file done _) (and_then own target)))

confirm : (done : List Intent) → Told (confirm_at done)
unfolding confirm_at
confirm done = seen _ (followed (sure (dir_sure same)) (λ dir. and_then (fresh_file done _) target))

of_kind : (done : List Intent) (n : ℕ) → Told (by_kind done n)
unfolding by_kind
of_kind done zero = leave done
of_kind done (suc zero) = bye done
of_kind done (suc (suc zero)) = seek done
of_kind done (suc (suc (suc zero))) = fill done
of_kind done (suc (suc (suc (suc zero)))) = patch done
of_kind done (suc (suc (suc (suc (suc zero))))) = confirm done
of_kind done (suc (suc (suc (suc (suc (suc n)))))) = leave done

intent : (done : List Intent) → Told (intent_at done)
unfolding intent_at
intent done =
    let kind : Field PacketError ℕ = checked kind_number (of_packet (number_at 1)) in
    let whole : Field PacketError Intent = λ from. of_packet (number_at 1) from >>= λ k. intent_of done from.place k.0 k.1 in
    same_told Anywhere (bound kind (by_kind done)) whole (λ from. each_kind done from.place (of_packet (number_at 1) from))
    (bound_told Anywhere Anywhere (λ (n : ℕ). Anywhere) kind (by_kind done) (any (checked_number 1 kind_number (omega arith) kind_check)) (of_kind done)
    (λ b width p. tt) (λ n text b width reads p. tt))

pub intents : Told all_intents_at
unfolding all_intents_at
intents = counted_list 4 intent_at with_intent [] intent
