-- How a call ends.
use Rattle.std.proofs.Common.{◌≡◌, ◌⊎◌, inl, inr, ℕ, List, length, Option, Some, None, refl, sym, ◌∙◌, ap}
use Rattle.pg_net.specs.Net.{Datagram}
use Rattle.pg_call.specs.declared.refusal.Refusal.{Refusal}
use Rattle.pg_call.specs.declared.reply.Reply.{Reply}
use Rattle.pg_call.specs.declared.reply.Reply.TheVariants as reply
use Rattle.pg_event.specs.declared.status.Status.{Status}
use Rattle.pg_event.specs.declared.status.Status.TheVariants as status
use Rattle.pg_client.specs.Replies.{ended_by, first_reply, refusal_number, status_of}
use Rattle.pg_client.specs.Asks.{Ends, IsFault}

not_done : (s : Status) → IsFault s → s ≡ status.Done → ⊥
not_done s (inl is) e = let x : status.NetFault ≡ status.Done = sym is ∙ e in cc
not_done s (inr (inl is)) e = let x : status.WriteFault ≡ status.Done = sym is ∙ e in cc
not_done s (inr (inr is)) e = let x : status.OutOfMemory ≡ status.Done = sym is ∙ e in cc

not_refused : (s : Status) → IsFault s → (n : ℕ) → s ≡ status.Refused n → ⊥
not_refused s (inl is) n e = let x : status.NetFault ≡ status.Refused n = sym is ∙ e in cc
not_refused s (inr (inl is)) n e = let x : status.WriteFault ≡ status.Refused n = sym is ∙ e in cc
not_refused s (inr (inr is)) n e = let x : status.OutOfMemory ≡ status.Refused n = sym is ∙ e in cc

not_spent : (s : Status) → IsFault s → s ≡ status.TurnsSpent → ⊥
not_spent s (inl is) e = let x : status.NetFault ≡ status.TurnsSpent = sym is ∙ e in cc
not_spent s (inr (inl is)) e = let x : status.WriteFault ≡ status.TurnsSpent = sym is ∙ e in cc
not_spent s (inr (inr is)) e = let x : status.OutOfMemory ≡ status.TurnsSpent = sym is ∙ e in cc

fault_ends : (s : Status) (gave : List (Option Datagram)) → IsFault s → (s ≡ status.NetFault → first_reply gave ≡ None) → (s ≡ status.WriteFault → (r : Reply) × (first_reply gave ≡ Some r)) → Ends s gave
fault_ends s gave fault unheard unwritten = record {
  all = inl fault;
  done = λ is. absurd (not_done s fault is);
  refused = λ number is. absurd (not_refused s fault number is);
  spent = λ is. absurd (not_spent s fault is);
  unheard = unheard;
  unwritten = unwritten;
}

-- the net failed
pub net_ends : (s : Status) (gave : List (Option Datagram)) → s ≡ status.NetFault → first_reply gave ≡ None → Ends s gave
net_ends s gave is none = fault_ends s gave (inl is) (λ same. none) (λ other. absurd (let x : status.NetFault ≡ status.WriteFault = sym is ∙ other in cc))

-- memory was refused
pub memory_ends : (s : Status) (gave : List (Option Datagram)) → s ≡ status.OutOfMemory → Ends s gave
memory_ends s gave is =
    fault_ends s gave (inr (inr is)) (λ other. absurd (let x : status.OutOfMemory ≡ status.NetFault = sym is ∙ other in cc))
    (λ other. absurd (let x : status.OutOfMemory ≡ status.WriteFault = sym is ∙ other in cc))

-- a reply came, and could not be written
pub write_ends : (s : Status) (gave : List (Option Datagram)) (r : Reply) → s ≡ status.WriteFault → first_reply gave ≡ Some r → Ends s gave
write_ends s gave r is first = fault_ends s gave (inr (inl is)) (λ other. absurd (let x : status.WriteFault ≡ status.NetFault = sym is ∙ other in cc)) (λ same. (r, first))

-- no reply came
pub spent_ends : (s : Status) (gave : List (Option Datagram)) → s ≡ status.TurnsSpent → length gave ≡ 10 → first_reply gave ≡ None → Ends s gave
spent_ends s gave spent ten none = record {
  all = inr (spent ∙ sym (ap ended_by none));
  done = λ is. absurd (let x : status.TurnsSpent ≡ status.Done = sym spent ∙ is in cc);
  refused = λ number is. absurd (let x : status.TurnsSpent ≡ status.Refused number = sym spent ∙ is in cc);
  spent = λ is. (ten, none);
  unheard = λ is. none;
  unwritten = λ is. absurd (let x : status.TurnsSpent ≡ status.WriteFault = sym spent ∙ is in cc);
}

-- a reply is a refusal, or the call is done
kind_of : (r : Reply) → (status_of r ≡ status.Done) ⊎ ((why : Refusal) × (r ≡ reply.Refused why))
kind_of reply.Done = inl refl
kind_of (reply.Made id) = inl refl
kind_of (reply.Wrote stamp) = inl refl
kind_of (reply.Bytes bytes) = inl refl
kind_of (reply.Names total rows) = inl refl
kind_of (reply.Stat stat) = inl refl
kind_of (reply.Leaving server) = inl refl
kind_of (reply.Status counts) = inl refl
kind_of (reply.Refused why) = inr (why, refl)

module _ (s : Status) (r : Reply) (is : s ≡ status_of r) where
  told_refused : (number : ℕ) → s ≡ status.Refused number → (why : Refusal) × (r ≡ reply.Refused why) × (number ≡ refusal_number why)
  told_refused number refused = elim (kind_of r) [
    | inl done ↦ absurd (let x : status.Done ≡ status.Refused number = sym (is ∙ done) ∙ refused in cc)
    | inr found ↦ (found.0, found.1, (let x : status.Refused number ≡ status.Refused (refusal_number found.0) = sym refused ∙ is ∙ ap status_of found.1 in cc))
  ]

  told_spent : s ≡ status.TurnsSpent → ⊥
  told_spent spent = elim (kind_of r) [
    | inl done ↦ let x : status.Done ≡ status.TurnsSpent = sym (is ∙ done) ∙ spent in cc
    | inr found ↦ let x : status.Refused (refusal_number found.0) ≡ status.TurnsSpent = sym (is ∙ ap status_of found.1) ∙ spent in cc
  ]

  told_unheard : s ≡ status.NetFault → ⊥
  told_unheard fault = elim (kind_of r) [
    | inl done ↦ let x : status.Done ≡ status.NetFault = sym (is ∙ done) ∙ fault in cc
    | inr found ↦ let x : status.Refused (refusal_number found.0) ≡ status.NetFault = sym (is ∙ ap status_of found.1) ∙ fault in cc
  ]

  told_done : s ≡ status.Done → (why : Refusal) → r ≡ reply.Refused why → ⊥
  told_done done why found = let x : status.Refused (refusal_number why) ≡ status.Done = sym (is ∙ ap status_of found) ∙ done in cc

-- a reply came, and its text was written
pub told_ends : (s : Status) (gave : List (Option Datagram)) (r : Reply) → first_reply gave ≡ Some r → s ≡ status_of r → Ends s gave
told_ends s gave r first is = record {
  all = inr (is ∙ sym (ap ended_by first));
  done = λ done. (r, first, told_done s r is done);
  refused = λ number refused. let found = told_refused s r is number refused in (found.0, first ∙ ap Some found.1, found.2);
  spent = λ spent. absurd (told_spent s r is spent);
  unheard = λ fault. absurd (told_unheard s r is fault);
  unwritten = λ fault. (r, first);
}
