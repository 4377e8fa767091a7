-- What a call does, by where it ended.
use Rattle.std.proofs.Common.{◌≡◌, ◌≤◌, ◌⊎◌, inl, inr, ℕ, List, [], ◌∷◌, ◌++◌, length, take, Option, Some, None, Ok, Err, refl, sym, ◌∙◌, ap, subst, arith}
use Rattle.std.proofs.lemmas.List.{append-nil, take_all}
use Rattle.std.specs.Io.KnownBytes.{Appends}
use Rattle.pg_io.proofs.Known.{Appends-none}
use Rattle.pg_net.specs.Net.{Datagram, Told, IsTaken, with_bound, with_sent}
use Rattle.pg_net.proofs.Noted.{taken-none}
use Rattle.pg_call.specs.declared.reply.Reply.{Reply}
use Rattle.pg_event.specs.declared.status.Status.{Status}
use Rattle.pg_event.specs.declared.status.Status.TheVariants as status
use Rattle.pg_packet_write.specs.declared.datagram.Request.{Request}
use Rattle.pg_client.specs.Replies.{first_reply, reply_text, status_of, text_of}
use Rattle.pg_client.specs.Asks.{Asks, Ends, IsSent, Listens, Wrote, call_bytes, call_packet}
use Rattle.pg_client.proofs.Ending.{memory_ends, net_ends, spent_ends, told_ends, write_ends}

wrote_none : (k : Option (List ℕ)) (text : List ℕ) (s : Status) → text ≡ [] → Wrote k k text s
wrote_none k text s none = (0, Appends-none k, λ a b. (let size = ap length none in omega (arith, size)))

pub wrote_all : (old new : Option (List ℕ)) (text : List ℕ) (s : Status) → Appends old new text → Wrote old new text s
wrote_all old new text s all =
    (length text, subst (λ (l : List ℕ). Appends old new l) (sym (take_all (length text) text (omega arith))) all, λ a b. omega arith)

pub wrote_first : (old new : Option (List ℕ)) (text : List ℕ) (n : ℕ) (s : Status) → s ≡ status.WriteFault → Appends old new (take n text) → Wrote old new text s
wrote_first old new text n s fault first = (n, first, λ a b. absurd (a fault))

pub unwritten : (k : Option (List ℕ)) (text : List ℕ) (s : Status) → s ≡ status.OutOfMemory → Wrote k k text s
unwritten k text s memory = (0, Appends-none k, λ a b. absurd (b memory))

-- a port was bound, and the packet sent
module _ (n0 bound sent : Told) (port : ℕ) (bytes : List ℕ) (bound_is : bound ≡ with_bound n0 0) (sent_is : sent ≡ with_sent bound port bytes) where
  pub given_then : sent.given ≡ n0.given
  given_then = ap (λ (t : Told). t.given) sent_is ∙ ap (λ (t : Told). t.given) bound_is

  pub packet_sent : (asked : Request) → bytes ≡ call_bytes asked → IsSent (call_packet port asked) n0 sent
  packet_sent asked is = record {
    bound = ap (λ (t : Told). t.bound) sent_is ∙ ap (λ (t : Told). t.bound) bound_is;
    sent = ap (λ (t : Told). t.sent) sent_is ∙ (λ i. (bound_is i).sent ++ record { port = port; bytes = is i } ∷ []);
  }

module _ (nt : Type 0) (port : ℕ) (asked : Request) (s : Status) (n0 : Told) (t0 : ℕ) (k0 : Option (List ℕ)) where
  unsent_ends : (s ≡ status.NetFault) ⊎ (s ≡ status.OutOfMemory) → Ends s []
  unsent_ends (inl is) = net_ends s [] is refl
  unsent_ends (inr is) = memory_ends s [] is

  -- nothing was sent
  pub asks_none : (n1 : Told) (t1 : ℕ) → (s ≡ status.NetFault) ⊎ (s ≡ status.OutOfMemory) → (nt → n1.given ≡ n0.given) → (nt → n1.sent ≡ n0.sent) → t1 ≡ t0
      → Asks nt port asked s n0 n1 t0 t1 k0 k0
  asks_none n1 t1 fault given sent same = record {
    gave = [];
    few = omega arith;
    given = λ tells. given tells ∙ sym (append-nil n0.given);
    taken = subst (λ (t : ℕ). IsTaken 0 t0 t) (sym same) (taken-none t0);
    sent = λ tells. inl (record { sent = sent tells; none = refl; fault = fault });
    wrote = wrote_none k0 [] s refl;
    ends = unsent_ends fault;
  }

  -- the packet was sent, and takes were made
  module _ (nm n1 : Told) (tm t1 : ℕ) (given : nt → nm.given ≡ n0.given) (sent : nt → IsSent (call_packet port asked) n0 nm) (same : tm ≡ t0) where
    abbrev Behind : (gave : List (Option Datagram)) → Type 0
    Behind gave = (nt → n1.given ≡ nm.given ++ gave) × (nt → n1.sent ≡ nm.sent) × (nt → n1.bound ≡ nm.bound) × IsTaken (length gave) tm t1

    asks_behind : (k1 : Option (List ℕ)) (gave : List (Option Datagram)) → length gave ≤ 10 → Behind gave → Wrote k0 k1 (text_of (first_reply gave)) s → Ends s gave
        → Asks nt port asked s n0 n1 t0 t1 k0 k1
    asks_behind k1 gave few behind wrote ends = record {
      gave = gave;
      few = few;
      given = λ tells. behind.0 tells ∙ ap (λ (l : List (Option Datagram)). l ++ gave) (given tells);
      taken = subst (λ (t : ℕ). IsTaken (length gave) t t1) same behind.3;
      sent = λ tells. inr (record { bound = behind.2 tells ∙ (sent tells).bound; sent = behind.1 tells ∙ (sent tells).sent });
      wrote = wrote;
      ends = ends;
    }

    failed_wrote : (e : Status) (gave : List (Option Datagram)) → s ≡ e → ((e ≡ status.NetFault) × (first_reply gave ≡ None)) ⊎ (e ≡ status.OutOfMemory) → Wrote k0 k0 (text_of (first_reply gave)) s
    failed_wrote e gave is (inl fault) = wrote_none k0 (text_of (first_reply gave)) s (ap text_of fault.1)
    failed_wrote e gave is (inr memory) = unwritten k0 (text_of (first_reply gave)) s (is ∙ memory)

    failed_ends : (e : Status) (gave : List (Option Datagram)) → s ≡ e → ((e ≡ status.NetFault) × (first_reply gave ≡ None)) ⊎ (e ≡ status.OutOfMemory) → Ends s gave
    failed_ends e gave is (inl fault) = net_ends s gave (is ∙ fault.0) fault.1
    failed_ends e gave is (inr memory) = memory_ends s gave (is ∙ memory)

    -- a take failed, or there was no memory to read what it gave
    pub asks_failed : (e : Status) → s ≡ e → Listens nt (Err e) nm n1 tm t1 → Asks nt port asked s n0 n1 t0 t1 k0 k0
    asks_failed e is l = asks_behind k0 l.gave l.few (l.given, l.sent, l.bound, l.taken) (failed_wrote e l.gave is l.failed) (failed_ends e l.gave is l.failed)

    -- no reply came
    pub asks_spent : s ≡ status.TurnsSpent → Listens nt (Ok None) nm n1 tm t1 → Asks nt port asked s n0 n1 t0 t1 k0 k0
    asks_spent is l =
        asks_behind k0 l.gave l.few (l.given, l.sent, l.bound, l.taken) (wrote_none k0 (text_of (first_reply l.gave)) s (sym (ap text_of l.found))) (spent_ends s l.gave is (l.spent refl) (sym l.found))

    told_end : (gave : List (Option Datagram)) (r : Reply) → first_reply gave ≡ Some r → ((s ≡ status.WriteFault) ⊎ (s ≡ status.OutOfMemory)) ⊎ (s ≡ status_of r) → Ends s gave
    told_end gave r first (inl (inl is)) = write_ends s gave r is first
    told_end gave r first (inl (inr is)) = memory_ends s gave is
    told_end gave r first (inr is) = told_ends s gave r first is

    -- a reply came
    pub asks_told : (r : Reply) (k1 : Option (List ℕ)) → Listens nt (Ok (Some r)) nm n1 tm t1 → Wrote k0 k1 (reply_text r) s → ((s ≡ status.WriteFault) ⊎ (s ≡ status.OutOfMemory)) ⊎ (s ≡ status_of r)
        → Asks nt port asked s n0 n1 t0 t1 k0 k1
    asks_told r k1 l wrote kind =
        asks_behind k1 l.gave l.few (l.given, l.sent, l.bound, l.taken) (subst (λ (text : List ℕ). Wrote k0 k1 text s) (ap text_of l.found) wrote) (told_end l.gave r (sym l.found) kind)
