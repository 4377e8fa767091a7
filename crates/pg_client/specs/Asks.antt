-- What a client's call does.
use Rattle.std.specs.Prelude.{ℕ, ◌≡◌, ◌≢◌, ◌≤◌, ◌⊎◌, List, [], ◌∷◌, ◌++◌, length, take, Some, None, Result, IfOk, IfErr}
use Rattle.std.specs.declared.option.Option.{Option}
use Rattle.std.specs.Io.KnownBytes.{Appends}
use Rattle.pg_net.specs.Net.{Datagram, Told, IsTaken}
use Rattle.pg_call.specs.declared.refusal.Refusal.{Refusal}
use Rattle.pg_call.specs.declared.reply.Reply.{Reply}
use Rattle.pg_call.specs.declared.reply.Reply.TheVariants as reply
use Rattle.pg_event.specs.declared.status.Status.{Status}
use Rattle.pg_event.specs.declared.status.Status.TheVariants as status
use Rattle.pg_packet_write.specs.Datagrams.{packet_bytes}
use Rattle.pg_packet_write.specs.declared.datagram.Content.TheVariants as content
use Rattle.pg_packet_write.specs.declared.datagram.Request.{Request}
use Rattle.pg_client.specs.Replies.{ended_by, first_reply, refusal_number, text_of}

-- Call number 1 of what is asked, from no server and in no view
abbrev pub call_bytes : Request → List ℕ
call_bytes asked = packet_bytes (record { from = 0; view = 0; content = content.Call 1 asked })

abbrev pub call_packet : ℕ → Request → Datagram
call_packet port asked = record { port = port; bytes = call_bytes asked }

-- something failed
abbrev pub IsFault : Status → Type 0
IsFault s = (s ≡ status.NetFault) ⊎ ((s ≡ status.WriteFault) ⊎ (s ≡ status.OutOfMemory))

-- The text was written: all of it, or a prefix where writing failed or memory was refused.
abbrev pub Wrote : Option (List ℕ) → Option (List ℕ) → List ℕ → Status → Type 0
Wrote old new text s = (n : ℕ) × Appends old new (take n text)
    × (s ≢ status.WriteFault → s ≢ status.OutOfMemory → length text ≤ n)

-- nothing was sent, and no take was made
pub record IsUnsent (s : Status) (gave : List (Option Datagram)) (old new : Told) : Type 0 where
  pub sent : new.sent ≡ old.sent
  pub none : gave ≡ []
  pub fault : (s ≡ status.NetFault) ⊎ (s ≡ status.OutOfMemory)

-- just this packet was sent, from a free port
pub record IsSent (packet : Datagram) (old new : Told) : Type 0 where
  pub bound : new.bound ≡ Some 0
  pub sent : new.sent ≡ old.sent ++ packet ∷ []

-- How a call ends, of which takes gave this: as its reply says, or as spent where none came, unless
-- something failed; and by each status only for its cause.
pub record Ends (s : Status) (gave : List (Option Datagram)) : Type 0 where
  pub all : IsFault s ⊎ (s ≡ ended_by (first_reply gave))
  pub done : s ≡ status.Done → (r : Reply) × (first_reply gave ≡ Some r)
      × ((why : Refusal) → r ≡ reply.Refused why → ⊥)
  pub refused : (number : ℕ) → s ≡ status.Refused number → (why : Refusal)
      × (first_reply gave ≡ Some (reply.Refused why)) × (number ≡ refusal_number why)
  pub spent : s ≡ status.TurnsSpent → (length gave ≡ 10) × (first_reply gave ≡ None)
  pub unheard : s ≡ status.NetFault → first_reply gave ≡ None
  pub unwritten : s ≡ status.WriteFault → (r : Reply) × (first_reply gave ≡ Some r)

-- A call of a client, with any status. `nt` says that the net tells.
pub record Asks (nt : Type 0) (port : ℕ) (asked : Request) (s : Status) (n0 n1 : Told) (t0 t1 : ℕ)
    (k0 k1 : Option (List ℕ)) : Type 0 where
  -- what its takes gave, until a reply came
  pub gave : List (Option Datagram)
  pub few : length gave ≤ 10
  pub given : nt → n1.given ≡ n0.given ++ gave
  pub taken : IsTaken (length gave) t0 t1
  -- what it sent and wrote, and how it ended
  pub sent : nt → IsUnsent s gave n0 n1 ⊎ IsSent (call_packet port asked) n0 n1
  pub wrote : Wrote k0 k1 (text_of (first_reply gave)) s
  pub ends : Ends s gave

-- what takes gave until a reply came, ten at most
pub record Listens (nt : Type 0) (result : Result (Option Reply) Status) (n0 n1 : Told)
    (t0 t1 : ℕ) : Type 0 where
  pub gave : List (Option Datagram)
  pub few : length gave ≤ 10
  pub given : nt → n1.given ≡ n0.given ++ gave
  pub sent : nt → n1.sent ≡ n0.sent
  pub bound : nt → n1.bound ≡ n0.bound
  pub taken : IsTaken (length gave) t0 t1
  pub found : IfOk result (λ found. found ≡ first_reply gave)
  pub spent : IfOk result (λ found. found ≡ None → length gave ≡ 10)
  pub failed : IfErr result (λ e. ((e ≡ status.NetFault) × (first_reply gave ≡ None))
      ⊎ (e ≡ status.OutOfMemory))

-- so many takes gave no reply
pub record Heard (nt : Type 0) (count : ℕ) (n0 n1 : Told) (t0 t1 : ℕ) : Type 0 where
  pub gave : List (Option Datagram)
  pub number : length gave ≡ count
  pub given : nt → n1.given ≡ n0.given ++ gave
  pub sent : nt → n1.sent ≡ n0.sent
  pub bound : nt → n1.bound ≡ n0.bound
  pub taken : IsTaken count t0 t1
  pub none : first_reply gave ≡ None
