-- What a net tells.
use Rattle.std.specs.Prelude.{ℕ, ◌≡◌, ◌+◌, ◌-◌, ◌^◌, ◌≤◌, min, Some, None, List, [], ◌∷◌, ◌++◌, take, drop}
use Rattle.std.specs.declared.option.Option.{Option}
use Rattle.pg_net.specs.declared.net.Taken.{Taken}
use Rattle.pg_net.specs.declared.net.Taken.TheVariants.{Packet, Idle}

-- a packet's bytes, with the port that it came from or goes to
pub record Datagram : Type 0 where
  pub port : ℕ
  pub bytes : List ℕ

-- the port that was bound last; the packets that are left to take; what each take gave, the first
-- of them first, where None is Idle; and the packets that were sent, the first of them first
pub record Told : Type 0 where
  pub bound : Option ℕ
  pub left : List Datagram
  pub given : List (Option Datagram)
  pub sent : List Datagram

-- the packets that were taken
abbrev pub taken : List (Option Datagram) → List Datagram
taken [] = []
taken (Some datagram ∷ later) = datagram ∷ taken later
taken (None ∷ later) = taken later

-- of a longer packet its first bytes
abbrev pub cut : ℕ → Datagram → Datagram
cut most datagram = record { port = datagram.port; bytes = take most datagram.bytes }

-- what the next take gives
abbrev pub next : ℕ → List Datagram → Option Datagram
next most [] = None
next most (datagram ∷ later) = Some (cut most datagram)

-- what an answer gives, with the packet's bytes at the start of the buffer
abbrev pub given_by : Taken → List ℕ → Option Datagram
given_by (Packet port length) buf = Some (record { port = port; bytes = take length buf })
given_by Idle buf = None

-- the packet of an answer has at most so many bytes
abbrev pub IsWithin : ℕ → Taken → Type 0
IsWithin most (Packet port length) = length ≤ most
IsWithin most Idle = Unit {0}

-- a take gave the next packet, or Idle where none was left
pub record IsTake (most : ℕ) (answer : Taken) (buf : List ℕ) (old new : Told) : Type 0 where
  pub next : given_by answer buf ≡ next most old.left
  pub left : new.left ≡ drop 1 old.left
  pub given : new.given ≡ old.given ++ given_by answer buf ∷ []
  pub sent : new.sent ≡ old.sent
  pub bound : new.bound ≡ old.bound

-- So many takes more answered Ok. The count stops at the greatest u64.
abbrev pub IsTaken : ℕ → ℕ → ℕ → Type 0
IsTaken count old new = new ≡ old + min count (2 ^ 64 - 1 - old)

abbrev pub with_bound : Told → ℕ → Told
with_bound told port =
    record { bound = Some port; left = told.left; given = told.given; sent = told.sent }

-- one packet more was sent
abbrev pub with_sent : Told → ℕ → List ℕ → Told
with_sent told port bytes = record {
  bound = told.bound;
  left = told.left;
  given = told.given;
  sent = told.sent ++ record { port = port; bytes = bytes } ∷ [];
}

-- of a net that does not tell
abbrev pub untold : Told
untold = record { bound = None; left = []; given = []; sent = [] }
