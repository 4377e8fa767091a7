-- What a protocol says of replicas that go, beside what its edges promise: of one thing.
use Rattle.std.specs.Prelude.{ℕ, ◌≡◌, ◌⊎◌, ◌<◌, ◌≤◌, List, Option, Some}
use Rattle.pg_base.specs.declared.id.FileId.{FileId}
use Rattle.pg_edges.specs.declared.key.Key.{Key}
use Rattle.pg_register.specs.declared.flag.Flag.{Flag}
use Rattle.theory_flood.specs.Server.{Replica, HoldsAll}
use Rattle.theory_flood.specs.Protocol as flooding

-- What a message says of replicas of the thing. Each names its sender first.
-- Gone: the sender's replica of this birth is not there
-- Bye: the sender's replica of this birth went
-- ByeOk: the sender heard the Bye of the peer's replica of this birth
-- LeaveOk: the peer's replica of the birth `own` may go, relying on the sender's of this birth
pub data Word : Type 0 where
  Gone : (sender birth : ℕ) → Word
  Bye : (sender birth : ℕ) → Word
  ByeOk : (sender peer birth : ℕ) → Word
  LeaveOk : (sender birth peer own : ℕ) → Word
  Other : Word

-- W: moments of a run. N: what a server holds. M: messages. C: cells
-- IsServer: the servers of the run
-- nodes: what each server holds then
-- Went: a server's replica of this birth has gone, and this is how it stood when it went
-- mail: all messages that were ever sent
-- edges: what the edges read
-- file: the thing
-- says: what a message says of its replicas
-- flag: the flag of a server among these cells
-- Removed: a server knows that this one was removed
-- Owes: it owes a Bye of the own birth to a peer's replica of that birth
-- Leaves: it wants its replica of the own birth to go, relying on a peer's of that birth
pub record Protocol (W N M C : Type 0) : Type 1 where
  pub IsServer : ℕ → Type 0
  pub nodes : W → ℕ → N
  pub Went : W → ℕ → ℕ → Replica C → Type 0
  pub mail : W → List M
  pub edges : flooding.Protocol N M C
  pub file : FileId
  pub says : M → Word
  pub flag : (Key → Option C) → ℕ → Option Flag
  pub Removed : N → ℕ → Type 0
  pub Owes : N → ℕ → ℕ → ℕ → Type 0
  pub Leaves : N → ℕ → ℕ → ℕ → Type 0

-- the second flag is as late as the first, or later
abbrev pub IsFlagUpTo : Flag → Flag → Type 0
IsFlagUpTo f g = (f.birth < g.birth) ⊎ ((f.birth ≡ g.birth) × (f.number ≤ g.number))

module _ {W N M C : Type 0} (p : Protocol W N M C) where
  -- these cells have a flag of the server that is as late, or later
  abbrev pub HasLater : (Key → Option C) → ℕ → Flag → Type 0
  HasLater cells server f = (g : Flag) × (p.flag cells server ≡ Some g) × IsFlagUpTo f g

  -- a server has a replica of the thing
  abbrev pub Has : N → Replica C → Type 0
  Has a x = (p.edges.see a).replicas p.file ≡ Some x

  -- with this birth
  abbrev pub Holds : N → ℕ → Replica C → Type 0
  Holds a birth x = Has a x × (x.birth ≡ birth)

  -- what has to be true of it: a replica that has all cells of another has its flags, or later ones
  pub record IsSound : Type 0 where
    pub edges : flooding.IsSound p.edges
    pub flags :
        (a b : N) (x y : Replica C) (server : ℕ) (f : Flag) → Has a x → Has b y
        → HoldsAll p.edges.IsUpTo x.cells y.cells → p.flag x.cells server ≡ Some f
        → HasLater y.cells server f
