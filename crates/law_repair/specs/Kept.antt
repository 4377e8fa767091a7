-- Which things are kept: between any two neighbouring moments of theirs one gold replica stays.
use Rattle.std.specs.Prelude.{ℕ, ◌≡◌, ◌⊎◌, ◌||◌, Bool, true, false, List, [], ◌∷◌, ◌++◌, Some, zero, suc}
use Rattle.pg_run.specs.pg_base.declared.id.FileId.{FileId}
use Rattle.pg_run.specs.pg_call.declared.call.Call.TheVariants as call
use Rattle.pg_run.specs.pg_call.declared.reply.Reply.TheVariants as reply
use Rattle.pg_run.specs.pg_event.declared.event.Event.{Event}
use Rattle.pg_run.specs.pg_event.declared.event.Event.TheVariants as event
use Rattle.pg_run.specs.pg_pieces.Golds.{is_gold}
use Rattle.pg_run.specs.pg_store.Store.{is_held}
use Rattle.pg_run.specs.pg_store.Together.{birth_at}
use Rattle.pg_run.specs.Graphs.{AreConnected, Holds, IsConnected}
use Rattle.pg_run.specs.Laws.{Agree, AtLive, IsBroughtBack, IsListedOnly, IsTree}
use Rattle.pg_run.specs.Quiet.{IsQuiet}
use Rattle.pg_run.specs.Run.{World, is_live, next, run}

-- ---- moments

-- one of the first so many servers holds the thing
abbrev pub is_held_by : World → FileId → ℕ → Bool
is_held_by w file zero = false
is_held_by w file (suc k) = is_held (w.stores (suc k)) file || is_held_by w file k

-- the thing is created: some server holds it, and none did before. The root is so at the start
pub record IsCreated (servers : ℕ) (file : FileId) (events : List Event) : Type 0 where
  pub held : is_held_by (run servers events) file servers ≡ true
  pub new : (before : List Event) (next : Event) (behind : List Event)
      → events ≡ before ++ next ∷ behind → is_held_by (run servers before) file servers ≡ false

-- and it is created where a client is told that it was made
abbrev pub MadeThingsAreCreated : ℕ → Type 0
MadeThingsAreCreated servers = (events : List Event) (e : Event) (file : FileId)
    → (next servers (run servers events) e).entry.reply ≡ Some (reply.Made file)
    → IsCreated servers file (events ++ e ∷ [])

-- a later moment: all is quiet, and some server held the thing before, or holds it now
pub record IsQuietBehind (servers : ℕ) (file : FileId) (events : List Event) : Type 0 where
  pub quiet : IsQuiet servers (run servers events)
  pub before : List Event
  pub behind : List Event
  pub split : events ≡ before ++ behind
  pub held : is_held_by (run servers before) file servers ≡ true

-- the moments of a thing: its creation, and each later end of events at which the run is quiet
abbrev pub IsMoment : ℕ → FileId → List Event → Type 0
IsMoment servers file events =
    IsCreated servers file events ⊎ IsQuietBehind servers file events

-- the second comes so many events behind the first, and there is none between
pub record AreNeighbours (servers : ℕ) (file : FileId) (first more : List Event) : Type 0 where
  pub begin : IsMoment servers file first
  pub end : IsMoment servers file (first ++ more)
  pub between : (e f : Event) (before behind : List Event) → more ≡ (e ∷ before) ++ f ∷ behind
      → IsMoment servers file (first ++ e ∷ before) → ⊥

-- ---- a gold that stays

-- a live server has a replica of the thing with this birth, and it is gold
pub record IsGoldAt (servers : ℕ) (w : World) (file : FileId) (server birth : ℕ) : Type 0 where
  pub live : is_live servers w server ≡ true
  pub born : birth_at (w.stores server) file ≡ Some birth
  pub gold : is_gold (w.stores server) file ≡ true

-- a server forgets the thing in this event
pub record Forgets (servers : ℕ) (w : World) (file : FileId) (e : Event) : Type 0 where
  pub server : ℕ
  pub moment : ℕ
  pub is : e ≡ event.Call server moment (call.Forget file)
  pub done : (next servers w e).entry.reply ≡ Some reply.Done

-- one replica is live and gold from one moment to the other, behind each event, and none forgets
-- the thing
pub record StaysGold (servers : ℕ) (file : FileId) (first more : List Event) : Type 0 where
  pub server : ℕ
  pub birth : ℕ
  pub gold : (before behind : List Event) → more ≡ before ++ behind
      → IsGoldAt servers (run servers (first ++ before)) file server birth
  pub known : (before : List Event) (e : Event) (behind : List Event) → more ≡ before ++ e ∷ behind
      → Forgets servers (run servers (first ++ before)) file e → ⊥

-- KEPT: so it is between each two neighbouring moments in these events
abbrev pub IsKept : ℕ → FileId → List Event → Type 0
IsKept servers file events = (first : List Event) (e : Event) (more behind : List Event)
    → events ≡ (first ++ e ∷ more) ++ behind
    → AreNeighbours servers file first (e ∷ more)
    → StaysGold servers file first (e ∷ more)

-- ---- the laws

-- REPAIR: wherever a run is quiet, the graph of each thing that was kept is connected
abbrev pub KeptThingsAreConnected : ℕ → Type 0
KeptThingsAreConnected servers = (events : List Event) → IsQuiet servers (run servers events)
    → (file : FileId) → IsKept servers file events → IsConnected servers (run servers events) file

-- wherever a run is quiet, and each thing that a live server holds was kept
abbrev pub AreKept : ℕ → List Event → Type 0
AreKept servers events = (file : FileId) → (s : ℕ) → is_live servers (run servers events) s ≡ true
    → Holds (run servers events) file s → IsKept servers file events

abbrev pub WhereKept : ℕ → (World → Type 0) → Type 0
WhereKept servers P = (events : List Event) → IsQuiet servers (run servers events)
    → AreKept servers events → P (run servers events)

-- so the graphs of all things are connected
abbrev pub KeptRunsAreConnected : ℕ → Type 0
KeptRunsAreConnected servers = WhereKept servers (AreConnected servers)

-- ---- so no premise on graphs is needed

-- all live servers that hold a thing which was kept agree on it
abbrev pub KeptServersAgree : ℕ → Type 0
KeptServersAgree servers = (events : List Event) → IsQuiet servers (run servers events)
    → (file : FileId) → IsKept servers file events
    → AtLive servers (run servers events) (λ s. AtLive servers (run servers events) (λ t.
    Holds (run servers events) file s → Holds (run servers events) file t
    → Agree (run servers events) file s t))

-- names form one tree
abbrev pub KeptNamesFormATree : ℕ → Type 0
KeptNamesFormATree servers = WhereKept servers (IsTree servers)

-- each survivor is listed where it stands and nowhere else
abbrev pub KeptThingsAreListedOnlyWhereTheyStand : ℕ → Type 0
KeptThingsAreListedOnlyWhereTheyStand servers = WhereKept servers (IsListedOnly servers)

-- and no directory that holds one is dead
abbrev pub KeptDirectoriesAreBroughtBack : ℕ → Type 0
KeptDirectoriesAreBroughtBack servers = WhereKept servers (IsBroughtBack servers)
