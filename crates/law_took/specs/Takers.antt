-- What each replica at a server took of names, by what came to just this replica, and by what other
-- replicas there had.
use Rattle.std.specs.Prelude.{ℕ, ◌⊎◌, ◌≡◌, ◌≢◌, ◌++◌, true, List, [], ◌∷◌, Some, map}
use Rattle.pg_run.specs.pg_base.declared.id.FileId.{FileId}
use Rattle.pg_run.specs.pg_content.Content.{Among}
use Rattle.pg_run.specs.pg_event.declared.event.Event.{Event}
use Rattle.pg_run.specs.pg_server.declared.input.Input.{Input}
use Rattle.pg_run.specs.pg_server.Local.{takes_effect}
use Rattle.pg_run.specs.pg_store.declared.store.Store.{Store}
use Rattle.pg_run.specs.pg_store.Start.{first_flags}
use Rattle.pg_run.specs.Asking.{Asked}
use Rattle.pg_run.specs.Came.{NoneLeaves}
use Rattle.pg_run.specs.Carried.{gone_in}
use Rattle.pg_run.specs.Run.{World, brought, made_behind, next, run, start, taking_in, world_after}
use Rattle.pg_run.specs.Took.{Take, Taker, first_takes, take_of, without_gone}
use Rattle.pg_run.specs.Took.Take.{Began, TookFlag, TookPlace, TookVersion}
use Rattle.pg_run.specs.Took.Taker.{InDir, Itself}

-- what comes to replicas at a server in an event, each take to its own: what the house rules made,
-- and what the first effect brings, with what it made
abbrev pub come : Store → Asked → Input → List Take
come store wants asked = map take_of (made_behind store asked) ++ brought store wants asked

-- and with it what the replicas have that stay
abbrev pub come_to : Store → Asked → List Take → Input → List Take
come_to store wants takes asked =
    come store wants asked ++ without_gone (gone_in store asked) takes

-- a place or a flag of a thing, that some replica took
abbrev pub IsOfNames : Take → Type 0
IsOfNames (TookPlace by thing place) = Unit {0}
IsOfNames (TookFlag by thing flag) = Unit {0}
IsOfNames _ = ⊥

-- another replica took the same place or flag of the thing
abbrev pub AnotherHas : List Take → Take → Type 0
AnotherHas takes (TookPlace by thing place) = (other : Taker) × (other ≢ by)
    × Among (TookPlace other thing place) takes
AnotherHas takes (TookFlag by thing flag) = (other : Taker) × (other ≢ by)
    × Among (TookFlag other thing flag) takes
AnotherHas takes _ = ⊥

-- an event brings a server, at which it takes effect, this take
pub record Comes (servers : ℕ) (w : World) (event : Event) (s : ℕ) (u : Take) : Type 0 where
  pub asked : Input
  pub takes : taking_in servers w event ≡ Some (record { server = s; asked = asked })
  pub going : takes_effect (w.stores s) asked ≡ true
  pub brings : Among u (come (w.stores s) (w.asked s) asked)

-- in an event at a server, where it takes effect, another replica there has what this take is of:
-- it had it, and stays, or it came to that one
pub record Passes (servers : ℕ) (w : World) (event : Event) (s : ℕ) (u : Take) : Type 0 where
  pub asked : Input
  pub takes : taking_in servers w event ≡ Some (record { server = s; asked = asked })
  pub going : takes_effect (w.stores s) asked ≡ true
  pub known : AnotherHas (come_to (w.stores s) (w.asked s) (w.took s) asked) u

-- the replica of this thing took it: by itself, or as that of a directory with an entry
abbrev pub IsTaker : Take → FileId → Type 0
IsTaker (TookVersion of stamp) file = of ≡ file
IsTaker (TookPlace Itself thing place) file = thing ≡ file
IsTaker (TookPlace (InDir dir) thing place) file = dir ≡ file
IsTaker (TookFlag Itself thing flag) file = thing ≡ file
IsTaker (TookFlag (InDir dir) thing flag) file = dir ≡ file
IsTaker (Began of) file = of ≡ file

-- of one of these events it holds, and behind that the replica that took it does not go
abbrev pub FromThen : ℕ → World → List Event → ℕ → Take → (World → Event → Type 0) → Type 0
FromThen servers w [] s u P = ⊥
FromThen servers w (event ∷ events) s u P =
    (P w event × NoneLeaves servers (world_after w (next servers w event)) events s (IsTaker u))
    ⊎ FromThen servers (world_after w (next servers w event)) events s u P

-- it was taken at the start, or it holds of one of the events, and since then the replica that took
-- it did not go
abbrev pub Since : ℕ → List Event → ℕ → Take → (World → Event → Type 0) → Type 0
Since servers events s u P = (Among u (first_takes (first_flags servers))
    × NoneLeaves servers (start servers) events s (IsTaker u))
    ⊎ FromThen servers (start servers) events s u P

-- only: since the replica last went, a place or flag that it has came to it, or another replica at
--   the server had it in some event
-- kept: and each that came to it since it last went it has
pub record TookByReplica (servers : ℕ) (events : List Event) (s : ℕ) : Type 0 where
  pub only : (u : Take) → IsOfNames u → Among u ((run servers events).took s)
      → Since servers events s u (λ w event. Comes servers w event s u ⊎ Passes servers w event s u)
  pub kept : (u : Take) → IsOfNames u
      → Since servers events s u (λ w event. Comes servers w event s u)
      → Among u ((run servers events).took s)

abbrev pub ReplicasTookWhatCame : ℕ → Type 0
ReplicasTookWhatCame servers = (events : List Event) (s : ℕ) → TookByReplica servers events s
