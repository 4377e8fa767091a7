-- What a server took, by what was made and delivered: nothing comes of passing that it did not know
-- before, and what a replica took goes with it alone.
use Rattle.std.specs.Prelude.{ℕ, ◌⊎◌, ◌≡◌, ◌↔◌, true, List, [], ◌∷◌, ◌++◌, Some, map}
use Rattle.pg_base.specs.declared.id.FileId.{FileId}
use Rattle.pg_base.specs.declared.stamp.Stamp.{Stamp}
use Rattle.pg_content.specs.Content.{Among}
use Rattle.pg_register.specs.declared.flag.Flag.{Flag}
use Rattle.pg_register.specs.declared.place.Place.{Place}
use Rattle.pg_event.specs.declared.event.Event.{Event}
use Rattle.pg_server.specs.pg_pieces.pg_store.declared.store.Store.{Store}
use Rattle.pg_server.specs.pg_pieces.pg_store.Start.{first_flags}
use Rattle.pg_server.specs.declared.input.Input.{Input}
use Rattle.pg_server.specs.Local.{effect, takes_effect}
use Rattle.pg_run.specs.Took.{Take, first_takes, is_held, stamps_taken, take_of}
use Rattle.pg_run.specs.Asking.{Asked}
use Rattle.pg_run.specs.Carried.{gone_in}
use Rattle.pg_run.specs.Passed.{flags_known, places_known}
use Rattle.pg_run.specs.Run.{World, brought, first_made, made_behind, next, run, start, taking_in, world_after}

-- what an input brings a server: what its first effect brings, and what is made in the event
abbrev pub all_brought : Store → Asked → Input → List Take
all_brought store wants asked =
    brought store wants asked ++ map take_of (effect store asked).out.made

-- an event brings a server, at which it takes effect, takes of which this holds
pub record Brings (servers : ℕ) (w : World) (event : Event) (s : ℕ) (P : List Take → Type 0)
    : Type 0 where
  pub asked : Input
  pub takes : taking_in servers w event ≡ Some (record { server = s; asked = asked })
  pub going : takes_effect (w.stores s) asked ≡ true
  pub holds : P (all_brought (w.stores s) (w.asked s) asked)

-- the replica of a thing, for which this holds, goes at a server in an event
pub record Leaves (servers : ℕ) (w : World) (event : Event) (s : ℕ) (Of : FileId → Type 0)
    : Type 0 where
  pub asked : Input
  pub takes : taking_in servers w event ≡ Some (record { server = s; asked = asked })
  pub going : takes_effect (w.stores s) asked ≡ true
  pub file : FileId
  pub gone : gone_in (w.stores s) asked ≡ Some file
  pub of : Of file

-- in none of these events does one go
abbrev pub NoneLeaves : ℕ → World → List Event → ℕ → (FileId → Type 0) → Type 0
NoneLeaves servers w [] s Of = Unit {0}
NoneLeaves servers w (event ∷ events) s Of = ¬ (Leaves servers w event s Of)
    × NoneLeaves servers (world_after w (next servers w event)) events s Of

-- one of these events brings it, in a run that goes on from a world, and behind it no replica of
-- these things goes
abbrev pub CameFrom : ℕ → World → List Event → ℕ → (FileId → Type 0) → (List Take → Type 0) → Type 0
CameFrom servers w [] s Of P = ⊥
CameFrom servers w (event ∷ events) s Of P =
    (Brings servers w event s P
    × NoneLeaves servers (world_after w (next servers w event)) events s Of)
    ⊎ CameFrom servers (world_after w (next servers w event)) events s Of P

-- it was there from the start on, or one of the events brought it, and since then no replica of
-- these things went
abbrev pub CameSince : ℕ → List Event → ℕ → (FileId → Type 0) → (List Take → Type 0) → Type 0
CameSince servers events s Of P =
    (P (first_takes (first_flags servers)) × NoneLeaves servers (start servers) events s Of)
    ⊎ CameFrom servers (start servers) events s Of P

-- whatever went since
abbrev pub Came : ℕ → List Event → ℕ → (List Take → Type 0) → Type 0
Came servers events s P = CameSince servers events s (λ file. ⊥) P

-- What a server holds, and the versions of a file that came to it, are those that it made, that
-- were delivered to it, or that were there from the start on, since the thing's replica last went
-- there. The places and flags that it knows of a thing came so too; and each that came it knows, as
-- long as no replica goes
pub record TookWhatCame (servers : ℕ) (events : List Event) (s : ℕ) : Type 0 where
  pub began : (file : FileId)
      → is_held file ((run servers events).took s) ≡ true
      ↔ CameSince servers events s (λ f. f ≡ file) (λ takes. is_held file takes ≡ true)
  pub places : (thing : FileId) (place : Place)
      → Among place (places_known thing ((run servers events).took s))
      → Came servers events s (λ takes. Among place (places_known thing takes))
  pub places_kept : (thing : FileId) (place : Place)
      → CameSince servers events s (λ f. Unit {0}) (λ takes. Among place (places_known thing takes))
      → Among place (places_known thing ((run servers events).took s))
  pub flags : (thing : FileId) (flag : Flag)
      → Among flag (flags_known thing ((run servers events).took s))
      → Came servers events s (λ takes. Among flag (flags_known thing takes))
  pub flags_kept : (thing : FileId) (flag : Flag)
      → CameSince servers events s (λ f. Unit {0}) (λ takes. Among flag (flags_known thing takes))
      → Among flag (flags_known thing ((run servers events).took s))
  pub versions : (file : FileId) (stamp : Stamp)
      → Among stamp (stamps_taken file ((run servers events).took s))
      ↔ CameSince servers events s (λ f. f ≡ file)
      (λ takes. Among stamp (stamps_taken file takes))

abbrev pub TakesWhatCame : ℕ → Type 0
TakesWhatCame servers = (events : List Event) (s : ℕ) → TookWhatCame servers events s

-- what is made in an event is what its first effect made, and behind that what the house rules made
abbrev pub IsMadeInParts : Type 0
IsMadeInParts = (store : Store) (asked : Input)
    → (effect store asked).out.made ≡ first_made store asked ++ made_behind store asked
