-- A run by computation: a directory is made at one server, and another hears of it by its entry and
-- does not hold it; a call there fetches it; and then its death comes by its entry, and is held
-- back.
use Rattle.std.proofs.Common.{[], ◌≡◌, ◌++◌, true, false, List, ◌∷◌, length, None, Some, refl}
use Rattle.pg_base.specs.declared.id.Kind.TheVariants.{Dir}
use Rattle.pg_base.specs.declared.id.FileId.{FileId}
use Rattle.pg_register.specs.declared.place.Place.{Place}
use Rattle.pg_register.specs.Place.{root}
use Rattle.pg_server.specs.pg_pieces.pg_call.declared.call.Call.TheVariants.{Ls, Mkdir, Rmdir}
use Rattle.pg_event.specs.declared.event.Event.{Event}
use Rattle.pg_event.specs.declared.event.Event.TheVariants.{Call, Deliver}
use Rattle.pg_server.specs.pg_pieces.pg_house.Holding.{held_back}
use Rattle.pg_server.specs.pg_pieces.pg_names.declared.attributes.Attributes.{Attributes}
use Rattle.pg_server.specs.pg_pieces.pg_names.Names.{cell_at, own_at}
use Rattle.pg_server.specs.pg_pieces.pg_store.Births.{birth_of}
use Rattle.pg_run.specs.Journal.{bag}
use Rattle.pg_run.specs.State.{entry_state, own_state}
use Rattle.pg_run.specs.Took.{is_held}
use Rattle.pg_run.specs.Run.{World, run}

abbrev dir : FileId
dir = record { kind = Dir; server = 1; number = 1 }

-- the replica of its maker is the second that this began, behind that of the root
abbrev own : Attributes
own = record {
  place = record {
    stamp = record { time = 10; server = 1 };
    parent = root;
    name = 100 ∷ [];
    live = true;
  };
  flags = record { server = 1; birth = 2; number = 1; raised = true } ∷ [];
}

-- a directory `d` in the root. Its own replica has no edge yet
abbrev made : World
made = run 2 (Call 1 10 (Mkdir (47 ∷ 100 ∷ [])) ∷ [])

sends_its_entry : length (bag made.journal) ≡ 1
sends_its_entry = refl

maker_took : own_state dir (made.took 1) ≡ own
maker_took = refl

maker_holds : own_at (made.stores 1).names dir ≡ Some own
maker_holds = refl

maker_birth : birth_of (made.stores 1) dir ≡ 2
maker_birth = refl

-- ---- the entry came: the other lists it and does not hold it

abbrev told_events : List Event
told_events = Call 1 10 (Mkdir (47 ∷ 100 ∷ [])) ∷ Deliver 1 ∷ []

abbrev told : World
told = run 2 told_events

other_lacks : own_at (told.stores 2).names dir ≡ None
other_lacks = refl

other_began_none : is_held dir (told.took 2) ≡ false
other_began_none = refl

entry_took : entry_state root dir (told.took 2)
    ≡ Some (record { child = dir; place = own.place; flags = own.flags })
entry_took = refl

entry_held : cell_at (told.stores 2).names root dir ≡ entry_state root dir (told.took 2)
entry_held = refl

-- ---- a call asks for it, and its maker grants it

abbrev granted_events : List Event
granted_events = told_events ++ (Call 2 20 (Ls (47 ∷ 100 ∷ []) 0) ∷ Deliver 3 ∷ Deliver 3 ∷ [])

abbrev granted : World
granted = run 2 granted_events

other_began : is_held dir (granted.took 2) ≡ true
other_began = refl

other_took : own_state dir (granted.took 2) ≡ own
other_took = refl

other_holds : own_at (granted.stores 2).names dir ≡ Some own
other_holds = refl

other_birth : birth_of (granted.stores 2) dir ≡ 2
other_birth = refl

-- ---- a death that comes by an entry

abbrev dead : Place
dead = record {
  stamp = record { time = 20; server = 1 };
  parent = root;
  name = 100 ∷ [];
  live = false;
}

abbrev gone : World
gone = run 2 (granted_events ++ (Call 1 20 (Rmdir (47 ∷ 100 ∷ [])) ∷ Deliver 8 ∷ []))

maker_took_it : (own_state dir (gone.took 1)).place ≡ dead
maker_took_it = refl

entry_took_it : entry_state root dir (gone.took 2)
    ≡ Some (record { child = dir; place = dead; flags = own.flags })
entry_took_it = refl

entry_holds_it : cell_at (gone.stores 2).names root dir
    ≡ Some (record { child = dir; place = dead; flags = own.flags })
entry_holds_it = refl

-- the directory itself does not take it
stays_live : own_state dir (gone.took 2) ≡ own
stays_live = refl

still_live : own_at (gone.stores 2).names dir ≡ Some own
still_live = refl

is_held_back : held_back (gone.stores 2).names ≡ dir ∷ []
is_held_back = refl
