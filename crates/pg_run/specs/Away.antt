-- What begins at a server was not held there, and what is told of children is told of directories:
-- statements on all runs.
use Rattle.std.specs.Prelude.{ℕ, ◌≡◌, true, false, Contains, List, Some}
use Rattle.pg_base.specs.declared.id.FileId.{FileId}
use Rattle.pg_base.specs.declared.id.Kind.{Kind}
use Rattle.pg_event.specs.declared.event.Event.{Event}
use Rattle.pg_server.specs.pg_pieces.pg_msg.declared.message.Message.{Message}
use Rattle.pg_server.specs.pg_pieces.pg_msg.declared.message.Message.TheVariants as message
use Rattle.pg_server.specs.pg_pieces.pg_msg.declared.message.Sent.{Sent}
use Rattle.pg_server.specs.pg_pieces.pg_names.Names.{is_dir}
use Rattle.pg_server.specs.pg_pieces.pg_store.declared.store.Store.{Store}
use Rattle.pg_server.specs.pg_pieces.pg_store.declared.wishes.Wish.{Wish}
use Rattle.pg_server.specs.pg_pieces.pg_store.Births.{wish_at}
use Rattle.pg_server.specs.pg_pieces.pg_store.Store.{is_held}
use Rattle.pg_server.specs.pg_calls.Naming.{next_id}
use Rattle.theory_flood_pieces.specs.Whole.{PatchesAreForDirs}
use Rattle.pg_run.specs.Journal.{mail}
use Rattle.pg_run.specs.Laws.{AtEach, store_after}
use Rattle.pg_run.specs.Run.{World, run}

-- ---- what begins

-- wished: a wish is for what is not held
-- fresh: and so is the id that is given out next
pub record BeginsWhatIsAway (a : Store) : Type 0 where
  pub wished : (file : FileId) (wish : Wish) → wish_at a file ≡ Some wish → is_held a file ≡ false
  pub fresh : (kind : Kind) → is_held a (next_id a kind) ≡ false

abbrev pub WhatBeginsIsAway : ℕ → Type 0
WhatBeginsIsAway servers = (events : List Event)
    → AtEach servers (λ s. BeginsWhatIsAway (store_after servers events s))

-- ---- what is told of children

-- a directory is told, and a directory is answered
abbrev pub NamesDirectory : Message → Type 0
NamesDirectory (message.PlaceIs dir entry) = is_dir dir ≡ true
NamesDirectory (message.Tell dir entry) = is_dir dir ≡ true
NamesDirectory _ = Unit {0}

-- patches: no server intends to tell anything else
-- told: nor has any
pub record TellsDirectories (servers : ℕ) (w : World) : Type 0 where
  pub patches : AtEach servers (λ s. PatchesAreForDirs (w.stores s))
  pub told : (m : Sent) → Contains (mail w.journal) m → NamesDirectory m.packet.message

abbrev pub DirectoriesAreTold : ℕ → Type 0
DirectoriesAreTold servers =
    (events : List Event) → TellsDirectories servers (run servers events)
