-- What places are known in a run, and where they come from: statements.
use Rattle.std.specs.Prelude.{ℕ, ◌≡◌, ◌⊎◌, false, List, Contains, Some}
use Rattle.law_frame.specs.pg_run.pg_base.declared.id.FileId.{FileId}
use Rattle.law_frame.specs.pg_run.pg_base.Id.{is_same_file}
use Rattle.law_frame.specs.pg_run.pg_entries.declared.cell.Cell.{Cell}
use Rattle.law_frame.specs.pg_run.pg_entries.declared.cell.Cell.TheVariants as cells
use Rattle.law_frame.specs.pg_run.pg_entries.declared.entry.Entry.{Entry}
use Rattle.law_frame.specs.pg_run.pg_event.declared.event.Event.{Event}
use Rattle.law_frame.specs.pg_run.pg_intent.declared.intent.Intent.TheVariants as intent
use Rattle.law_frame.specs.pg_run.pg_intent.declared.key.IntentKey.TheVariants as intent_key
use Rattle.law_frame.specs.pg_run.pg_intent.Intents.{intent_at}
use Rattle.law_frame.specs.pg_run.pg_msg.declared.message.Message.{Message}
use Rattle.law_frame.specs.pg_run.pg_msg.declared.message.Message.TheVariants as message
use Rattle.law_frame.specs.pg_run.pg_msg.declared.message.Sent.{Sent}
use Rattle.law_frame.specs.pg_run.pg_names.declared.attributes.Attributes.{Attributes}
use Rattle.law_frame.specs.pg_run.pg_names.Names.{NamesValue, cell_at, own_at}
use Rattle.law_frame.specs.pg_run.pg_register.declared.place.Place.{Place}
use Rattle.law_frame.specs.pg_run.pg_register.Laws.{IsOnePlace}
use Rattle.law_frame.specs.pg_run.pg_register.Place.{root}
use Rattle.law_frame.specs.pg_run.pg_store.declared.store.Store.{Store}
use Rattle.law_frame.specs.pg_run.Journal.{mail}
use Rattle.law_frame.specs.pg_run.Known.{IsPlaceOf, WasMade}
use Rattle.law_frame.specs.pg_run.Run.{World, run}

-- ---- which places are known

-- a thing has this place at a server, or a directory has it in its cell for the thing
abbrev pub KnowsPlace : NamesValue → FileId → Place → Type 0
KnowsPlace names file place =
    ((own : Attributes) × (own_at names file ≡ Some own) × (own.place ≡ place))
    ⊎ ((dir : FileId) × (e : Entry) × (cell_at names dir file ≡ Some e) × (e.place ≡ place))

-- a directory is to be told this place of the thing
pub record OwesPlace (a : Store) (file : FileId) (place : Place) : Type 0 where
  pub dir : FileId
  pub entry : Entry
  pub target : ℕ
  pub owed : intent_at a.intents (intent_key.Patch dir file)
      ≡ Some (intent.Patch dir entry target)
  pub is : entry.place ≡ place

abbrev pub cell_tells : FileId → Cell → FileId → Place → Type 0
cell_tells of (cells.Place told) file place = (of ≡ file) × (told ≡ place)
cell_tells of (cells.Entry e sure) file place = (e.child ≡ file) × (e.place ≡ place)
cell_tells of _ file place = ⊥

-- a message tells this place of the thing. The root is never granted
abbrev pub tells : Message → FileId → Place → Type 0
tells (message.Cell ends tag c) file place = cell_tells ends.file c file place
tells (message.Grant ends granted) file place =
    (ends.file ≡ file) × (is_same_file file root ≡ false) × (granted.place ≡ place)
tells (message.Confirm dir e) file place = (e.child ≡ file) × (e.place ≡ place)
tells (message.PlaceIs dir e) file place = (e.child ≡ file) × (e.place ≡ place)
tells (message.Tell dir e) file place = (e.child ≡ file) × (e.place ≡ place)
tells _ file place = ⊥

-- some message that was ever sent does
pub record WasSent (w : World) (file : FileId) (place : Place) : Type 0 where
  pub sent : Sent
  pub mailed : Contains (mail w.journal) sent
  pub tells : tells sent.packet.message file place

-- the place is known at some server, or is told
abbrev pub IsKnown : World → FileId → Place → Type 0
IsKnown w file place = ((s : ℕ) × KnowsPlace (w.stores s).names file place)
    ⊎ (((s : ℕ) × OwesPlace (w.stores s) file place) ⊎ WasSent w file place)

-- ---- where they come from

-- PLACES COME FROM THE JOURNAL: each is one that was made, or the one that is known of a thing
-- before any is made. None comes from nowhere
abbrev pub PlacesWereMade : ℕ → Type 0
PlacesWereMade servers = (events : List Event) (file : FileId) (place : Place)
    → IsKnown (run servers events) file place → IsPlaceOf (run servers events) file place

-- no two places that were made have one stamp, be it of two things
abbrev pub OneMadePlaceAStamp : ℕ → Type 0
OneMadePlaceAStamp servers = (events : List Event) (f g : FileId) (p q : Place)
    → WasMade (run servers events).journal f p → WasMade (run servers events).journal g q
    → p.stamp ≡ q.stamp → (f ≡ g) × (p ≡ q)

-- ONE PLACE A STAMP: two places of a thing that are known anywhere with one stamp are one place
abbrev pub OnePlaceAStamp : ℕ → Type 0
OnePlaceAStamp servers = (events : List Event) (file : FileId) (p q : Place)
    → IsKnown (run servers events) file p → IsKnown (run servers events) file q → IsOnePlace p q
