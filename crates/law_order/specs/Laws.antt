-- What holds of names along every run.
use Rattle.std.specs.Prelude.{ℕ, ◌≡◌, ◌<◌, ◌^◌, true, false, Contains, List, Some, None, [], length}
use Rattle.std.specs.List.Sorted.{IsStrictlySortedBy}
use Rattle.std.specs.Map.{keys_of}
use Rattle.law_frame.specs.pg_run.pg_base.declared.id.FileId.{FileId}
use Rattle.law_frame.specs.pg_run.pg_base.declared.id.Kind.{Kind}
use Rattle.law_frame.specs.pg_run.pg_base.Id.{file_cmp}
use Rattle.law_frame.specs.pg_run.pg_entries.declared.entry.Entry.{Entry}
use Rattle.law_frame.specs.pg_run.pg_event.declared.event.Event.{Event}
use Rattle.law_frame.specs.pg_run.pg_house.Cycles.{is_lost}
use Rattle.law_frame.specs.pg_run.pg_house.Facts.{AreOrdered, is_among}
use Rattle.law_frame.specs.pg_run.pg_msg.declared.message.Sent.{Sent}
use Rattle.law_frame.specs.pg_run.pg_names.declared.attributes.Attributes.{Attributes}
use Rattle.law_frame.specs.pg_run.pg_names.Names.{InodeValue, NamesValue, cell_at, directories, is_dir, known, own_at}
use Rattle.law_frame.specs.pg_run.pg_register.Place.{root, root_place}
use Rattle.law_frame.specs.pg_run.pg_calls.Naming.{next_id}
use Rattle.law_frame.specs.pg_run.theory_flood_pieces.Whole.{IsWhole}
use Rattle.law_frame.specs.pg_run.pg_server.Local.{first_effect}
use Rattle.law_frame.specs.pg_run.pg_store.declared.store.Store.{Store}
use Rattle.law_frame.specs.pg_run.pg_store.Beginning.{patches_of}
use Rattle.law_frame.specs.pg_run.pg_store.Births.{fill_at}
use Rattle.law_frame.specs.pg_run.pg_store.Store.{is_held}
use Rattle.law_frame.specs.pg_run.pg_store.Together.{AreBirths}
use Rattle.law_frame.specs.pg_run.Journal.{mail}
use Rattle.law_frame.specs.pg_run.Laws.{AtEach, HouseIsInOrder, ShowsDistinctNames, names_after, store_after}
use Rattle.law_frame.specs.pg_run.Run.{Taking, World, run, taking_in}
use Rattle.law_order.specs.Named.{naming}
use Rattle.law_order.specs.Saying.{AreIntended, IsSaidOf, IsSaidOfMessage}

-- after all events, at all servers of all runs
abbrev pub HouseStaysInOrder : Type 0
HouseStaysInOrder = (servers : ℕ) → HouseIsInOrder servers

-- ---- servers are whole

abbrev pub ServersAreWhole : ℕ → Type 0
ServersAreWhole servers = (events : List Event)
    → AtEach servers (λ s. IsWhole servers s (store_after servers events s))

-- so they are behind the first effect of each input, before the house rules
abbrev pub FirstEffectsAreWhole : ℕ → Type 0
FirstEffectsAreWhole servers = (events : List Event) (event : Event) (t : Taking)
    → taking_in servers (run servers events) event ≡ Some t
    → IsWhole servers t.server (first_effect (store_after servers events t.server) t.asked).store

-- and the entries of each directory are by id
abbrev pub FirstEffectsAreOrdered : ℕ → Type 0
FirstEffectsAreOrdered servers = (events : List Event) (event : Event) (t : Taking)
    → taking_in servers (run servers events) event ≡ Some t
    → AreOrdered (first_effect (store_after servers events t.server) t.asked).store.names

-- things, and the entries of each directory, are by id
pub record AreById (names : NamesValue) : Type 0 where
  pub entries : AreOrdered names
  pub things : IsStrictlySortedBy file_cmp (keys_of names.held)

abbrev pub NamesAreById : ℕ → Type 0
NamesAreById servers = (events : List Event)
    → AtEach servers (λ s. AreById (names_after servers events s))

-- ---- places and names

-- dirs: whatever is held stands in a directory
-- first: the root in itself
-- inner: no directory has a cell for the root
-- found: from each held directory the steps up come out of the live directories
pub record ArePlacedWell (names : NamesValue) : Type 0 where
  pub dirs : (file : FileId) (own : Attributes) → own_at names file ≡ Some own
      → is_dir own.place.parent ≡ true
  pub first : (own : Attributes) → own_at names root ≡ Some own → own.place ≡ root_place
  pub inner : (dir : FileId) (e : Entry) → cell_at names dir root ≡ Some e → ⊥
  pub found : (dir : FileId) → is_among dir (directories names) ≡ true
      → is_lost names (length (directories names)) dir ≡ false

abbrev pub ThingsArePlacedWell : ℕ → Type 0
ThingsArePlacedWell servers = (events : List Event)
    → AtEach servers (λ s. ArePlacedWell (names_after servers events s))

-- no directory shows two children by one name, where servers have numbers that ids can have
abbrev pub NamesAreDistinct : ℕ → Type 0
NamesAreDistinct servers = servers < 2 ^ 32 → (events : List Event)
    → AtEach servers (λ s. (dir : FileId) (x : InodeValue)
    → known (names_after servers events s) dir ≡ Some x → ShowsDistinctNames dir x)

-- ---- what is said of all that is known

-- how many ids each server gave out
abbrev pub files_of : (ℕ → Store) → ℕ → ℕ
files_of stores k = (stores k).files

-- of what servers know and intend, and of all messages ever sent: all ids were given out, all
-- parents are directories, all names are a client's or made of an id, all flags are of the run's
-- servers, and walks begin at these
pub record IsAllNamed (servers : ℕ) (w : World) : Type 0 where
  pub names : AtEach servers (λ s.
      IsSaidOf (naming servers (files_of w.stores)) (w.stores s).names)
  pub intents : AtEach servers (λ s.
      AreIntended (naming servers (files_of w.stores)) (w.stores s).intents)
  pub mail : (m : Sent) → Contains (mail w.journal) m
      → IsSaidOfMessage (naming servers (files_of w.stores)) m.packet.message

abbrev pub AllIsNamed : ℕ → Type 0
AllIsNamed servers = (events : List Event) → IsAllNamed servers (run servers events)

-- ---- what begins

-- births are as they were given out
abbrev pub BirthsAreGiven : ℕ → Type 0
BirthsAreGiven servers = (events : List Event)
    → AtEach servers (λ s. AreBirths (store_after servers events s))

-- the id that a server gives out next is not held there, no Patch is for it, and no Fill is of it
pub record IsNextIdNew (a : Store) (id : FileId) : Type 0 where
  pub away : is_held a id ≡ false
  pub untold : patches_of id a.intents ≡ []
  pub unfilled : fill_at a id ≡ None

abbrev pub NextIdsAreNew : ℕ → Type 0
NextIdsAreNew servers = (events : List Event) → AtEach servers (λ s. (kind : Kind)
    → IsNextIdNew (store_after servers events s) (next_id (store_after servers events s) kind))
