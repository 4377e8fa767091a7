-- What is to hold after any events: statements, each to be proved of all runs.
use Rattle.std.specs.Prelude.{ℕ, true, false, ◌≡◌, ◌≤◌, ◌↔◌, ◌++◌, ◌∷◌, Contains, List, Some, slice_get, suc, take, zero}
use Rattle.std.specs.Map.{values_of}
use Rattle.pg_base.specs.declared.id.FileId.{FileId}
use Rattle.pg_base.specs.Id.{is_same_file}
use Rattle.pg_register.specs.declared.place.Place.{Place}
use Rattle.pg_register.specs.Flag.{is_removed}
use Rattle.pg_register.specs.Place.{root}
use Rattle.pg_entries.specs.declared.entry.Entry.{Entry as Cell}
use Rattle.pg_entries.specs.Entry.{is_listed}
use Rattle.std.specs.List.{IsAmong}
use Rattle.pg_entries.specs.Shown.{shown_name}
use Rattle.pg_event.specs.declared.event.Event.{Event}
use Rattle.pg_server.specs.pg_pieces.pg_msg.declared.update.Update.TheVariants as update
use Rattle.pg_server.specs.declared.input.Input.{Input}
use Rattle.pg_event.specs.declared.quiet.Quiet.TheVariants.{Quiet}
use Rattle.pg_server.specs.pg_pieces.pg_names.declared.attributes.Attributes.{Attributes}
use Rattle.pg_server.specs.pg_pieces.pg_names.Names.{InodeValue, NamesValue, cell_at, known, own_at, own_or_blank}
use Rattle.pg_content.specs.Content.{ContentValue}
use Rattle.pg_server.specs.pg_pieces.pg_house.Facts.{NoCycle, NoDeadLists, OwnParent, Passing}
use Rattle.pg_server.specs.pg_pieces.pg_replica.declared.replica.Replica.{Replica}
use Rattle.pg_server.specs.pg_pieces.pg_store.declared.store.Store.{Store}
use Rattle.pg_server.specs.pg_pieces.pg_store.Store.{replica_at}
use Rattle.pg_run.specs.Asking.{Asked}
use Rattle.pg_run.specs.Graphs.{AreConnected, AreJoined, Holds, IsConnected}
use Rattle.pg_run.specs.Took.{Take, is_held, own_place, place_in, places_taken}
use Rattle.pg_run.specs.Took.Taker.{InDir}
use Rattle.pg_run.specs.Passed.{passed, passed_with}
use Rattle.pg_run.specs.Quiet.{IsQuiet, quiet_of}
use Rattle.pg_run.specs.Run.{World, is_live, made_behind, next, removed_then, run, taking_in, took_first}
use Rattle.pg_run.specs.State.{content_state, entry_state, own_state}

-- what a server holds after these events, and what it knows of names
abbrev pub store_after : ℕ → List Event → ℕ → Store
store_after servers events server = (run servers events).stores server

abbrev pub names_after : ℕ → List Event → ℕ → NamesValue
names_after servers events server = (store_after servers events server).names

-- of the servers of a run
abbrev pub AtEach : ℕ → (ℕ → Type 0) → Type 0
AtEach servers P = (server : ℕ) → 1 ≤ server → server ≤ servers → P server

-- of those that are not removed
abbrev pub AtLive : ℕ → World → (ℕ → Type 0) → Type 0
AtLive servers w P = (server : ℕ) → is_live servers w server ≡ true → P server

-- ---- merge

-- what the replicas of a server took comes to this content of a file
abbrev pub content_taken : World → FileId → ℕ → ContentValue
content_taken w file s = content_state file w.journal w.history (w.took s)

-- the content of each replica is the state of exactly the versions that it took
abbrev pub HoldsWhatItTook : ℕ → Type 0
HoldsWhatItTook servers = (events : List Event) (file : FileId) → AtEach servers (λ s.
    (x : Replica) → replica_at (store_after servers events s) file ≡ Some x
    → x.content ≡ content_taken (run servers events) file s)

-- a server holds the things of which a replica began there, and knows of names what its replicas
-- took: of each thing its place and its flags, and of each directory the entries of its children
pub record KnowsWhatItTook (servers : ℕ) (events : List Event) (s : ℕ) : Type 0 where
  pub held : (file : FileId)
      → is_held file ((run servers events).took s) ≡ true
      ↔ ((own : Attributes) × (own_at (names_after servers events s) file ≡ Some own))
  pub own : (file : FileId) → own_or_blank (names_after servers events s) file
      ≡ own_state file ((run servers events).took s)
  pub entries : (dir child : FileId) → cell_at (names_after servers events s) dir child
      ≡ entry_state dir child ((run servers events).took s)

abbrev pub NamesMerge : ℕ → Type 0
NamesMerge servers = (events : List Event) → AtEach servers (KnowsWhatItTook servers events)

-- ---- after every event, at each server

pub record IsInOrder (names : NamesValue) : Type 0 where
  pub passing : Passing names
  pub own_parent : OwnParent names
  pub returned : NoDeadLists names
  pub no_cycle : NoCycle names

abbrev pub HouseIsInOrder : ℕ → Type 0
HouseIsInOrder servers = (events : List Event)
    → AtEach servers (λ s. IsInOrder (names_after servers events s))

-- ---- wherever a run is quiet

abbrev pub WhereQuiet : ℕ → (World → Type 0) → Type 0
WhereQuiet servers P = (events : List Event) → IsQuiet servers (run servers events)
    → P (run servers events)

-- and the graph of each thing that is held is connected
abbrev pub WhereConnected : ℕ → (World → Type 0) → Type 0
WhereConnected servers P = (events : List Event) → IsQuiet servers (run servers events)
    → AreConnected servers (run servers events) → P (run servers events)

-- two servers have the same state of a thing: place, flags, entries and content
pub record Agree (w : World) (file : FileId) (s t : ℕ) : Type 0 where
  pub own : own_state file (w.took s) ≡ own_state file (w.took t)
  pub entries : (child : FileId)
      → entry_state file child (w.took s) ≡ entry_state file child (w.took t)
  pub content : content_taken w file s ≡ content_taken w file t

-- two servers that are joined by edges for a thing agree on it
abbrev pub QuietJoinedServersAgree : ℕ → Type 0
QuietJoinedServersAgree servers = WhereQuiet servers (λ w. (file : FileId)
    → AtLive servers w (λ s. AtLive servers w (λ t. AreJoined w file s t → Agree w file s t)))

-- so where its graph is connected all that hold it do
abbrev pub QuietServersAgree : ℕ → Type 0
QuietServersAgree servers = WhereQuiet servers (λ w. (file : FileId)
    → IsConnected servers w file → AtLive servers w (λ s. AtLive servers w (λ t.
    Holds w file s → Holds w file t → Agree w file s t)))

-- a live server holds a thing with this live place
pub record Stands (servers : ℕ) (w : World) (file : FileId) (place : Place) : Type 0 where
  pub server : ℕ
  pub there : is_live servers w server ≡ true
  pub own : Attributes
  pub held : own_at (w.stores server).names file ≡ Some own
  pub is : own.place ≡ place
  pub live : place.live ≡ true

-- a survivor
abbrev pub Survives : ℕ → World → FileId → Type 0
Survives servers w file = (place : Place) × Stands servers w file place

-- from a thing so many steps up lead to the root, through survivors
abbrev pub LeadsToRoot : ℕ → World → ℕ → FileId → Type 0
LeadsToRoot servers w zero file = file ≡ root
LeadsToRoot servers w (suc n) file =
    (place : Place) × Stands servers w file place × LeadsToRoot servers w n place.parent

-- no two children that a directory lists show one name
abbrev pub ShowsDistinctNames : FileId → InodeValue → Type 0
ShowsDistinctNames dir x = (a b : Cell) → IsAmong (values_of x.entries) a
    → IsAmong (values_of x.entries) b → is_listed dir a ≡ true → is_listed dir b ≡ true
    → shown_name x.entries dir a ≡ shown_name x.entries dir b → a.child ≡ b.child

pub record IsTree (servers : ℕ) (w : World) : Type 0 where
  pub leads : (file : FileId) → Survives servers w file → (n : ℕ) × LeadsToRoot servers w n file
  pub distinct : AtLive servers w (λ s. (dir : FileId) (x : InodeValue)
      → known (w.stores s).names dir ≡ Some x → ShowsDistinctNames dir x)

-- a live server's directory lists the thing by this cell
pub record Lists (servers : ℕ) (w : World) (dir file : FileId) (cell : Cell) : Type 0 where
  pub server : ℕ
  pub there : is_live servers w server ≡ true
  pub held : cell_at (w.stores server).names dir file ≡ Some cell
  pub listed : is_listed dir cell ≡ true

-- there: each survivor but the root is listed by every held replica of its parent, with its place
-- and
--   with exactly its flags
-- only: whatever is listed stands there, be it held where it is listed or not
-- nowhere_else: and a survivor is listed by no other directory, and with no other place
pub record IsListedOnly (servers : ℕ) (w : World) : Type 0 where
  pub there : (file : FileId) (own : Attributes) (s t : ℕ) → is_live servers w s ≡ true
      → is_live servers w t ≡ true
      → is_same_file file root ≡ false → own_at (w.stores s).names file ≡ Some own
      → own.place.live ≡ true
      → (parent : Attributes) → own_at (w.stores t).names own.place.parent ≡ Some parent
      → (cell : Cell) × (cell_at (w.stores t).names own.place.parent file ≡ Some cell)
      × (cell.place ≡ own.place) × (cell.flags ≡ own.flags)
  pub only : (dir file : FileId) (cell : Cell) → Lists servers w dir file cell
      → Stands servers w file cell.place
  pub nowhere_else : (dir file : FileId) (cell : Cell) (place : Place)
      → Lists servers w dir file cell → Stands servers w file place
      → (cell.place ≡ place) × (dir ≡ place.parent)

-- no directory that is dead at a server holds a survivor
abbrev pub IsBroughtBack : ℕ → World → Type 0
IsBroughtBack servers w = (file : FileId) (place : Place) → Stands servers w file place
    → is_same_file file root ≡ false → AtLive servers w (λ s. (own : Attributes)
    → own_at (w.stores s).names place.parent ≡ Some own → own.place.live ≡ true)

abbrev pub QuietNamesFormATree : ℕ → Type 0
QuietNamesFormATree servers = WhereConnected servers (IsTree servers)

abbrev pub QuietThingsAreListedOnlyWhereTheyStand : ℕ → Type 0
QuietThingsAreListedOnlyWhereTheyStand servers = WhereConnected servers (IsListedOnly servers)

abbrev pub QuietDirectoriesAreBroughtBack : ℕ → Type 0
QuietDirectoriesAreBroughtBack servers = WhereConnected servers (IsBroughtBack servers)

-- ---- returns are justified

-- what the replicas of a server took behind the first effect of an input, and behind so many of the
-- updates that the house rules made
abbrev pub took_behind : Store → Asked → List Take → Input → ℕ → List Take
took_behind store wants takes asked k =
    passed_with (removed_then store asked)
    (passed (removed_then store asked) (took_first store wants takes asked))
    (take k (made_behind store asked))

-- the house rules bring a directory back at a server, whose own place was this dead one, and where
-- it lists a child with this place
pub record Returns (store : Store) (wants : Asked) (takes : List Take) (asked : Input)
    (dir : FileId) (removal : Place) (child : FileId) (listed : Place) : Type 0 where
  pub k : ℕ
  pub place : Place
  pub made : slice_get (made_behind store asked) k ≡ Some (update.Place dir place)
  pub live : place.live ≡ true
  pub was : own_place dir (took_behind store wants takes asked k) ≡ removal
  pub dead : removal.live ≡ false
  pub kept : is_removed (removed_then store asked) removal.stamp.server ≡ false
  pub cell : place_in (InDir dir) child (took_behind store wants takes asked k) ≡ listed
  pub lists : listed.live ≡ true
  pub here : listed.parent ≡ dir

-- an event brings a server this input
abbrev pub TakesIn : ℕ → World → Event → ℕ → Input → Type 0
TakesIn servers w event s asked =
    taking_in servers w event ≡ Some (record { server = s; asked = asked })

-- JUSTIFIED RETURN: where a directory comes back, no listed child's place was known to the
-- remover's replica of the directory before it was removed
abbrev pub ReturnsAreJustified : ℕ → Type 0
ReturnsAreJustified servers =
    (before : List Event) (removing : Event) (between : List Event) (last : Event) (s m : ℕ)
    (asked : Input) (dir child : FileId) (removal listed : Place)
    → Contains (next servers (run servers before) removing).entry.made (update.Place dir removal)
    → removal.stamp.server ≡ m
    → let w = run servers (before ++ removing ∷ between) in
    TakesIn servers w last s asked
    → Returns (w.stores s) (w.asked s) (w.took s) asked dir removal child listed
    → ¬ (Contains (places_taken (InDir dir) child ((run servers before).took m)) listed)

-- a world is told to be quiet exactly where it is
abbrev pub QuietIsTold : Type 0
QuietIsTold = (servers : ℕ) (w : World) → (quiet_of servers w ≡ Quiet) ↔ IsQuiet servers w
