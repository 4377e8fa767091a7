-- Which places and flags are known in a run: all that was ever made, and what was there at the
-- start; and what servers hold and messages bring of them.
use Rattle.std.specs.Prelude.{ℕ, ◌≡◌, ◌⊎◌, ◌<◌, ◌≤◌, true, Contains, List, [], ◌∷◌, Some}
use Rattle.pg_base.specs.declared.id.FileId.{FileId}
use Rattle.pg_content.specs.Content.{Among}
use Rattle.pg_register.specs.declared.flag.Flag.{Flag}
use Rattle.pg_register.specs.declared.place.Place.{Place}
use Rattle.pg_register.specs.Flag.{IsByServer, flag_of}
use Rattle.pg_register.specs.Place.{root}
use Rattle.pg_entries.specs.declared.cell.Cell.{Cell}
use Rattle.pg_entries.specs.declared.cell.Cell.TheVariants as cell
use Rattle.pg_entries.specs.declared.entry.Entry.{Entry as ChildEntry}
use Rattle.pg_server.specs.pg_pieces.pg_intent.declared.intent.Intent.TheVariants as intent
use Rattle.pg_server.specs.pg_pieces.pg_msg.declared.message.Message.{Message}
use Rattle.pg_server.specs.pg_pieces.pg_msg.declared.message.Message.TheVariants as message
use Rattle.pg_server.specs.pg_pieces.pg_msg.declared.message.Sent.{Sent}
use Rattle.pg_server.specs.pg_pieces.pg_msg.declared.update.Update.TheVariants as update
use Rattle.pg_event.specs.declared.entry.Entry.{Entry}
use Rattle.pg_event.specs.declared.event.Event.{Event}
use Rattle.pg_server.specs.pg_pieces.pg_names.declared.attributes.Attributes.{Attributes}
use Rattle.pg_server.specs.pg_pieces.pg_names.Names.{cell_at, is_dir, own_at}
use Rattle.pg_server.specs.pg_pieces.pg_store.declared.store.Store.{Store}
use Rattle.pg_server.specs.pg_pieces.pg_store.Start.{first_flags}
use Rattle.pg_server.specs.pg_pieces.pg_store.Together.{IsOver, birth_at}
use Rattle.pg_run.specs.Journal.{mail}
use Rattle.pg_run.specs.Laws.{AtEach}
use Rattle.pg_run.specs.Run.{World, run}
use Rattle.pg_run.specs.Took.{first_place}

-- ---- what was made

-- a place of a thing was made in one of these entries
abbrev pub WasMade : List Entry → FileId → Place → Type 0
WasMade [] file place = ⊥
WasMade (entry ∷ earlier) file place =
    Among (update.Place file place) entry.made ⊎ WasMade earlier file place

abbrev pub WasRaised : List Entry → FileId → Flag → Type 0
WasRaised [] file flag = ⊥
WasRaised (entry ∷ earlier) file flag =
    Among (update.Flag file flag) entry.made ⊎ WasRaised earlier file flag

-- the places of a thing that there are: those that were made, and the one of which none came
abbrev pub IsPlaceOf : World → FileId → Place → Type 0
IsPlaceOf w file place = (place ≡ first_place file) ⊎ WasMade w.journal file place

-- and its flags: those that were made, and of the root those of the start
abbrev pub IsFlagOf : ℕ → World → FileId → Flag → Type 0
IsFlagOf servers w file flag =
    ((file ≡ root) × Among flag (first_flags servers)) ⊎ WasRaised w.journal file flag

-- ---- what an entry, a message and a server tell of

-- what is said of all places and flags that are told, each with its thing
pub record Told : Type 1 where
  pub IsPlace : FileId → Place → Type 0
  pub IsFlag : FileId → Flag → Type 0

-- of a child's place and flags; and the flags are by server
pub record AreTold (p : Told) (child : FileId) (place : Place) (flags : List Flag) : Type 0
  where
    pub place_is : p.IsPlace child place
    pub flags_are : (flag : Flag) → Among flag flags → p.IsFlag child flag
    pub sorted : IsByServer flags

abbrev pub IsEntryTold : Told → ChildEntry → Type 0
IsEntryTold p e = AreTold p e.child e.place e.flags

abbrev pub IsCellTold : Told → FileId → Cell → Type 0
IsCellTold p file (cell.Place place) = p.IsPlace file place
IsCellTold p file (cell.Flag flag) = p.IsFlag file flag
IsCellTold p file (cell.Entry e sure) = IsEntryTold p e
IsCellTold p file (cell.Version version) = Unit {0}

-- what a message brings; what is told of a child is told of a directory
abbrev pub IsMessageTold : Told → Message → Type 0
IsMessageTold p (message.Cell ends tag c) = IsCellTold p ends.file c
IsMessageTold p (message.Grant ends granted) =
    AreTold p ends.file granted.place granted.flags
IsMessageTold p (message.Confirm dir e) = (is_dir dir ≡ true) × IsEntryTold p e
IsMessageTold p (message.PlaceIs dir e) = (is_dir dir ≡ true) × IsEntryTold p e
IsMessageTold p (message.Tell dir e) = (is_dir dir ≡ true) × IsEntryTold p e
IsMessageTold p _ = Unit {0}

-- what a server has of things itself, in the cells of directories, and in what it is to tell
pub record IsStoreTold (p : Told) (a : Store) : Type 0 where
  pub own : (file : FileId) (own : Attributes) → own_at a.names file ≡ Some own
      → AreTold p file own.place own.flags
  pub cells : (dir child : FileId) (e : ChildEntry) → cell_at a.names dir child ≡ Some e
      → (e.child ≡ child) × IsEntryTold p e
  pub patches : (dir : FileId) (e : ChildEntry) (target : ℕ)
      → Among (intent.Patch dir e target) a.intents → (is_dir dir ≡ true) × IsEntryTold p e

-- ---- the laws

-- the places and flags that there are in a world
abbrev pub of_run : ℕ → World → Told
of_run servers w = record { IsPlace = IsPlaceOf w; IsFlag = IsFlagOf servers w }

-- all servers have, and all messages ever sent bring, only places and flags that were made or there
-- at the start; and flags stand by server
pub record IsAllKnown (servers : ℕ) (w : World) : Type 0 where
  pub stores : AtEach servers (λ s. IsStoreTold (of_run servers w) (w.stores s))
  pub messages : (m : Sent) → Contains (mail w.journal) m
      → IsMessageTold (of_run servers w) m.packet.message

-- CARRIED IS KNOWN: nothing comes from nowhere
abbrev pub CarriedIsKnown : ℕ → Type 0
CarriedIsKnown servers = (events : List Event) → IsAllKnown servers (run servers events)

-- ONE PLACE A STAMP: of the places of a thing no two have one stamp
abbrev pub PlacesHaveOwnStamps : ℕ → Type 0
PlacesHaveOwnStamps servers = (events : List Event) (file : FileId) (p q : Place)
    → IsPlaceOf (run servers events) file p → IsPlaceOf (run servers events) file q
    → p.stamp ≡ q.stamp → p ≡ q

-- and of each place that was made the maker has come to its time
abbrev pub PlacesMadeArePast : ℕ → Type 0
PlacesMadeArePast servers = (events : List Event) (file : FileId) (place : Place)
    → WasMade (run servers events).journal file place
    → place.stamp.time ≤ ((run servers events).stores place.stamp.server).names.last

-- OWN FLAG: each flag of a thing, wherever it is known, is its server's own flag, which holds the
-- thing with the flag's birth, or the own flag is a later one of that birth; or the birth is over
abbrev pub IsUpToOwn : Flag → Flag → Type 0
IsUpToOwn flag own = (flag ≡ own) ⊎ ((flag.birth ≡ own.birth) × (flag.number < own.number))

pub record IsOwnFlag (a : Store) (file : FileId) (flag : Flag) : Type 0 where
  pub birth : birth_at a file ≡ Some flag.birth
  pub own : Attributes
  pub held : own_at a.names file ≡ Some own
  pub last : Flag
  pub is : flag_of own.flags flag.server ≡ Some last
  pub upto : IsUpToOwn flag last

abbrev pub FlagsAreOwn : ℕ → Type 0
FlagsAreOwn servers = (events : List Event) (file : FileId) (flag : Flag)
    → IsFlagOf servers (run servers events) file flag
    → IsOwnFlag ((run servers events).stores flag.server) file flag
    ⊎ IsOver ((run servers events).stores flag.server) file flag.birth

-- ONE FLAG A NUMBER: of the flags of a thing no two of one server have one birth and number
abbrev pub FlagsHaveOwnNumbers : ℕ → Type 0
FlagsHaveOwnNumbers servers = (events : List Event) (file : FileId) (a b : Flag)
    → IsFlagOf servers (run servers events) file a → IsFlagOf servers (run servers events) file b
    → a.server ≡ b.server → a.birth ≡ b.birth → a.number ≡ b.number → a ≡ b
