-- What is said of all flags that a server knows, and that messages bring.
use Rattle.std.specs.Prelude.{ℕ, ◌≡◌, All, Some}
use Rattle.pg_run.specs.pg_base.declared.id.FileId.{FileId}
use Rattle.pg_run.specs.pg_entries.declared.cell.Cell.{Cell}
use Rattle.pg_run.specs.pg_entries.declared.cell.Cell.TheVariants as cell
use Rattle.pg_run.specs.pg_entries.declared.entry.Entry.{Entry}
use Rattle.pg_run.specs.pg_intent.declared.intent.Intent.{Intent}
use Rattle.pg_run.specs.pg_intent.declared.intent.Intent.TheVariants as intent
use Rattle.pg_run.specs.pg_msg.declared.message.Message.{Message}
use Rattle.pg_run.specs.pg_msg.declared.message.Message.TheVariants as message
use Rattle.pg_run.specs.pg_names.declared.attributes.Attributes.{Attributes}
use Rattle.pg_run.specs.pg_names.Names.{NamesValue, cell_at, own_at}
use Rattle.pg_run.specs.pg_register.declared.flag.Flag.{Flag}
use Rattle.pg_run.specs.pg_store.declared.store.Store.{Store}

-- a property of flags, each of a thing
abbrev pub OfFlags : Type 1
OfFlags = FileId → Flag → Type 0

abbrev pub SaysEntry : OfFlags → Entry → Type 0
SaysEntry Q e = All (Q e.child) e.flags

-- it holds of the flags that a server knows of things themselves, and of those in the cells of
-- directories; each cell is of its own child
pub record SaysNames (Q : FileId → Flag → Type 0) (s : ℕ) (names : NamesValue) : Type 0 where
  pub server : names.server ≡ s
  pub own : (file : FileId) (own : Attributes) → own_at names file ≡ Some own
      → All (Q file) own.flags
  pub cells : (dir child : FileId) (e : Entry) → cell_at names dir child ≡ Some e
      → (e.child ≡ child) × All (Q child) e.flags

-- a property of Byes: of the thing, the birth that is over, and the peer with its birth
abbrev pub OfByes : Type 1
OfByes = FileId → ℕ → ℕ → ℕ → Type 0

abbrev pub AnyBye : OfByes
AnyBye file birth peer peer_birth = Unit {0}

-- and of those that are to be told; and it holds of each Bye
abbrev pub SaysIntent : OfFlags → OfByes → Intent → Type 0
SaysIntent Q B (intent.Bye file birth peer peer_birth) = B file birth peer peer_birth
SaysIntent Q B (intent.Seek file target) = Unit {0}
SaysIntent Q B (intent.Fill file birth target) = Unit {0}
SaysIntent Q B (intent.Patch dir e target) = SaysEntry Q e
SaysIntent Q B (intent.Confirm dir child target) = Unit {0}
SaysIntent Q B (intent.Leave file peer peer_birth) = Unit {0}

pub record SaysStore (Q : FileId → Flag → Type 0) (B : FileId → ℕ → ℕ → ℕ → Type 0) (s : ℕ)
    (a : Store) : Type 0 where
  pub names : SaysNames Q s a.names
  pub intents : All (SaysIntent Q B) a.intents

-- and of those that a message brings
abbrev pub SaysCell : OfFlags → FileId → Cell → Type 0
SaysCell Q file (cell.Place place) = Unit {0}
SaysCell Q file (cell.Flag flag) = Q file flag
SaysCell Q file (cell.Entry e sure) = SaysEntry Q e
SaysCell Q file (cell.Version v) = Unit {0}

abbrev pub SaysMessage : OfFlags → Message → Type 0
SaysMessage Q (message.Cell ends tag c) = SaysCell Q ends.file c
SaysMessage Q (message.Grant ends granted) = All (Q ends.file) granted.flags
SaysMessage Q (message.Confirm dir e) = SaysEntry Q e
SaysMessage Q (message.PlaceIs dir e) = SaysEntry Q e
SaysMessage Q (message.Tell dir e) = SaysEntry Q e
SaysMessage Q _ = Unit {0}
