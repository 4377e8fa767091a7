-- What is said of all that a server knows of names: of each thing, of each place and flag of a
-- thing, of each child of a directory, and of servers that are named; and of the messages that
-- bring these.
use Rattle.std.specs.Prelude.{ℕ, ◌≡◌, ◌≢◌, true, false, All, List, Some}
use Rattle.law_frame.specs.pg_run.pg_base.declared.id.FileId.{FileId}
use Rattle.law_frame.specs.pg_run.pg_base.Id.{is_same_file}
use Rattle.law_frame.specs.pg_run.pg_register.declared.flag.Flag.{Flag}
use Rattle.law_frame.specs.pg_run.pg_register.declared.place.Place.{Place}
use Rattle.law_frame.specs.pg_run.pg_register.Flag.{IsByServer}
use Rattle.law_frame.specs.pg_run.pg_register.Place.{blank_place, root, tilde_name}
use Rattle.law_frame.specs.pg_run.pg_entries.declared.cell.Cell.{Cell}
use Rattle.law_frame.specs.pg_run.pg_entries.declared.cell.Cell.TheVariants as cell
use Rattle.law_frame.specs.pg_run.pg_entries.declared.entry.Entry.{Entry}
use Rattle.law_frame.specs.pg_run.pg_intent.declared.intent.Intent.{Intent}
use Rattle.law_frame.specs.pg_run.pg_intent.declared.intent.Intent.TheVariants as intent
use Rattle.law_frame.specs.pg_run.pg_msg.declared.message.Granted.{Granted}
use Rattle.law_frame.specs.pg_run.pg_msg.declared.message.Message.{Message}
use Rattle.law_frame.specs.pg_run.pg_msg.declared.message.Message.TheVariants as message
use Rattle.law_frame.specs.pg_run.pg_msg.declared.work.Slot.{Slot}
use Rattle.law_frame.specs.pg_run.pg_names.declared.attributes.Attributes.{Attributes}
use Rattle.law_frame.specs.pg_run.pg_names.Names.{NamesValue, cell_at, is_dir, own_at}

pub record Saying : Type 1 where
  pub IsThing : FileId → Type 0
  pub IsPlace : FileId → Place → Type 0
  pub IsFlag : Flag → Type 0
  pub IsChild : FileId → Type 0
  pub IsServer : ℕ → Type 0

-- of a thing's own place and flags, which are by server
pub record IsSaidOwn (p : Saying) (file : FileId) (own : Attributes) : Type 0 where
  pub thing : p.IsThing file
  pub place : p.IsPlace file own.place
  pub flags : All p.IsFlag own.flags
  pub order : IsByServer own.flags

-- of a cell for a child, with flags by server
pub record IsSaidCell (p : Saying) (file : FileId) (e : Entry) : Type 0 where
  pub thing : p.IsThing file
  pub child : p.IsChild file
  pub place : p.IsPlace file e.place
  pub flags : All p.IsFlag e.flags
  pub order : IsByServer e.flags

-- it is said of all that is known at a server
pub record IsSaidOf (p : Saying) (names : NamesValue) : Type 0 where
  pub own : (file : FileId) (own : Attributes) → own_at names file ≡ Some own → IsSaidOwn p file own
  pub cells : (dir child : FileId) (e : Entry) → cell_at names dir child ≡ Some e
      → IsSaidCell p child e

-- of what a directory is told of a child
pub record IsSaidTold (p : Saying) (to : FileId) (e : Entry) : Type 0 where
  pub dir : is_dir to ≡ true
  pub of : p.IsThing to
  pub cell : IsSaidCell p e.child e

-- of what is intended; what is to go is no root
abbrev pub IsIntended : Saying → Intent → Type 0
IsIntended p (intent.Bye file birth peer peer_birth) = p.IsThing file
IsIntended p (intent.Seek file target) = p.IsThing file
IsIntended p (intent.Fill file birth target) = Unit {0}
IsIntended p (intent.Patch dir entry target) = IsSaidTold p dir entry
IsIntended p (intent.Confirm dir child target) = Unit {0}
IsIntended p (intent.Leave file peer peer_birth) = p.IsThing file × p.IsChild file

abbrev pub AreIntended : Saying → List Intent → Type 0
AreIntended p is = All (IsIntended p) is

-- of what an event notes: a child whose place in a directory was replaced
pub record IsSaidLeft (p : Saying) (slot : Slot) : Type 0 where
  pub dir : is_dir slot.dir ≡ true
  pub of : p.IsThing slot.dir
  pub thing : p.IsThing slot.child
  pub child : p.IsChild slot.child

-- ---- and of what a message brings

abbrev pub IsSaidOfCell : Saying → FileId → Cell → Type 0
IsSaidOfCell p file (cell.Place place) = p.IsPlace file place
IsSaidOfCell p file (cell.Flag flag) = p.IsFlag flag
IsSaidOfCell p file (cell.Entry e sure) = IsSaidTold p file e
IsSaidOfCell p file (cell.Version version) = Unit {0}

pub record IsSaidGranted (p : Saying) (file : FileId) (g : Granted) : Type 0 where
  pub thing : p.IsThing file
  pub place : p.IsPlace file g.place
  pub flags : All p.IsFlag g.flags
  pub order : IsByServer g.flags

abbrev pub IsSaidOfMessage : Saying → Message → Type 0
IsSaidOfMessage p (message.Cell ends tag c) = IsSaidOfCell p ends.file c
IsSaidOfMessage p (message.Grant ends granted) = IsSaidGranted p ends.file granted
IsSaidOfMessage p (message.Confirm dir entry) = IsSaidTold p dir entry
IsSaidOfMessage p (message.PlaceIs dir entry) = IsSaidTold p dir entry
IsSaidOfMessage p (message.Tell dir entry) = IsSaidTold p dir entry
IsSaidOfMessage p (message.Walk ends origin birth hops word) = p.IsServer origin
IsSaidOfMessage p _ = Unit {0}

-- ---- what the house rules and calls make of it may be said too

pub record IsClosed (p : Saying) : Type 0 where
  pub blank : (file : FileId) → is_same_file file root ≡ false → p.IsThing file
      → p.IsPlace file (blank_place file)
  pub again : (file : FileId) (place other : Place) → is_same_file file root ≡ false
      → p.IsPlace file place → other.parent ≡ place.parent → other.name ≡ place.name
      → p.IsPlace file other
  pub below : (dir : FileId) (place : Place) → is_same_file dir root ≡ false
      → place.parent ≡ root → place.name ≡ tilde_name dir → p.IsPlace dir place
  pub given : (file : FileId) (place : Place) → is_same_file file root ≡ false
      → p.IsThing place.parent → is_dir place.parent ≡ true
      → All (λ byte. byte ≢ 126) place.name → p.IsPlace file place
  pub parent : (file : FileId) (place : Place) → p.IsPlace file place
      → p.IsThing place.parent × (is_dir place.parent ≡ true)
  pub first : (place : Place) → p.IsPlace root place → place.live ≡ true
  pub child : (file : FileId) → is_same_file file root ≡ false → p.IsChild file
  pub other : (file : FileId) → p.IsChild file → is_same_file file root ≡ false
