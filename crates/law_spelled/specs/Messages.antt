-- What the types of a message say of it, what may come to a server, and what it sends.
use Rattle.std.specs.Prelude.{◌≡◌, length}
use Rattle.pg_base.specs.declared.id.FileId.{FileId}
use Rattle.pg_base.specs.Id as id
use Rattle.pg_register.specs.declared.place.Place.{Place}
use Rattle.pg_register.specs.Flag.{IsByServer}
use Rattle.pg_entries.specs.declared.cell.Cell.{Cell}
use Rattle.pg_entries.specs.declared.cell.Cell.TheVariants as cell
use Rattle.pg_entries.specs.declared.entry.Entry.{Entry}
use Rattle.pg_msg.specs.declared.message.Message.{Message}
use Rattle.pg_msg.specs.declared.message.Message.TheVariants as message
use Rattle.pg_msg.specs.declared.message.Sent.{Sent}
use Rattle.pg_server.specs.declared.input.Input.{Input}
use Rattle.pg_server.specs.declared.input.Input.TheVariants as input
use Rattle.pg_words.specs.StampWord.{IsStamp}
use Rattle.pg_packet_write.specs.Messages.{FitsMessage}
use Rattle.law_spelled.specs.Stores.{MayBeServer}

-- ---- what the types say

-- the numbers of a thing's place are in their ranges
pub record HasPlaceWidths (file : FileId) (place : Place) : Type 0 where
  pub thing : id.Fits file
  pub stamp : IsStamp place.stamp
  pub parent : id.Fits place.parent

abbrev pub HasCellWidths : FileId → Cell → Type 0
HasCellWidths file (cell.Place place) = HasPlaceWidths file place
HasCellWidths file (cell.Flag flag) = Unit {0}
HasCellWidths file (cell.Entry entry sure) = HasPlaceWidths entry.child entry.place
HasCellWidths file (cell.Version version) = length version.body ≡ version.head.length

abbrev pub HasToldWidths : FileId → Entry → Type 0
HasToldWidths dir entry = id.Fits dir × HasPlaceWidths entry.child entry.place

-- where the spelling of a message asks for it: the numbers of ids and stamps are in their ranges,
-- and a version has the body of which its head tells the length
abbrev pub HasWidths : Message → Type 0
HasWidths (message.Cell ends tag c) = HasCellWidths ends.file c
HasWidths (message.Grant ends granted) = HasPlaceWidths ends.file granted.place
HasWidths (message.Confirm dir entry) = HasToldWidths dir entry
HasWidths (message.PlaceIs dir entry) = HasToldWidths dir entry
HasWidths (message.Tell dir entry) = HasToldWidths dir entry
HasWidths (message.TellOk dir child stamp) = id.Fits dir
HasWidths _ = Unit {0}

abbrev pub IsCellByServer : Cell → Type 0
IsCellByServer (cell.Entry entry sure) = IsByServer entry.flags
IsCellByServer _ = Unit {0}

-- flags are by server
abbrev pub IsFlaggedByServer : Message → Type 0
IsFlaggedByServer (message.Cell ends tag c) = IsCellByServer c
IsFlaggedByServer (message.Grant ends granted) = IsByServer granted.flags
IsFlaggedByServer (message.Confirm dir entry) = IsByServer entry.flags
IsFlaggedByServer (message.PlaceIs dir entry) = IsByServer entry.flags
IsFlaggedByServer (message.Tell dir entry) = IsByServer entry.flags
IsFlaggedByServer _ = Unit {0}

-- ---- what comes

-- a message has a spelling, and its flags are by server
pub record FitsArrival (m : Message) : Type 0 where
  pub spelled : FitsMessage m
  pub flags : IsFlaggedByServer m

-- of calls, ticks and restarts nothing is asked
abbrev pub FitsInput : Input → Type 0
FitsInput (input.Arrival packet) = FitsArrival packet.message
FitsInput _ = Unit {0}

-- ---- what is sent

-- it goes to a server, and has a spelling wherever numbers are in their ranges
pub record FitsSent (m : Sent) : Type 0 where
  pub to : MayBeServer m.to
  pub message : HasWidths m.packet.message → FitsMessage m.packet.message
