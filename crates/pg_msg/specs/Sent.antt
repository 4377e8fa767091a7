-- What a journal says of a message.
use Rattle.std.specs.Prelude.{ℕ}
use Rattle.pg_base.specs.declared.id.FileId.{FileId}
use Rattle.pg_edges.specs.declared.key.Key.{Key}
use Rattle.pg_edges.specs.declared.key.Key.TheVariants as key
use Rattle.pg_entries.specs.declared.cell.Cell.{Cell}
use Rattle.pg_entries.specs.declared.cell.Cell.TheVariants as cell
use Rattle.pg_msg.specs.declared.message.Message.{Message}
use Rattle.pg_msg.specs.declared.message.Message.TheVariants as message
use Rattle.pg_msg.specs.declared.message.Sent.{Sent}
use Rattle.pg_msg.specs.declared.summary.Detail.{Detail}
use Rattle.pg_msg.specs.declared.summary.Detail.TheVariants as detail
use Rattle.pg_msg.specs.declared.summary.MessageKind.{MessageKind}
use Rattle.pg_msg.specs.declared.summary.MessageKind.TheVariants as kind
use Rattle.pg_msg.specs.declared.summary.Summary.{Summary}

abbrev pub cell_key : Cell → Key
cell_key (cell.Place place) = key.Place
cell_key (cell.Flag flag) = key.Flag flag.server
cell_key (cell.Entry entry sure) = key.Entry entry.child
cell_key (cell.Version version) = key.Version version.head.stamp

abbrev pub kind_of : Message → MessageKind
kind_of (message.Cell ends tag c) = kind.Cell
kind_of (message.Ack ends k tag) = kind.Ack
kind_of (message.Harbinger ends tag head) = kind.Harbinger
kind_of (message.Want ends wanted) = kind.Want
kind_of (message.Delta ends delta) = kind.Delta
kind_of (message.Piece ends piece) = kind.Piece
kind_of (message.Later ends stamp) = kind.Later
kind_of (message.Fetch file birth) = kind.Fetch
kind_of (message.Grant ends granted) = kind.Grant
kind_of (message.NoGrant file birth) = kind.NoGrant
kind_of (message.Full ends) = kind.Full
kind_of (message.Seek file birth) = kind.Seek
kind_of (message.Greet ends greeting) = kind.Greet greeting
kind_of (message.NoneHere ask file child) = kind.NoneHere
kind_of (message.Gone file birth) = kind.Gone
kind_of (message.Bye ends) = kind.Bye
kind_of (message.ByeOk file birth) = kind.ByeOk
kind_of (message.Confirm dir entry) = kind.Confirm
kind_of (message.PlaceIs dir entry) = kind.PlaceIs
kind_of (message.Tell dir entry) = kind.Tell
kind_of (message.TellOk dir child stamp) = kind.TellOk
kind_of (message.Leave ends stamp) = kind.Leave
kind_of (message.LeaveOk ends stamp) = kind.LeaveOk
kind_of (message.Invite ends) = kind.Invite
kind_of (message.Walk ends origin birth hops word) = kind.Walk

-- the file that it is about: the directory, where it is about a child of one
abbrev pub file_of : Message → FileId
file_of (message.Cell ends tag c) = ends.file
file_of (message.Ack ends k tag) = ends.file
file_of (message.Harbinger ends tag head) = ends.file
file_of (message.Want ends wanted) = ends.file
file_of (message.Delta ends delta) = ends.file
file_of (message.Piece ends piece) = ends.file
file_of (message.Later ends stamp) = ends.file
file_of (message.Fetch file birth) = file
file_of (message.Grant ends granted) = ends.file
file_of (message.NoGrant file birth) = file
file_of (message.Full ends) = ends.file
file_of (message.Seek file birth) = file
file_of (message.Greet ends greeting) = ends.file
file_of (message.NoneHere ask file child) = file
file_of (message.Gone file birth) = file
file_of (message.Bye ends) = ends.file
file_of (message.ByeOk file birth) = file
file_of (message.Confirm dir entry) = dir
file_of (message.PlaceIs dir entry) = dir
file_of (message.Tell dir entry) = dir
file_of (message.TellOk dir child stamp) = dir
file_of (message.Leave ends stamp) = ends.file
file_of (message.LeaveOk ends stamp) = ends.file
file_of (message.Invite ends) = ends.file
file_of (message.Walk ends origin birth hops word) = ends.file

-- the key of a cell or of one that is acknowledged, the stamp of a version, or a child
abbrev pub detail_of : Message → Detail
detail_of (message.Cell ends tag c) = detail.Key (cell_key c)
detail_of (message.Ack ends k tag) = detail.Key k
detail_of (message.Harbinger ends tag head) = detail.Stamp head.stamp
detail_of (message.Want ends wanted) = detail.Stamp wanted.stamp
detail_of (message.Delta ends delta) = detail.Stamp delta.head.stamp
detail_of (message.Piece ends piece) = detail.Stamp piece.head.stamp
detail_of (message.Later ends stamp) = detail.Stamp stamp
detail_of (message.Fetch file birth) = detail.Nothing
detail_of (message.Grant ends granted) = detail.Nothing
detail_of (message.NoGrant file birth) = detail.Nothing
detail_of (message.Full ends) = detail.Nothing
detail_of (message.Seek file birth) = detail.Nothing
detail_of (message.Greet ends greeting) = detail.Nothing
detail_of (message.NoneHere ask file child) = detail.Child child
detail_of (message.Gone file birth) = detail.Nothing
detail_of (message.Bye ends) = detail.Nothing
detail_of (message.ByeOk file birth) = detail.Nothing
detail_of (message.Confirm dir entry) = detail.Child entry.child
detail_of (message.PlaceIs dir entry) = detail.Child entry.child
detail_of (message.Tell dir entry) = detail.Child entry.child
detail_of (message.TellOk dir child stamp) = detail.Child child
detail_of (message.Leave ends stamp) = detail.Nothing
detail_of (message.LeaveOk ends stamp) = detail.Nothing
detail_of (message.Invite ends) = detail.Nothing
detail_of (message.Walk ends origin birth hops word) = detail.Nothing

abbrev pub summary_of : ℕ → ℕ → Message → Summary
summary_of from to m = record {
  from = from;
  to = to;
  kind = kind_of m;
  file = file_of m;
  detail = detail_of m;
}

abbrev pub summary : Sent → Summary
summary m = summary_of m.packet.from m.to m.packet.message
