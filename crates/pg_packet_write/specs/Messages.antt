-- How messages are spelled.
use Rattle.std.specs.Prelude.{ℕ, ◌≤◌, List, ◌++◌, length}
use Rattle.pg_base.specs.declared.id.FileId.{FileId}
use Rattle.pg_codec.specs.Spelling.{number_bytes, file_bytes, stamp_bytes}
use Rattle.pg_entries.specs.declared.entry.Entry.{Entry}
use Rattle.pg_msg.specs.declared.message.Message.{Message}
use Rattle.pg_msg.specs.declared.message.Message.TheVariants as message
use Rattle.pg_msg.specs.declared.message.Delta.{Delta}
use Rattle.pg_msg.specs.declared.message.Granted.{Granted}
use Rattle.pg_msg.specs.declared.message.Piece.{Piece}
use Rattle.pg_msg.specs.declared.message.Wanted.{Wanted}
use Rattle.pg_msg.specs.declared.summary.Greeting.{Greeting}
use Rattle.pg_msg.specs.declared.summary.Greeting.TheVariants as greeting
use Rattle.pg_words.specs.FileWord.{IsDirectory}
use Rattle.pg_words.specs.PlaceWords.{IsPlace}
use Rattle.pg_packet_write.specs.Fields.{ask_bytes, cell_bytes, counted, ends_bytes, entry_bytes, golds_bytes, head_bytes, key_bytes, place_bytes, policy_bytes, ranges_bytes, stamps_bytes}
use Rattle.pg_packet_write.specs.Fits.{FitGolds, FitStamps, FitsCell, FitsEntry, FitsHead, FitsKey, FitsRanges, IsServer}

abbrev pub greeting_code : Greeting → ℕ
greeting_code greeting.Here = 13
greeting_code greeting.Meet = 26

-- the kinds of messages by number
abbrev pub code_of : Message → ℕ
code_of (message.Cell ends tag cell) = 1
code_of (message.Ack ends key tag) = 2
code_of (message.Harbinger ends tag head) = 3
code_of (message.Want ends wanted) = 4
code_of (message.Delta ends delta) = 5
code_of (message.Piece ends piece) = 6
code_of (message.Later ends stamp) = 7
code_of (message.Fetch file birth) = 8
code_of (message.Grant ends granted) = 9
code_of (message.NoGrant file birth) = 10
code_of (message.Full ends) = 11
code_of (message.Seek file birth) = 12
code_of (message.Greet ends why) = greeting_code why
code_of (message.NoneHere ask file child) = 14
code_of (message.Gone file birth) = 15
code_of (message.Bye ends) = 16
code_of (message.ByeOk file birth) = 17
code_of (message.Confirm dir entry) = 18
code_of (message.PlaceIs dir entry) = 19
code_of (message.Tell dir entry) = 20
code_of (message.TellOk dir child stamp) = 21
code_of (message.Leave ends stamp) = 22
code_of (message.LeaveOk ends stamp) = 23
code_of (message.Invite ends) = 24
code_of (message.Walk ends origin birth hops word) = 25

unfoldable pub wanted_bytes : Wanted → List ℕ
wanted_bytes w = stamp_bytes w.stamp ++ (number_bytes 4 w.offset ++ stamps_bytes w.heads)

unfoldable pub delta_bytes : Delta → List ℕ
delta_bytes d = head_bytes d.head ++ (stamps_bytes d.from ++ ranges_bytes d.ranges)

unfoldable pub piece_bytes : Piece → List ℕ
piece_bytes p = head_bytes p.head ++ (number_bytes 4 p.offset ++ counted 4 p.bytes)

unfoldable pub granted_bytes : Granted → List ℕ
granted_bytes g = policy_bytes g.policy ++ (place_bytes g.place ++ golds_bytes g.flags)

-- a file and a birth
unfoldable pub replica_bytes : FileId → ℕ → List ℕ
replica_bytes file birth = file_bytes file ++ number_bytes 8 birth

-- a directory and an entry of it
unfoldable pub told_bytes : FileId → Entry → List ℕ
told_bytes dir entry = file_bytes dir ++ entry_bytes entry

-- the walk of a replica: its server, its birth, the hops left, a word
unfoldable pub walk_bytes : ℕ → ℕ → ℕ → ℕ → List ℕ
walk_bytes origin birth hops word = number_bytes 4 origin
    ++ (number_bytes 8 birth ++ (number_bytes 1 hops ++ number_bytes 8 word))

-- what stands behind the kind, the sender and the view
unfoldable pub message_bytes : Message → List ℕ
message_bytes (message.Cell ends tag cell) =
    ends_bytes ends ++ (number_bytes 8 tag ++ cell_bytes cell)
message_bytes (message.Ack ends key tag) =
    ends_bytes ends ++ (key_bytes key ++ number_bytes 8 tag)
message_bytes (message.Harbinger ends tag head) =
    ends_bytes ends ++ (number_bytes 8 tag ++ head_bytes head)
message_bytes (message.Want ends wanted) = ends_bytes ends ++ wanted_bytes wanted
message_bytes (message.Delta ends delta) = ends_bytes ends ++ delta_bytes delta
message_bytes (message.Piece ends piece) = ends_bytes ends ++ piece_bytes piece
message_bytes (message.Later ends stamp) = ends_bytes ends ++ stamp_bytes stamp
message_bytes (message.Fetch file birth) = replica_bytes file birth
message_bytes (message.Grant ends granted) = ends_bytes ends ++ granted_bytes granted
message_bytes (message.NoGrant file birth) = replica_bytes file birth
message_bytes (message.Full ends) = ends_bytes ends
message_bytes (message.Seek file birth) = replica_bytes file birth
message_bytes (message.Greet ends why) = ends_bytes ends
message_bytes (message.NoneHere ask file child) =
    ask_bytes ask ++ (file_bytes file ++ file_bytes child)
message_bytes (message.Gone file birth) = replica_bytes file birth
message_bytes (message.Bye ends) = ends_bytes ends
message_bytes (message.ByeOk file birth) = replica_bytes file birth
message_bytes (message.Confirm dir entry) = told_bytes dir entry
message_bytes (message.PlaceIs dir entry) = told_bytes dir entry
message_bytes (message.Tell dir entry) = told_bytes dir entry
message_bytes (message.TellOk dir child stamp) =
    file_bytes dir ++ (file_bytes child ++ stamp_bytes stamp)
message_bytes (message.Leave ends stamp) = ends_bytes ends ++ stamp_bytes stamp
message_bytes (message.LeaveOk ends stamp) = ends_bytes ends ++ stamp_bytes stamp
message_bytes (message.Invite ends) = ends_bytes ends
message_bytes (message.Walk ends origin birth hops word) =
    ends_bytes ends ++ walk_bytes origin birth hops word

pub record FitsDelta (d : Delta) : Type 0 where
  pub head : FitsHead d.head
  pub from : FitStamps d.from
  pub ranges : FitsRanges d.ranges

-- at most 32,768 bytes
pub record FitsPiece (p : Piece) : Type 0 where
  pub head : FitsHead p.head
  pub short : length p.bytes ≤ 32768

pub record FitsGranted (g : Granted) : Type 0 where
  pub place : IsPlace g.place
  pub flags : FitGolds g.flags

pub record FitsTold (parent : FileId) (told : Entry) : Type 0 where
  pub dir : IsDirectory parent
  pub entry : FitsEntry told

-- from a server, with 1 to 3 hops
pub record FitsWalk (server hops : ℕ) : Type 0 where
  pub origin : IsServer server
  pub least : 1 ≤ hops
  pub most : hops ≤ 3

-- what has a spelling
abbrev pub FitsMessage : Message → Type 0
FitsMessage (message.Cell ends tag cell) = FitsCell cell
FitsMessage (message.Ack ends key tag) = FitsKey key
FitsMessage (message.Harbinger ends tag head) = FitsHead head
FitsMessage (message.Want ends wanted) = FitStamps wanted.heads
FitsMessage (message.Delta ends delta) = FitsDelta delta
FitsMessage (message.Piece ends piece) = FitsPiece piece
FitsMessage (message.Later ends stamp) = Unit {0}
FitsMessage (message.Fetch file birth) = Unit {0}
FitsMessage (message.Grant ends granted) = FitsGranted granted
FitsMessage (message.NoGrant file birth) = Unit {0}
FitsMessage (message.Full ends) = Unit {0}
FitsMessage (message.Seek file birth) = Unit {0}
FitsMessage (message.Greet ends why) = Unit {0}
FitsMessage (message.NoneHere ask file child) = Unit {0}
FitsMessage (message.Gone file birth) = Unit {0}
FitsMessage (message.Bye ends) = Unit {0}
FitsMessage (message.ByeOk file birth) = Unit {0}
FitsMessage (message.Confirm dir entry) = FitsTold dir entry
FitsMessage (message.PlaceIs dir entry) = FitsTold dir entry
FitsMessage (message.Tell dir entry) = FitsTold dir entry
FitsMessage (message.TellOk dir child stamp) = IsDirectory dir
FitsMessage (message.Leave ends stamp) = Unit {0}
FitsMessage (message.LeaveOk ends stamp) = Unit {0}
FitsMessage (message.Invite ends) = Unit {0}
FitsMessage (message.Walk ends origin birth hops word) = FitsWalk origin hops
