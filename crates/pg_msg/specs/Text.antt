-- How keys, and what a journal says of a message, are written.
use Rattle.std.specs.Prelude.{ℕ, ◌<◌, ◌^◌, List, [], ◌∷◌, ◌++◌, decimal, codes}
use Rattle.std.specs.List.{join_with_byte}
use Rattle.pg_base.specs.Id.{spelling, Fits}
use Rattle.pg_base.specs.StampText.{stamp_text}
use Rattle.pg_base.specs.declared.id.FileId.{FileId}
use Rattle.pg_edges.specs.declared.key.Key.{Key}
use Rattle.pg_edges.specs.declared.key.Key.TheVariants.{Place, Flag, Entry, Version}
use Rattle.pg_msg.specs.declared.summary.Detail.{Detail}
use Rattle.pg_msg.specs.declared.summary.Detail.TheVariants as detail
use Rattle.pg_msg.specs.declared.summary.Greeting.{Greeting}
use Rattle.pg_msg.specs.declared.summary.Greeting.TheVariants as greeting
use Rattle.pg_msg.specs.declared.summary.MessageKind.{MessageKind}
use Rattle.pg_msg.specs.declared.summary.MessageKind.TheVariants as kind
use Rattle.pg_msg.specs.declared.summary.Summary.{Summary}
use Rattle.pg_words.specs.FileWord.{IsDirectory}
use Rattle.pg_words.specs.StampWord.{IsStamp}

-- which cell it is, and the server, child or stamp that it has
abbrev pub key_text : Key → List ℕ
key_text Place = codes "place"
key_text (Flag server) = codes "flag:" ++ decimal server
key_text (Entry child) = codes "entry:" ++ spelling child
key_text (Version stamp) = codes "version:" ++ stamp_text stamp

abbrev pub greeting_text : Greeting → List ℕ
greeting_text greeting.Here = codes "here"
greeting_text greeting.Meet = codes "meet"

abbrev pub kind_text : MessageKind → List ℕ
kind_text kind.Cell = codes "cell"
kind_text kind.Ack = codes "ack"
kind_text kind.Harbinger = codes "harb"
kind_text kind.Want = codes "want"
kind_text kind.Delta = codes "delta"
kind_text kind.Piece = codes "piece"
kind_text kind.Later = codes "later"
kind_text kind.Fetch = codes "fetch"
kind_text kind.Grant = codes "grant"
kind_text kind.NoGrant = codes "nogrant"
kind_text kind.Full = codes "full"
kind_text kind.Seek = codes "seek"
kind_text (kind.Greet why) = greeting_text why
kind_text kind.NoneHere = codes "nonehere"
kind_text kind.Gone = codes "gone"
kind_text kind.Bye = codes "bye"
kind_text kind.ByeOk = codes "byeok"
kind_text kind.Confirm = codes "confirm"
kind_text kind.PlaceIs = codes "placeis"
kind_text kind.Tell = codes "tell"
kind_text kind.TellOk = codes "tellok"
kind_text kind.Leave = codes "leave"
kind_text kind.LeaveOk = codes "leaveok"
kind_text kind.Invite = codes "invite"
kind_text kind.Walk = codes "walk"

-- a key, a stamp, a child, or a dash
abbrev pub detail_text : Detail → List ℕ
detail_text (detail.Key k) = key_text k
detail_text (detail.Stamp stamp) = stamp_text stamp
detail_text (detail.Child child) = spelling child
detail_text detail.Nothing = codes "-"

-- from whom, to whom, of which kind, about which file, and the detail
abbrev pub summary_words : Summary → List (List ℕ)
summary_words s =
    decimal s.from ∷ decimal s.to ∷ kind_text s.kind ∷ spelling s.file ∷ detail_text s.detail ∷ []

abbrev pub summary_text : Summary → List ℕ
summary_text s = join_with_byte 32 (summary_words s)

-- what has a spelling
abbrev pub IsKey : Key → Type 0
IsKey Place = Unit {0}
IsKey (Flag server) = server < 2 ^ 32
IsKey (Entry child) = Fits child
IsKey (Version stamp) = IsStamp stamp

-- which sort of detail is told
pub data Sort : Type 0 where
  OfKey : Sort
  OfStamp : Sort
  OfChild : Sort
  OfNothing : Sort

-- the sort of detail that is told of each kind
abbrev pub sort_of : MessageKind → Sort
sort_of kind.Cell = OfKey
sort_of kind.Ack = OfKey
sort_of kind.Harbinger = OfStamp
sort_of kind.Want = OfStamp
sort_of kind.Delta = OfStamp
sort_of kind.Piece = OfStamp
sort_of kind.Later = OfStamp
sort_of kind.Fetch = OfNothing
sort_of kind.Grant = OfNothing
sort_of kind.NoGrant = OfNothing
sort_of kind.Full = OfNothing
sort_of kind.Seek = OfNothing
sort_of (kind.Greet why) = OfNothing
sort_of kind.NoneHere = OfChild
sort_of kind.Gone = OfNothing
sort_of kind.Bye = OfNothing
sort_of kind.ByeOk = OfNothing
sort_of kind.Confirm = OfChild
sort_of kind.PlaceIs = OfChild
sort_of kind.Tell = OfChild
sort_of kind.TellOk = OfChild
sort_of kind.Leave = OfNothing
sort_of kind.LeaveOk = OfNothing
sort_of kind.Invite = OfNothing
sort_of kind.Walk = OfNothing

-- a detail of that sort
abbrev pub IsDetail : Sort → Detail → Type 0
IsDetail OfKey (detail.Key k) = IsKey k
IsDetail OfStamp (detail.Stamp stamp) = IsStamp stamp
IsDetail OfChild (detail.Child child) = Fits child
IsDetail OfNothing detail.Nothing = Unit {0}
IsDetail OfKey (detail.Stamp stamp) = ⊥
IsDetail OfKey (detail.Child child) = ⊥
IsDetail OfKey detail.Nothing = ⊥
IsDetail OfStamp (detail.Key k) = ⊥
IsDetail OfStamp (detail.Child child) = ⊥
IsDetail OfStamp detail.Nothing = ⊥
IsDetail OfChild (detail.Key k) = ⊥
IsDetail OfChild (detail.Stamp stamp) = ⊥
IsDetail OfChild detail.Nothing = ⊥
IsDetail OfNothing (detail.Key k) = ⊥
IsDetail OfNothing (detail.Stamp stamp) = ⊥
IsDetail OfNothing (detail.Child child) = ⊥

-- what is told of a directory's child names the directory
abbrev pub IsAbout : MessageKind → FileId → Type 0
IsAbout kind.Cell file = Fits file
IsAbout kind.Ack file = Fits file
IsAbout kind.Harbinger file = Fits file
IsAbout kind.Want file = Fits file
IsAbout kind.Delta file = Fits file
IsAbout kind.Piece file = Fits file
IsAbout kind.Later file = Fits file
IsAbout kind.Fetch file = Fits file
IsAbout kind.Grant file = Fits file
IsAbout kind.NoGrant file = Fits file
IsAbout kind.Full file = Fits file
IsAbout kind.Seek file = Fits file
IsAbout (kind.Greet why) file = Fits file
IsAbout kind.NoneHere file = Fits file
IsAbout kind.Gone file = Fits file
IsAbout kind.Bye file = Fits file
IsAbout kind.ByeOk file = Fits file
IsAbout kind.Confirm file = IsDirectory file
IsAbout kind.PlaceIs file = IsDirectory file
IsAbout kind.Tell file = IsDirectory file
IsAbout kind.TellOk file = IsDirectory file
IsAbout kind.Leave file = Fits file
IsAbout kind.LeaveOk file = Fits file
IsAbout kind.Invite file = Fits file
IsAbout kind.Walk file = Fits file

pub record IsSummary (s : Summary) : Type 0 where
  pub sender : s.from < 2 ^ 32
  pub receiver : s.to < 2 ^ 32
  pub about : IsAbout s.kind s.file
  pub told : IsDetail (sort_of s.kind) s.detail
