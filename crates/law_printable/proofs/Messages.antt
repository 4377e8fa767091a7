-- Messages that suit: what is told of them goes by their kinds, and the places that they carry are
-- ones that their things may have.
use Rattle.std.proofs.Common.{ℕ, ◌≡◌, List, All}
use Rattle.law_frame.specs.pg_run.pg_base.declared.id.FileId.{FileId}
use Rattle.law_frame.specs.pg_run.pg_base.declared.id.Kind.TheVariants.{Dir}
use Rattle.law_frame.specs.pg_run.pg_base.Id.{Fits}
use Rattle.law_frame.specs.pg_run.pg_entries.declared.cell.Cell.{Cell}
use Rattle.law_frame.specs.pg_run.pg_entries.declared.cell.Cell.TheVariants as cells
use Rattle.law_frame.specs.pg_run.pg_entries.declared.entry.Entry.{Entry}
use Rattle.law_frame.specs.pg_run.pg_msg.declared.message.Message.{Message}
use Rattle.law_frame.specs.pg_run.pg_msg.declared.message.Message.TheVariants as message
use Rattle.law_frame.specs.pg_run.pg_msg.declared.message.Sent.{Sent}
use Rattle.law_frame.specs.pg_run.pg_msg.Sent.{detail_of, file_of, kind_of, summary}
use Rattle.law_frame.specs.pg_run.pg_msg.Text.{IsAbout, IsDetail, sort_of}
use Rattle.law_frame.specs.pg_run.pg_words.FileWord.{IsDirectory}
use Rattle.law_frame.specs.pg_run.pg_store.declared.store.Store.{Store}
use Rattle.law_frame.specs.pg_run.pg_pieces.Posting.{sent_to}
use Rattle.pg_trace.specs.Suited.{DetailFits, SuitsKind}
use Rattle.law_printable.proofs.Places.{IsOwnPlace, SuitsEntry}

-- a cell of a thing
abbrev pub SuitsCell : FileId → Cell → Type 0
SuitsCell f (cells.Place place) = IsOwnPlace f place
SuitsCell f (cells.Flag flag) = Unit {0}
SuitsCell f (cells.Entry entry sure) = SuitsEntry entry.child entry
SuitsCell f (cells.Version v) = Unit {0}

-- a child that is told of a directory
abbrev pub SuitsChild : FileId → Entry → Type 0
SuitsChild dir e = (dir.kind ≡ Dir) × SuitsEntry e.child e

-- what a message carries
abbrev pub SuitsMessage : Message → Type 0
SuitsMessage (message.Cell ends tag c) = SuitsCell ends.file c
SuitsMessage (message.Grant ends granted) = IsOwnPlace ends.file granted.place
SuitsMessage (message.Confirm dir entry) = SuitsChild dir entry
SuitsMessage (message.PlaceIs dir entry) = SuitsChild dir entry
SuitsMessage (message.Tell dir entry) = SuitsChild dir entry
SuitsMessage _ = Unit {0}

-- what is told of it goes by its kind
pub record Suits (m : Sent) : Type 0 where
  pub told : SuitsKind (summary m)
  pub carried : SuitsMessage m.packet.message

abbrev pub AllSuit : List Sent → Type 0
AllSuit ms = All Suits ms

-- the same of a message before it is posted
pub record SuitsPost (m : Message) : Type 0 where
  pub about : Fits (file_of m) → IsAbout (kind_of m) (file_of m)
  pub told : DetailFits (detail_of m) → IsDetail (sort_of (kind_of m)) (detail_of m)
  pub carried : SuitsMessage m

pub sent_suits : (s : Store) (to : ℕ) (m : Message) → SuitsPost m → Suits (sent_to s to m)
sent_suits s to m k = record { told = record { about = k.about; told = k.told }; carried = k.carried }

-- what is about a directory's child names the directory
pub about_dir : (dir : FileId) → dir.kind ≡ Dir → Fits dir → IsDirectory dir
about_dir dir k fits = record { kind = k; fits = fits }
