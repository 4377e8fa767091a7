-- What messages carry of the contents of files: versions that were made, and the policies of files.
use Rattle.std.proofs.Common.{◌≡◌, List, Option, None, Some}
use Rattle.pg_run.specs.pg_base.declared.head.Head.{Head}
use Rattle.pg_run.specs.pg_base.declared.id.FileId.{FileId}
use Rattle.pg_run.specs.pg_base.declared.policy.Policy.{Policy}
use Rattle.pg_run.specs.pg_patch.Ranges.{IsRanges}
use Rattle.pg_run.specs.pg_content.History.{body_of}
use Rattle.pg_run.specs.pg_delta.Leading.{IsTrueDelta}
use Rattle.pg_run.specs.pg_delta.Taking.{delta_to}
use Rattle.pg_run.specs.pg_entries.declared.cell.Cell.{Cell}
use Rattle.pg_run.specs.pg_entries.declared.cell.Cell.TheVariants as cell
use Rattle.pg_run.specs.pg_msg.declared.message.Delta.{Delta}
use Rattle.pg_run.specs.pg_msg.declared.message.Message.{Message}
use Rattle.pg_run.specs.pg_msg.declared.message.Message.TheVariants as message
use Rattle.pg_run.specs.pg_msg.declared.message.Piece.{Piece}
use Rattle.pg_run.specs.pg_event.declared.entry.Entry.{Entry}
use Rattle.pg_run.specs.theory_bodies.Book.{IsHeadOf, IsVersionOf}
use Rattle.pg_run.specs.theory_bodies.Telling.{IsSlice}
use Rattle.pg_run.specs.Journal.{Born, made_for}
use Rattle.pg_run.specs.State.{policy_made}

-- a cell of a version carries one of those that were made of the file
abbrev pub CarriesCell : List Born → (FileId → Policy) → FileId → Cell → Type 0
CarriesCell us p file (cell.Place place) = Unit {0}
CarriesCell us p file (cell.Flag flag) = Unit {0}
CarriesCell us p file (cell.Entry entry sure) = Unit {0}
CarriesCell us p file (cell.Version v) = IsVersionOf (p file) (made_for file us) v

-- what is known of a version without its body is so of one of them
abbrev pub CarriesHead : List Born → (FileId → Policy) → FileId → Head → Type 0
CarriesHead us p file head = IsHeadOf (p file) (made_for file us) head

-- the change makes the body of the version of what those show that it starts from
abbrev pub CarriesChange : List Born → (FileId → Policy) → FileId → Delta → Type 0
CarriesChange us p file d =
    IsTrueDelta (p file) (made_for file us) (delta_to d.from d.head.stamp d.ranges)

-- the bytes are those of the version's body
abbrev pub CarriesBytes : List Born → (FileId → Policy) → FileId → Piece → Type 0
CarriesBytes us p file q =
    IsSlice (body_of (p file) (made_for file us) q.head.stamp) q.offset q.bytes

-- what holds of a cell, where the key has one
abbrev pub OfAny : (FileId → Cell → Type 0) → FileId → Option Cell → Type 0
OfAny P file None = Unit {0}
OfAny P file (Some c) = P file c

-- a message carries such a cell, head, change or bytes, or the policy of a file whose id was given
-- out, or none of these
abbrev pub Carries : List Born → (FileId → Policy) → (FileId → Type 0) → Message → Type 0
Carries us p N (message.Cell ends tag c) = CarriesCell us p ends.file c
Carries us p N (message.Harbinger ends tag head) = CarriesHead us p ends.file head
Carries us p N (message.Delta ends d) =
    CarriesHead us p ends.file d.head × CarriesChange us p ends.file d × IsRanges d.ranges
Carries us p N (message.Piece ends q) =
    CarriesHead us p ends.file q.head × CarriesBytes us p ends.file q
Carries us p N (message.Grant ends granted) = (granted.policy ≡ p ends.file) × N ends.file
Carries us p N _ = Unit {0}

-- the policies of the files
abbrev pub policies : List Entry → FileId → Policy
policies journal file = policy_made file journal
