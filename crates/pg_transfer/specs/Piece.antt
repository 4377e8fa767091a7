-- Bytes of a body come.
use Rattle.std.specs.Prelude.{ℕ, Bool, ◌==◌, ◌+◌, ◌++◌, ◌&&◌, nat_le, nat_lt, if◌then◌else◌, length, Option, None, Some}
use Rattle.pg_base.specs.declared.stamp.Stamp.{Stamp}
use Rattle.pg_base.specs.declared.id.FileId.{FileId}
use Rattle.pg_base.specs.Version.{VersionValue}
use Rattle.pg_announced.specs.declared.announced.Announced.{Announced}
use Rattle.pg_announced.specs.Announced.{change_note, key_at, longer, without_note}
use Rattle.pg_pieces.specs.pg_msg.declared.message.Ends.{Ends}
use Rattle.pg_pieces.specs.pg_msg.declared.message.Piece.{Piece}
use Rattle.pg_pieces.specs.pg_msg.declared.work.Work.{Work}
use Rattle.pg_pieces.specs.pg_names.Names.{is_dir}
use Rattle.pg_pieces.specs.pg_store.declared.store.Store.{Store}
use Rattle.pg_pieces.specs.declared.accepting.EdgeUse.TheVariants as manner
use Rattle.pg_pieces.specs.Accepting.{accept, is_accepted}
use Rattle.pg_pieces.specs.Done.{Done, idle}
use Rattle.pg_transfer.specs.declared.piecing.Progress.{Progress}
use Rattle.pg_transfer.specs.declared.piecing.Progress.TheVariants as progress
use Rattle.pg_transfer.specs.Asking.{ask, listed, noted, with_notes}
use Rattle.pg_transfer.specs.Taking.{taken_for}

-- they are the next ones that the server has asked this sender for
abbrev pub is_next : ℕ → Announced → Piece → Bool
is_next from n p = (n.source == from) && ((p.offset == length n.bytes)
    && nat_le (length n.bytes + length p.bytes) n.head.length)

-- they are the last ones. No version of a run has the number 0
abbrev pub is_last : Announced → Piece → Bool
is_last n p = (length n.bytes + length p.bytes == n.head.length) && nat_lt 0 n.head.number

-- what they are to the body of the version that is noted
abbrev pub advance : ℕ → Option Announced → Piece → Progress
advance from None p = progress.Nothing
advance from (Some n) p =
    if is_next from n p
    then (if is_last n p then progress.Whole else progress.More (length n.bytes + length p.bytes))
    else progress.Nothing

-- the version, whole
abbrev pub whole : Announced → Piece → VersionValue
whole n p = record { head = n.head; body = n.bytes ++ p.bytes }

-- the note of a version ends
abbrev pub without_noted : Store → FileId → Stamp → Store
without_noted store file stamp = with_notes store (without_note store.announced (key_at file stamp))

-- the last ones: the version is taken in place of its note
abbrev pub completed : Option Announced → Store → Ends → Piece → Work → Done
completed None store ends p work = idle store work
completed (Some n) store ends p work =
    taken_for ends n.tag (without_noted store ends.file p.head.stamp) (whole n p) work

-- others are added, and the next are asked for
abbrev pub lengthened : ℕ → Store → Ends → Piece → Work → Done
lengthened offset store ends p work = record {
  store = with_notes store
      (change_note (longer p.bytes) store.announced (key_at ends.file p.head.stamp));
  work = ask store ends p.head.stamp offset (listed store ends.file) work;
}

abbrev pub pieced_by : Progress → Store → Ends → Piece → Work → Done
pieced_by progress.Nothing store ends p work = idle store work
pieced_by (progress.More offset) store ends p work = lengthened offset store ends p work
pieced_by progress.Whole store ends p work =
    completed (noted store ends.file p.head.stamp) store ends p work

abbrev pub pieced : Store → Ends → Piece → Work → Done
pieced store ends p work =
    pieced_by (advance work.from (noted store ends.file p.head.stamp) p) store ends p work

-- where the message is accepted
abbrev pub pieced_along : Bool → Ends → Piece → Done → Done
pieced_along accepted ends p done =
    if accepted then pieced done.store ends p done.work else done

abbrev pub piece : Store → Ends → Piece → Work → Done
piece store ends p work =
    if is_dir ends.file then idle store work
    else pieced_along (is_accepted store work.from manner.Answers ends) ends p
    (accept store ends manner.Answers work)
