-- Messages that bring what their receiver has already.
use Rattle.std.specs.Prelude.{ℕ, ◌+◌, ◌==◌, ◌&&◌, Bool, false, if◌then◌else◌, Option, None, Some, length}
use Rattle.pg_base.specs.declared.head.Head.{Head}
use Rattle.pg_base.specs.declared.id.FileId.{FileId}
use Rattle.pg_base.specs.Version.{actor_of}
use Rattle.pg_pieces.specs.Accepting.{is_accepted}
use Rattle.pg_pieces.specs.declared.accepting.EdgeUse.{EdgeUse}
use Rattle.pg_pieces.specs.declared.accepting.EdgeUse.TheVariants.{Makes, Needs}
use Rattle.pg_content.specs.Content.{is_covered}
use Rattle.pg_entries.specs.declared.cell.Cell.{Cell}
use Rattle.pg_entries.specs.declared.cell.Cell.TheVariants as cell
use Rattle.pg_event.specs.declared.event.Event.{Event}
use Rattle.pg_event.specs.declared.event.Event.TheVariants as event
use Rattle.pg_msg.specs.declared.message.Ends.{Ends}
use Rattle.pg_msg.specs.declared.message.Message.{Message}
use Rattle.pg_msg.specs.declared.message.Message.TheVariants as message
use Rattle.pg_msg.specs.declared.message.Packet.{Packet}
use Rattle.pg_msg.specs.declared.message.Piece.{Piece}
use Rattle.pg_msg.specs.declared.message.Sent.{Sent}
use Rattle.pg_run.specs.Journal.{bag, message_at}
use Rattle.pg_run.specs.Run.{World, is_live}
use Rattle.pg_server.specs.Local.{is_heard}
use Rattle.pg_store.specs.declared.store.Store.{Store}
use Rattle.pg_store.specs.Store.{content_of}

-- what is held of a file covers the version with this head
abbrev pub has_version : Store → FileId → Head → Bool
has_version store file head = is_covered (content_of store file).heads (actor_of head) head.number

-- a message about a version is accepted, and the version is covered
abbrev pub is_known : Store → ℕ → EdgeUse → Ends → Head → Bool
is_known store from manner ends head =
    is_accepted store from manner ends && has_version store ends.file head

-- the body ends with this piece
abbrev pub is_last : Piece → Bool
is_last piece = piece.offset + length piece.bytes == piece.head.length

abbrev pub cell_repeats : Store → ℕ → Ends → Cell → Bool
cell_repeats store from ends (cell.Version v) = is_known store from Makes ends v.head
cell_repeats store from ends (cell.Place place) = false
cell_repeats store from ends (cell.Flag flag) = false
cell_repeats store from ends (cell.Entry entry sure) = false

-- a version comes, as a cell, a delta or a last piece, and is covered
abbrev pub message_repeats : Store → ℕ → Message → Bool
message_repeats store from (message.Cell ends tag c) = cell_repeats store from ends c
message_repeats store from (message.Delta ends delta) = is_known store from Needs ends delta.head
message_repeats store from (message.Piece ends piece) =
    is_last piece && is_known store from Needs ends piece.head
message_repeats store from _ = false

-- so it is of a message that is heard
abbrev pub packet_repeats : Store → Packet → Bool
packet_repeats store packet =
    is_heard store packet && message_repeats store packet.from packet.message

abbrev pub sent_repeats : ℕ → World → Sent → Bool
sent_repeats servers w m = is_live servers w m.to && packet_repeats (w.stores m.to) m.packet

abbrev pub taken_repeats : ℕ → World → Option Sent → Bool
taken_repeats servers w None = false
taken_repeats servers w (Some m) = sent_repeats servers w m

abbrev pub one_if : Bool → ℕ
one_if test = if test then 1 else 0

-- how many versions an event brings that were covered before: a delivery one, or none, and all
-- other events none
abbrev pub repeats : ℕ → World → Event → ℕ
repeats servers w (event.Deliver number) =
    one_if (taken_repeats servers w (message_at (bag w.journal) number))
repeats servers w _ = 0
