-- Whom a server asked last for the body of a version, folded along a run: the last Want for it that
-- its present replica of the file sent. Nobody since it had a tick or a restart, entered a view, or
-- accepted a Later for the version from who was asked.
use Rattle.std.specs.Prelude.{ℕ, Bool, true, false, ◌==◌, ◌&&◌, ◌||◌, not, if◌then◌else◌, Option, None, Some}
use Rattle.pg_base.specs.declared.id.FileId.{FileId}
use Rattle.pg_base.specs.declared.stamp.Stamp.{Stamp}
use Rattle.pg_base.specs.Id.{is_same_file}
use Rattle.pg_server.specs.pg_pieces.pg_msg.declared.message.Message.{Message}
use Rattle.pg_server.specs.pg_pieces.pg_msg.declared.message.Message.TheVariants as message
use Rattle.pg_server.specs.pg_pieces.pg_store.declared.store.Store.{Store}
use Rattle.pg_server.specs.pg_pieces.pg_store.Seen.{view_of}
use Rattle.pg_server.specs.pg_pieces.pg_store.Store.{is_before_clock_end}
use Rattle.pg_server.specs.declared.input.Input.{Input}
use Rattle.pg_server.specs.declared.input.Input.TheVariants as input
use Rattle.pg_server.specs.Local.{effect, is_heard}
use Rattle.theory_bodies.specs.Asked.{Asking}
use Rattle.pg_run.specs.Asking.{Asked, is_asked_of, is_version, last_wanted}
use Rattle.pg_run.specs.Carried.{answers_here, gone_in}

-- an accepted Later for the version, from who was asked for it; no other message ends it
abbrev pub ends_with : Store → ℕ → Message → FileId → Stamp → Option Asking → Bool
ends_with store from (message.Later ends s) file stamp old =
    is_version file stamp ends.file s && (is_asked_of from old && answers_here store from ends)
ends_with store from _ file stamp old = false

-- the replica of the file goes
abbrev pub goes : FileId → Option FileId → Bool
goes file None = false
goes file (Some f) = is_same_file f file

-- the server enters a view
abbrev pub enters : Store → Input → Bool
enters store i = not (view_of (effect store i).store == view_of store)

-- in an event with this input it ends that somebody was asked for the version. A tick that is
-- refused is none; a restart counts even at the end of the clock
abbrev pub ends_asking : Store → Input → FileId → Stamp → Option Asking → Bool
ends_asking store (input.Call moment c) file stamp old = enters store (input.Call moment c)
ends_asking store (input.Tick moment word) file stamp old = is_before_clock_end store
ends_asking store (input.Arrival packet) file stamp old = is_heard store packet
    && (ends_with store packet.from packet.message file stamp old
    || goes file (gone_in store (input.Arrival packet)))
ends_asking store input.Restart file stamp old = true

-- who was asked last behind the event
abbrev pub asked_behind : Store → Asked → Input → Asked
asked_behind store wants i file stamp = last_wanted file stamp (effect store i).out.sent
    (if ends_asking store i file stamp (wants file stamp) then None else wants file stamp)
