-- Whom a server asked last for the body of a version, and from which byte on: what messages say of
-- it.
use Rattle.std.specs.Prelude.{ℕ, Bool, false, ◌==◌, ◌&&◌, if◌then◌else◌, List, [], ◌∷◌, Option, None, Some}
use Rattle.std.specs.Option.{option_or}
use Rattle.pg_base.specs.declared.id.FileId.{FileId}
use Rattle.pg_base.specs.declared.stamp.Stamp.{Stamp}
use Rattle.pg_base.specs.Id.{is_same_file}
use Rattle.pg_content.specs.History.{is_same_stamp}
use Rattle.pg_server.specs.pg_pieces.pg_msg.declared.message.Message.{Message}
use Rattle.pg_server.specs.pg_pieces.pg_msg.declared.message.Message.TheVariants as message
use Rattle.pg_server.specs.pg_pieces.pg_msg.declared.message.Sent.{Sent}
use Rattle.theory_bodies.specs.Asked.{Asking}

-- of each version of each file whom a server asked for it last, where that counts still
abbrev pub Asked : Type 0
Asked = FileId → Stamp → Option Asking

abbrev pub nobody_asked : Asked
nobody_asked file stamp = None

-- it is this version of the file
abbrev pub is_version : FileId → Stamp → FileId → Stamp → Bool
is_version file stamp f s = is_same_file f file && is_same_stamp s stamp

abbrev pub wanted_in : FileId → Stamp → ℕ → Message → Option Asking
wanted_in file stamp to (message.Want ends wanted) =
    if is_version file stamp ends.file wanted.stamp
    then Some (record { target = to; offset = wanted.offset }) else None
wanted_in file stamp to _ = None

-- who is asked for the version by a message, and from which byte on, where it is a Want for it
abbrev pub wanted_by : FileId → Stamp → Sent → Option Asking
wanted_by file stamp m = wanted_in file stamp m.to m.packet.message

-- who is asked for it last by these messages; where none of them asks for it, it is as before
abbrev pub last_wanted : FileId → Stamp → List Sent → Option Asking → Option Asking
last_wanted file stamp [] old = old
last_wanted file stamp (m ∷ ms) old =
    last_wanted file stamp ms (option_or (wanted_by file stamp m) old)

-- this server was asked
abbrev pub is_asked_of : ℕ → Option Asking → Bool
is_asked_of from None = false
is_asked_of from (Some t) = t.target == from

-- and from just this byte on
abbrev pub is_asked_at : ℕ → ℕ → Option Asking → Bool
is_asked_at from offset None = false
is_asked_at from offset (Some t) = (t.target == from) && (t.offset == offset)
