-- Whom a server asks for a version in one event.
use Rattle.std.specs.Prelude.{ℕ, ◌≡◌, Contains, List, Some}
use Rattle.pg_run.specs.pg_base.declared.id.FileId.{FileId}
use Rattle.pg_run.specs.pg_base.declared.stamp.Stamp.{Stamp}
use Rattle.pg_run.specs.pg_event.declared.event.Event.{Event}
use Rattle.pg_run.specs.pg_msg.declared.message.Sent.{Sent}
use Rattle.pg_run.specs.Asking.{wanted_by}
use Rattle.pg_run.specs.Run.{next, run}
use Rattle.pg_run.specs.theory_bodies.Asked.{Asking}

-- of two messages of one entry that are Wants for one version, both are to one server
abbrev pub AnEventAsksOne : ℕ → Type 0
AnEventAsksOne servers = (events : List Event) (event : Event) (m k : Sent) (file : FileId)
    (stamp : Stamp) (t u : Asking)
    → let sent = (next servers (run servers events) event).entry.sent in
    Contains sent m → Contains sent k → wanted_by file stamp m ≡ Some t
    → wanted_by file stamp k ≡ Some u → t.target ≡ u.target
