-- Who is asked for a version announced it. A statement on all runs.
use Rattle.std.specs.Prelude.{ℕ, ◌≡◌, ◌⊎◌, Contains, List, Some}
use Rattle.pg_announced.specs.declared.announced.Announced.{Announced}
use Rattle.pg_announced.specs.Announced.{key_at, note_at}
use Rattle.pg_base.specs.declared.id.FileId.{FileId}
use Rattle.pg_base.specs.declared.stamp.Stamp.{Stamp}
use Rattle.pg_event.specs.declared.event.Event.{Event}
use Rattle.pg_server.specs.pg_pieces.pg_msg.declared.message.Ends.{Ends}
use Rattle.pg_server.specs.pg_pieces.pg_msg.declared.message.Message.TheVariants as message
use Rattle.pg_server.specs.pg_pieces.pg_msg.declared.message.Sent.{Sent}
use Rattle.pg_run.specs.Journal.{mail}
use Rattle.pg_run.specs.Laws.{AtEach, store_after}
use Rattle.pg_run.specs.Run.{run}

-- among these messages is a harbinger of just this version of the file, from who is asked for it to
-- server s, under just this tag
pub record IsAnnounced (mail : List Sent) (s : ℕ) (file : FileId) (n : Announced) : Type 0 where
  pub sent : Sent
  pub among : Contains mail sent
  pub to : sent.to ≡ s
  pub from : sent.packet.from ≡ n.source
  pub ends : Ends
  pub is : sent.packet.message ≡ message.Harbinger ends n.tag n.head
  pub of : ends.file ≡ file

-- of each version that a server notes behind an event: nobody is asked for it, or who is asked sent
-- such a harbinger
abbrev pub SourcesAnnounced : ℕ → Type 0
SourcesAnnounced servers = (events : List Event) → AtEach servers (λ s.
    (file : FileId) (stamp : Stamp) (n : Announced)
    → note_at (store_after servers events s).announced (key_at file stamp) ≡ Some n
    → (n.source ≡ 0) ⊎ IsAnnounced (mail (run servers events).journal) s file n)
