-- Each event keeps the rule of the edges; and what goes in one is over. Statements on all runs.
use Rattle.std.specs.Prelude.{ℕ, ◌≡◌, true, List, [], ◌∷◌, Some}
use Rattle.std.specs.List.{flat_map}
use Rattle.pg_base.specs.declared.id.FileId.{FileId}
use Rattle.pg_entries.specs.declared.cell.Cell.{Cell}
use Rattle.theory_flood.specs.Promises.{Saying}
use Rattle.theory_flood.specs.Promises.Saying.{Other}
use Rattle.theory_flood.specs.Server.{Slot}
use Rattle.theory_flood.specs.Rule.{Rule}
use Rattle.theory_flood_pieces.specs.Seen.{answering, says, saying}
use Rattle.pg_event.specs.declared.event.Event.{Event}
use Rattle.pg_server.specs.pg_pieces.pg_msg.declared.message.Message.{Message}
use Rattle.pg_server.specs.pg_pieces.pg_msg.declared.message.Message.TheVariants as message
use Rattle.pg_server.specs.pg_pieces.pg_msg.declared.message.Sent.{Sent}
use Rattle.pg_server.specs.declared.input.Input.{Input}
use Rattle.pg_server.specs.declared.input.Input.TheVariants as input
use Rattle.pg_server.specs.Local.{takes_effect}
use Rattle.pg_server.specs.pg_pieces.pg_store.Together.{IsOver, birth_at}
use Rattle.pg_run.specs.Carried.{gone_in}
use Rattle.pg_run.specs.Going.{InEvents, behind, sent_in}
use Rattle.pg_run.specs.Journal.{mail}
use Rattle.pg_run.specs.Laws.{TakesIn}
use Rattle.pg_run.specs.Run.{World, run}

-- what the edges read of an input
abbrev pub heard_in : ℕ → Input → Saying Slot Cell
heard_in s (input.Call moment call) = Other
heard_in s (input.Tick moment word) = Other
heard_in s (input.Arrival packet) = saying packet.from s packet.message
heard_in s input.Restart = Other

-- what a message said, if it is a harbinger
abbrev pub said_late : Message → Saying Slot Cell → List (Saying Slot Cell)
said_late (message.Harbinger ends tag head) said = said ∷ []
said_late _ said = []

-- a body comes later than its harbinger: so an event may answer what any harbinger said that was
-- ever sent
abbrev pub late_in : List Sent → List (Saying Slot Cell)
late_in mail = flat_map (λ m. said_late m.packet.message (says m)) mail

-- one event keeps the rule of the edges
abbrev pub KeepsTheRule : World → ℕ → Input → Type 0
KeepsTheRule w s asked =
    let a = w.stores s in
    Rule (answering (late_in (mail w.journal))) s a (behind a asked) (heard_in s asked)
    (sent_in a asked)

-- each does
abbrev pub EventsKeepTheRule : ℕ → Type 0
EventsKeepTheRule servers = (events : List Event) (event : Event) (s : ℕ) (asked : Input)
    → TakesIn servers (run servers events) event s asked
    → KeepsTheRule (run servers events) s asked

-- where a replica goes in an event, its birth is over then
abbrev pub WhatGoesIsOver : ℕ → Type 0
WhatGoesIsOver servers = InEvents servers (λ s a asked.
    (file : FileId) (birth : ℕ) → takes_effect a asked ≡ true → gone_in a asked ≡ Some file
    → birth_at a file ≡ Some birth → IsOver (behind a asked) file birth)
