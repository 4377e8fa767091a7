-- Who answers accepted what came: a cell, the harbinger of a version, or its body. A statement on
-- all runs.
use Rattle.std.specs.Prelude.{ℕ, ◌≡◌, ◌⊎◌, true, false, Contains}
use Rattle.pg_run.specs.pg_base.declared.head.Head.{Head}
use Rattle.pg_run.specs.pg_edges.declared.key.Key.{Key}
use Rattle.pg_run.specs.pg_entries.declared.cell.Cell.{Cell}
use Rattle.pg_run.specs.pg_msg.declared.message.Delta.{Delta}
use Rattle.pg_run.specs.pg_msg.declared.message.Ends.{Ends}
use Rattle.pg_run.specs.pg_msg.declared.message.Message.TheVariants as message
use Rattle.pg_run.specs.pg_msg.declared.message.Packet.{Packet}
use Rattle.pg_run.specs.pg_msg.declared.message.Piece.{Piece}
use Rattle.pg_run.specs.pg_msg.declared.message.Sent.{Sent}
use Rattle.pg_run.specs.pg_names.Names.{is_dir}
use Rattle.pg_run.specs.pg_pieces.declared.accepting.EdgeUse.TheVariants as manner
use Rattle.pg_run.specs.pg_pieces.Accepting.{is_accepted, is_current}
use Rattle.pg_run.specs.pg_cells.Cells.{fits}
use Rattle.pg_run.specs.Going.{Hears, InEvents, sent_in}
use Rattle.pg_run.specs.pg_server.declared.input.Input.{Input}
use Rattle.pg_run.specs.pg_store.declared.store.Store.{Store}

-- a cell came that the thing may have
abbrev pub IsCellOf : Packet → Ends → Type 0
IsCellOf packet there = (tag : ℕ) × (c : Cell) × (packet.message ≡ message.Cell there tag c)
    × (fits there.file c ≡ true)

-- or the harbinger of a version of a file
abbrev pub IsHarbingerOf : Packet → Ends → Type 0
IsHarbingerOf packet there = (tag : ℕ) × (head : Head)
    × (packet.message ≡ message.Harbinger there tag head) × (is_dir there.file ≡ false)

-- or, along an edge that was there, a body
abbrev pub IsBodyOf : Store → Packet → Ends → Type 0
IsBodyOf a packet there = (((d : Delta) × (packet.message ≡ message.Delta there d))
    ⊎ ((p : Piece) × (packet.message ≡ message.Piece there p)))
    × (is_accepted a packet.from manner.Answers there ≡ true)

-- what came and is answered so: a cell and a harbinger came along an edge, or made one
pub record IsAnswered (a : Store) (asked : Input) (m : Sent) (ends : Ends) : Type 0 where
  pub packet : Packet
  pub hears : Hears a asked packet
  pub from : packet.from ≡ m.to
  pub there : Ends
  pub file : there.file ≡ ends.file
  pub sender : there.sender ≡ ends.receiver
  pub receiver : there.receiver ≡ ends.sender
  pub current : is_current a packet.from there ≡ true
  pub kind : IsCellOf packet there ⊎ (IsHarbingerOf packet there ⊎ IsBodyOf a packet there)

abbrev pub AnswersAreToAccepted : ℕ → Type 0
AnswersAreToAccepted servers = InEvents servers (λ s a asked.
    (m : Sent) (ends : Ends) (k : Key) (tag : ℕ) → Contains (sent_in a asked) m
    → m.packet.message ≡ message.Ack ends k tag
    → (m.packet.from ≡ s) × IsAnswered a asked m ends)
