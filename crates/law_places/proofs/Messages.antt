-- Which messages tell of places that may stand.
use Rattle.std.proofs.Common.{ℕ, ◌≡◌, false, nat_lt, List, All}
use Rattle.std.proofs.lemmas.List.Elements.{All-weaker}
use Rattle.law_frame.specs.pg_run.pg_base.declared.id.FileId.{FileId}
use Rattle.law_frame.specs.pg_run.pg_base.Id.{is_same_file}
use Rattle.law_frame.specs.pg_run.pg_entries.declared.cell.Cell.{Cell}
use Rattle.law_frame.specs.pg_run.pg_entries.declared.cell.Cell.TheVariants as cells
use Rattle.law_frame.specs.pg_run.pg_entries.declared.entry.Entry.{Entry}
use Rattle.law_frame.specs.pg_run.pg_cells.Sending.{told_as}
use Rattle.law_frame.specs.pg_run.pg_msg.declared.message.Ends.{Ends}
use Rattle.law_frame.specs.pg_run.pg_msg.declared.message.Message.{Message}
use Rattle.law_frame.specs.pg_run.pg_msg.declared.message.Message.TheVariants as message
use Rattle.law_frame.specs.pg_run.pg_msg.declared.message.Sent.{Sent}
use Rattle.law_frame.specs.pg_run.pg_register.declared.place.Place.{Place}
use Rattle.law_frame.specs.pg_run.pg_register.Place.{root}
use Rattle.law_frame.proofs.pg_run.theory_flood_pieces.Choices.{chosen}

module _ (P : FileId → Place → Type 0) where
  abbrev pub OfEntry : Entry → Type 0
  OfEntry e = P e.child e.place

  abbrev pub OfCell : FileId → Cell → Type 0
  OfCell file (cells.Place place) = P file place
  OfCell file (cells.Entry e sure) = OfEntry e
  OfCell file (cells.Flag flag) = Unit {0}
  OfCell file (cells.Version v) = Unit {0}

  -- of the root none is granted
  abbrev pub OfMessage : Message → Type 0
  OfMessage (message.Cell ends tag c) = OfCell ends.file c
  OfMessage (message.Grant ends granted) = is_same_file ends.file root ≡ false → P ends.file granted.place
  OfMessage (message.Confirm dir e) = OfEntry e
  OfMessage (message.PlaceIs dir e) = OfEntry e
  OfMessage (message.Tell dir e) = OfEntry e
  OfMessage _ = Unit {0}

  abbrev pub OfSent : Sent → Type 0
  OfSent m = OfMessage m.packet.message

  -- what tells of a cell, be it by a version's head alone
  pub as_told : (ends : Ends) (tag : ℕ) (c : Cell) → OfCell ends.file c → OfMessage (told_as ends tag c)
  as_told ends tag (cells.Version v) of =
      chosen OfMessage (nat_lt 1024 v.head.length) (message.Harbinger ends tag v.head) (message.Cell ends tag (cells.Version v)) tt tt
  as_told ends tag (cells.Place place) of = of
  as_told ends tag (cells.Entry e sure) of = of
  as_told ends tag (cells.Flag flag) of = tt

-- what may be told may be told by a weaker rule
module _ (P Q : FileId → Place → Type 0) (up : (f : FileId) (p : Place) → P f p → Q f p) where
  cell_further : (f : FileId) (c : Cell) → OfCell P f c → OfCell Q f c
  cell_further f (cells.Place place) h = up f place h
  cell_further f (cells.Entry e sure) h = up e.child e.place h
  cell_further f (cells.Flag flag) h = tt
  cell_further f (cells.Version v) h = tt

  pub message_further : (m : Message) → OfMessage P m → OfMessage Q m
  message_further (message.Cell ends tag c) h = cell_further ends.file c h
  message_further (message.Grant ends granted) h = λ apart. up ends.file granted.place (h apart)
  message_further (message.Confirm dir e) h = up e.child e.place h
  message_further (message.PlaceIs dir e) h = up e.child e.place h
  message_further (message.Tell dir e) h = up e.child e.place h
  message_further m h = tt

  pub sent_further : (ms : List Sent) → All (OfSent P) ms → All (OfSent Q) ms
  sent_further ms h = All-weaker (OfSent P) (OfSent Q) (λ m k. message_further m.packet.message k) ms h
