-- What cells and the messages of intentions are.
use Rattle.std.proofs.Common.{ℕ, ◌≡◌, ◌==◌, true, [], get_or, Option, None, Some, All, refl}
use Rattle.std.specs.Prelude.{nat_lt}
use Rattle.std.proofs.lemmas.List.Elements.{All-cons, All-nil}
use Rattle.law_frame.specs.pg_run.pg_base.declared.head.Head.{Head}
use Rattle.law_frame.specs.pg_run.pg_base.declared.id.FileId.{FileId}
use Rattle.law_frame.specs.pg_run.pg_edges.declared.edge.Edge.{Edge}
use Rattle.law_frame.specs.pg_run.pg_entries.declared.cell.Cell.{Cell}
use Rattle.law_frame.specs.pg_run.pg_entries.declared.cell.Cell.TheVariants as cell
use Rattle.law_frame.specs.pg_run.pg_entries.declared.entry.Entry.{Entry}
use Rattle.law_frame.specs.pg_run.pg_intent.declared.intent.Intent.{Intent}
use Rattle.law_frame.specs.pg_run.pg_intent.declared.intent.Intent.TheVariants as intent
use Rattle.law_frame.specs.pg_run.pg_intent.Intent.{target_of}
use Rattle.law_frame.specs.pg_run.pg_msg.declared.message.Ends.{Ends}
use Rattle.law_frame.specs.pg_run.pg_msg.declared.message.Message.{Message}
use Rattle.law_frame.specs.pg_run.pg_msg.declared.message.Message.TheVariants as message
use Rattle.law_frame.specs.pg_run.pg_msg.declared.message.Sent.{Sent}
use Rattle.law_frame.specs.pg_run.pg_names.declared.attributes.Attributes.{Attributes}
use Rattle.law_frame.specs.pg_run.pg_names.Names.{cell_at as entry_at, own_at}
use Rattle.law_frame.specs.pg_run.pg_store.declared.store.Store.{Store}
use Rattle.law_frame.specs.pg_run.pg_pieces.Posting.{sent_to}
use Rattle.law_frame.specs.pg_run.pg_cells.Sending.{Wanted, cells_where, told_as}
use Rattle.law_frame.specs.pg_run.pg_intentions.Requests.{asked_of, asks, confirm_message, leave_message, request}
use Rattle.law_frame.proofs.pg_run.theory_flood_pieces.Choices.{chosen}
use Rattle.law_frame.proofs.pg_run.Event.{cells_have}
use Rattle.law_full.proofs.Works.{is_plain}

-- ---- cells

no_harbinger : (p q : Ends) (tag time : ℕ) (head : Head) (c : Cell) → message.Harbinger p tag head ≡ message.Cell q time c → ⊥
no_harbinger p q tag time head c h = cc

-- what tells of a cell as a whole is that cell
pub told_whole : (p q : Ends) (tag time : ℕ) (c d : Cell) → told_as p tag c ≡ message.Cell q time d → message.Cell p tag c ≡ message.Cell q time d
told_whole p q tag time (cell.Place place) d h = h
told_whole p q tag time (cell.Flag flag) d h = h
told_whole p q tag time (cell.Entry entry sure) d h = h
told_whole p q tag time (cell.Version v) d h =
    chosen (λ (m : Message). m ≡ message.Cell q time d → message.Cell p tag (cell.Version v) ≡ message.Cell q time d) (nat_lt 1024 v.head.length)
    (message.Harbinger p tag v.head) (message.Cell p tag (cell.Version v)) (λ e. absurd (no_harbinger p q tag time v.head d e)) (λ e. e) h

module _ (P : Sent → Type 0) (plain : (x : Sent) → is_plain x.packet.message ≡ true → P x) (a : Store)
    (each : (ends : Ends) (e : Edge) (c : Cell) (tag : ℕ) → P (sent_to a e.peer (message.Cell ends tag c))) where
  -- what tells of a cell is the cell, or a harbinger
  told_so : (ends : Ends) (e : Edge) (c : Cell) (tag : ℕ) → P (sent_to a e.peer (told_as ends tag c))
  told_so ends e (cell.Place place) tag = each ends e (cell.Place place) tag
  told_so ends e (cell.Flag flag) tag = each ends e (cell.Flag flag) tag
  told_so ends e (cell.Entry entry sure) tag = each ends e (cell.Entry entry sure) tag
  told_so ends e (cell.Version v) tag =
      let m = message.Harbinger ends tag v.head in
      chosen (λ (m : Message). P (sent_to a e.peer m)) (nat_lt 1024 v.head.length) m (message.Cell ends tag (cell.Version v))
      (plain (sent_to a e.peer m) refl) (each ends e (cell.Version v) tag)

  -- what holds of each cell that may be sent, and of what is plain, holds of all that is told of
  -- cells
  pub all_cells : (wanted : Wanted) → All P (cells_where a wanted)
  all_cells wanted =
      cells_have P a wanted
      (λ i d lt.
      let r = get_or a.replicas i d in
      (λ j b l.
      let e = get_or r.1.edges j b in
      (λ k q t. (λ c is free. told_so (record { file = r.0; sender = r.1.birth; receiver = e.birth }) e c (get_or e.keys k q).1))))

-- ---- intentions

module _ (P : Sent → Type 0) (plain : (x : Sent) → is_plain x.packet.message ≡ true → P x) (a : Store) where
  asked_plain : (to : ℕ) (m : Message) → is_plain m ≡ true → All P (asked_of a to (Some m))
  asked_plain to m is = All-cons P (sent_to a to m) [] (plain (sent_to a to m) is) (All-nil P)

  abbrev pub ConfirmsAre : Intent → Type 0
  ConfirmsAre i = (dir child : FileId) (target : ℕ) (e : Entry) → i ≡ intent.Confirm dir child target → entry_at a.names dir child ≡ Some e → (to : ℕ) → P (sent_to a to (message.Confirm dir e))

  confirm_are : (i : Intent) → ConfirmsAre i → (dir child : FileId) (target to : ℕ) → i ≡ intent.Confirm dir child target → (o : Option Entry) → entry_at a.names dir child ≡ o → All P (asked_of a to (confirm_message dir o))
  confirm_are i each dir child target to is None there = All-nil P
  confirm_are i each dir child target to is (Some e) there = All-cons P (sent_to a to (message.Confirm dir e)) [] (each dir child target e is there to) (All-nil P)

  leave_are : (file : FileId) (birth to : ℕ) (o : Option Attributes) → All P (asked_of a to (leave_message a file birth o))
  leave_are file birth to None = All-nil P
  leave_are file birth to (Some own) = asked_plain to _ refl

  request_are : (i : Intent) → ConfirmsAre i → (to : ℕ) → All P (asked_of a to (request a i))
  request_are (intent.Bye file birth peer peer_birth) each to = asked_plain to _ refl
  request_are (intent.Seek file target) each to = asked_plain to _ refl
  request_are (intent.Fill file birth target) each to = asked_plain to _ refl
  request_are (intent.Patch dir entry target) each to = asked_plain to _ refl
  request_are (intent.Confirm dir child target) each to = confirm_are (intent.Confirm dir child target) each dir child target to refl (entry_at a.names dir child) refl
  request_are (intent.Leave file peer peer_birth) each to = leave_are file peer_birth to (own_at a.names file)

  -- what holds of plain messages, and of what its Confirm asks, holds of what an intention asks
  pub asks_are : (i : Intent) → ConfirmsAre i → All P (asks a i)
  asks_are i each = chosen (All P) (target_of i == 0) [] (asked_of a (target_of i) (request a i)) (All-nil P) (request_are i each (target_of i))
