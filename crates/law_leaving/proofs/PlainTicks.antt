-- What ticks send: no answers; and Byes only where they are owed.
use Rattle.std.proofs.Common.{Bool, ℕ, ◌≡◌, true, false, Option, None, Some, refl, sym, ap, subst, ◌∙◌, All}
use Rattle.std.specs.Prelude.{Contains, nat_lt}
use Rattle.std.specs.List.{flat_map}
use Rattle.std.proofs.lemmas.List.Elements.{All-append, All-contains_itself, All-nil, All-weaker}
use Rattle.std.proofs.lemmas.Option.{none-some, same_Some}
use Rattle.pg_run.specs.pg_base.declared.id.FileId.{FileId}
use Rattle.pg_run.specs.pg_edges.declared.edge.Edge.{Edge}
use Rattle.pg_run.specs.pg_entries.declared.cell.Cell.{Cell}
use Rattle.pg_run.specs.pg_entries.declared.cell.Cell.TheVariants as cell
use Rattle.pg_run.specs.pg_entries.declared.entry.Entry.{Entry}
use Rattle.pg_run.specs.pg_intent.declared.intent.Intent.{Intent}
use Rattle.pg_run.specs.pg_intent.declared.intent.Intent.TheVariants as intent
use Rattle.pg_run.specs.pg_intent.Intent.{target_of}
use Rattle.pg_run.specs.pg_msg.declared.message.Ends.{Ends}
use Rattle.pg_run.specs.pg_msg.declared.message.Message.{Message}
use Rattle.pg_run.specs.pg_msg.declared.message.Message.TheVariants as message
use Rattle.pg_run.specs.pg_msg.declared.message.Sent.{Sent}
use Rattle.pg_run.specs.pg_msg.Work.{new_work}
use Rattle.pg_run.specs.pg_names.declared.attributes.Attributes.{Attributes}
use Rattle.pg_run.specs.pg_names.Names.{cell_at, own_at}
use Rattle.pg_run.specs.pg_replica.declared.replica.Replica.{Replica}
use Rattle.pg_run.specs.pg_store.declared.store.Store.{Store}
use Rattle.pg_run.specs.pg_store.Births.{birth_of}
use Rattle.pg_run.specs.pg_pieces.Posting.{sent_to}
use Rattle.pg_run.specs.pg_cells.Sending.{Wanted, cell_to, cells_where, is_any, told_as}
use Rattle.pg_run.specs.pg_cells.Ticks.{tick}
use Rattle.pg_run.specs.pg_intentions.Requests.{ask_all, asks, bye_message, confirm_message, leave_message, request}
use Rattle.pg_run.specs.pg_server.Local.{sent_again}
use Rattle.pg_run.proofs.theory_flood_pieces.Choices.{chosen}
use Rattle.pg_run.proofs.Bags.{All-every}
use Rattle.pg_run.proofs.Event.{AskHas, CellHas, asks_have, cells_have}
use Rattle.pg_run.proofs.Sends as sends
use Rattle.pg_run.proofs.Sends.{Fine, tick_walk_fine}

-- no answer to a cell, no Bye and no answer to one
abbrev pub is_plain : Message → Bool
is_plain (message.Ack ends k tag) = false
is_plain (message.Bye ends) = false
is_plain (message.ByeOk file birth) = false
is_plain _ = true

-- nor is what tells nothing of what is held
no_answer : (m : Message) → sends.is_plain m ≡ true → is_plain m ≡ true
no_answer (message.Ack ends k tag) h = h
no_answer (message.Bye ends) h = h
no_answer (message.ByeOk file birth) h = h
no_answer m h = refl

-- nor what tells of a cell
told_plain : (ends : Ends) (tag : ℕ) (c : Cell) → is_plain (told_as ends tag c) ≡ true
told_plain ends tag (cell.Place place) = refl
told_plain ends tag (cell.Flag flag) = refl
told_plain ends tag (cell.Entry e sure) = refl
told_plain ends tag (cell.Version v) =
    chosen (λ (m : Message). is_plain m ≡ true) (nat_lt 1024 v.head.length) (message.Harbinger ends tag v.head)
    (message.Cell ends tag (cell.Version v)) refl refl

module _ (Q : Sent → Type 0) (plain : (m : Sent) → is_plain m.packet.message ≡ true → Q m) where
  pub plainer : (m : Sent) → sends.is_plain m.packet.message ≡ true → Q m
  plainer m h = plain m (no_answer m.packet.message h)

  -- ---- cells of keys, and requests of intentions

  pub cells_fine : (b : Store) (wanted : Wanted) → All Q (cells_where b wanted)
  cells_fine b wanted =
      cells_have Q b wanted
      (All-every (λ (r : FileId × Replica). All (λ (e : Edge). All (CellHas Q b r.0 r.1 e) e.keys) r.1.edges) b.replicas
      (λ r. All-every (λ (e : Edge). All (CellHas Q b r.0 r.1 e) e.keys) r.1.edges
      (λ e. All-every (CellHas Q b r.0 r.1 e) e.keys (λ q c is goes. plain (cell_to b r.0 r.1.birth e c q.1)
      (told_plain (record { file = r.0; sender = r.1.birth; receiver = e.birth }) q.1 c)))))

  module _ (b : Store) where
    -- a Bye is of this
    abbrev pub ByesHave : Type 0
    ByesHave = (file : FileId) (birth peer peer_birth : ℕ) → Contains b.intents (intent.Bye file birth peer peer_birth)
        → Q (sent_to b peer (bye_message file birth peer_birth))

    same_plain : (to : ℕ) (l m : Message) → is_plain l ≡ true → ◌≡◌ {A = Option Message} (Some l) (Some m) → Q (sent_to b to m)
    same_plain to l m p is = plain (sent_to b to m) (ap is_plain (sym (same_Some l m is)) ∙ p)

    confirm_plain : (to : ℕ) (dir : FileId) (o : Option Entry) (m : Message) → confirm_message dir o ≡ Some m → Q (sent_to b to m)
    confirm_plain to dir None m is = absurd (none-some m is)
    confirm_plain to dir (Some e) m is = same_plain to (message.Confirm dir e) m refl is

    leave_plain : (to : ℕ) (file : FileId) (birth : ℕ) (o : Option Attributes) (m : Message) → leave_message b file birth o ≡ Some m → Q (sent_to b to m)
    leave_plain to file birth None m is = absurd (none-some m is)
    leave_plain to file birth (Some own) m is =
        same_plain to (message.Leave (record { file = file; sender = birth_of b file; receiver = birth }) own.place.stamp) m refl is

    request_fine : ByesHave → (i : Intent) → Contains b.intents i → (m : Message) → request b i ≡ Some m → Q (sent_to b (target_of i) m)
    request_fine byes (intent.Bye file birth peer peer_birth) among m is =
        subst (λ (z : Message). Q (sent_to b peer z)) (same_Some (bye_message file birth peer_birth) m is) (byes file birth peer peer_birth among)
    request_fine byes (intent.Seek file target) among m is = same_plain target (message.Seek file (birth_of b file)) m refl is
    request_fine byes (intent.Fill file birth target) among m is = same_plain target (message.Fetch file birth) m refl is
    request_fine byes (intent.Patch dir e target) among m is = same_plain target (message.Tell dir e) m refl is
    request_fine byes (intent.Confirm dir child target) among m is = confirm_plain target dir (cell_at b.names dir child) m is
    request_fine byes (intent.Leave file peer peer_birth) among m is = leave_plain peer file peer_birth (own_at b.names file) m is

    pub asked_fine : ByesHave → All (AskHas Q b) b.intents
    asked_fine byes =
        All-weaker (Contains b.intents) (AskHas Q b) (λ i among m is asked. request_fine byes i among m is) b.intents
        (All-contains_itself b.intents)

    -- ---- a tick

    pub tick_fine : ByesHave → (moment word : ℕ) → Fine Q plainer 0 (sent_again b word (new_work moment 0))
    tick_fine byes moment word =
        let w = new_work moment 0 in
        tick_walk_fine Q plainer 0 b word (ask_all b (tick b w))
        (All-append Q (tick b w).sent (flat_map (asks b) b.intents) (cells_fine b is_any) (asks_have Q b b.intents (asked_fine byes)), All-nil Q, refl)
