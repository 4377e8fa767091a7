-- Who sends an answer to a cell accepted it, who sends an answer to a Bye heard it, and a Bye is
-- sent where it is owed.
use Rattle.std.proofs.Common.{ℕ, ◌≡◌, ◌⊎◌, ◌++◌, ◌∷◌, [], true, false, List, Option, Some, refl, sym, ap, subst, ◌∙◌, inl, inr, All}
use Rattle.std.specs.Prelude.{Contains}
use Rattle.std.proofs.lemmas.Bool.{and_parts, false≢true}
use Rattle.std.proofs.lemmas.List.Elements.{All-contains, All-nil}
use Rattle.pg_run.specs.pg_base.declared.id.FileId.{FileId}
use Rattle.pg_run.specs.pg_edges.declared.key.Key.{Key}
use Rattle.pg_run.specs.pg_edges.declared.key.Key.TheVariants as key
use Rattle.pg_run.specs.pg_edges.Edges.{is_listed}
use Rattle.pg_run.specs.pg_event.declared.event.Event.{Event}
use Rattle.pg_run.specs.pg_call.declared.call.Call.{Call}
use Rattle.pg_run.specs.pg_call.declared.call.Call.TheVariants as call
use Rattle.pg_run.specs.pg_intent.declared.intent.Intent.{Intent}
use Rattle.pg_run.specs.pg_intent.declared.intent.Intent.TheVariants as intent
use Rattle.pg_run.specs.pg_intent.Intents.{HaveOwnKeys}
use Rattle.pg_run.specs.pg_msg.declared.message.Ends.{Ends}
use Rattle.pg_run.specs.pg_msg.declared.message.Message.{Message}
use Rattle.pg_run.specs.pg_msg.declared.message.Message.TheVariants as message
use Rattle.pg_run.specs.pg_msg.declared.message.Packet.{Packet}
use Rattle.pg_run.specs.pg_msg.declared.message.Sent.{Sent}
use Rattle.pg_run.specs.pg_msg.declared.work.Work.{Work}
use Rattle.pg_run.specs.pg_msg.Ends.{back}
use Rattle.pg_run.specs.pg_msg.Sent.{cell_key}
use Rattle.pg_run.specs.pg_msg.Work.{new_work}
use Rattle.pg_run.proofs.theory_flood_pieces.Choices.{chosen, decided}
use Rattle.pg_run.specs.pg_replica.declared.replica.Replica.{Replica}
use Rattle.pg_run.specs.pg_replica.Replicas.{lists_peer}
use Rattle.pg_run.specs.pg_server.declared.input.Input.{Input}
use Rattle.pg_run.specs.pg_server.declared.input.Input.TheVariants as input
use Rattle.pg_run.specs.pg_server.Local.{first_effect, is_heard, receive, takes_effect, ticked, without_sources}
use Rattle.pg_run.specs.pg_store.declared.store.Store.{Store}
use Rattle.pg_run.specs.pg_store.Links.{is_linked}
use Rattle.pg_run.specs.pg_store.Seen.{server_of}
use Rattle.pg_run.specs.pg_store.Store.{is_before_clock_end, replica_at}
use Rattle.pg_run.specs.pg_pieces.declared.accepting.EdgeUse.{EdgeUse}
use Rattle.pg_run.specs.pg_pieces.declared.accepting.EdgeUse.TheVariants as manner
use Rattle.pg_run.specs.pg_pieces.Accepting.{is_accepted, is_current, meets}
use Rattle.pg_run.specs.pg_pieces.Done.{Done, idle}
use Rattle.pg_run.specs.pg_pieces.Posting.{sent_to}
use Rattle.pg_run.specs.pg_cells.Sending.{is_chosen}
use Rattle.pg_run.specs.Going.{ByesAreAnswered, ByesAreOwed, Hears, Owes, behind, sent_in}
use Rattle.pg_run.specs.Laws.{TakesIn, store_after}
use Rattle.pg_run.specs.Run.{run}
use Rattle.pg_run.proofs.Event.{all_sent, asks_by_have, end_of, store_is}
use Rattle.pg_run.specs.Intending.{IntentionsAreInOrder}
use Rattle.pg_run.proofs.Frame.{acts_is}
use Rattle.pg_run.proofs.Holders.{IsBy}
use Rattle.law_births.proofs.ByeEvents.{effect_bye}
use Rattle.law_births.proofs.Owing.{found_of, owed_of}
use Rattle.law_leaving.specs.Answers.{AnswersAreToAccepted, IsAnswered, IsBodyOf, IsCellOf, IsHarbingerOf}
use Rattle.law_leaving.specs.Premises.{RunsStayWhole}
use Rattle.law_leaving.proofs.Behind.{behind_is}
use Rattle.pg_run.proofs.Sends.{AnswersHave, received_fine}
use Rattle.pg_run.proofs.SendsCalls.{call_fine}
use Rattle.law_leaving.proofs.PlainTicks.{asked_fine, cells_fine, is_plain, plainer, tick_fine}
use Rattle.law_leaving.proofs.Unlinked.{unlinked_behind}

-- a Bye of this birth of the sender's replica was heard
pub record IsToBye (a : Store) (asked : Input) (m : Sent) (file : FileId) (birth : ℕ) : Type 0 where
  pub packet : Packet
  pub hears : Hears a asked packet
  pub from : packet.from ≡ m.to
  pub ends : Ends
  pub is : packet.message ≡ message.Bye ends
  pub of : ends.file ≡ file
  pub sender : ends.sender ≡ birth

-- server s has a, and takes this
module _ (s : ℕ) (a : Store) (asked : Input) where
  -- what is said of a message that it sends
  abbrev Says : Message → Sent → Type 0
  Says (message.Ack ends k tag) m = (m.packet.from ≡ s) × IsAnswered a asked m ends
  Says (message.ByeOk file birth) m = (m.packet.from ≡ s) × IsToBye a asked m file birth
  Says (message.Bye ends) m = (m.packet.from ≡ s) × Owes (behind a asked) ends.file ends.sender m.to ends.receiver
  Says _ m = Unit {0}

  abbrev pub Q : Sent → Type 0
  Q m = Says m.packet.message m

  plain_says : (x : Message) (m : Sent) → is_plain x ≡ true → Says x m
  plain_says (message.Ack ends k tag) m h = absurd (false≢true h)
  plain_says (message.ByeOk file birth) m h = absurd (false≢true h)
  plain_says (message.Bye ends) m h = absurd (false≢true h)
  plain_says x m h = tt

  plain : (m : Sent) → is_plain m.packet.message ≡ true → Q m
  plain m h = plain_says m.packet.message m h

  module _ (server : server_of a ≡ s) (then : server_of (behind a asked) ≡ s)
      (ticks : (moment word : ℕ) → asked ≡ input.Tick moment word → (file : FileId) (birth peer peer_birth : ℕ)
      → Owes a file birth peer peer_birth → Owes (behind a asked) file birth peer peer_birth) where
    -- ---- the first effect

    abbrev Sends : Work → Type 0
    Sends work = All Q work.sent × All Q work.tail

    nothing : (moment from : ℕ) → Sends (new_work moment from)
    nothing moment from = (All-nil Q, All-nil Q)

    -- an answer along the ends of what came
    module _ (packet : Packet) (is : asked ≡ input.Arrival packet) (heard : is_heard a packet ≡ true) (ends : Ends) where
      answered : (way : EdgeUse) → is_accepted a packet.from way ends ≡ true
          → IsCellOf packet ends ⊎ (IsHarbingerOf packet ends ⊎ IsBodyOf a packet ends) → (b : Store) → IsBy a b → (k : Key) (tag : ℕ)
          → Q (sent_to b packet.from (message.Ack (back ends) k tag))
      answered way met kind b same k tag = (
        same ∙ server,
        record {
          packet = packet;
          hears = record { is = is; heard = ap (takes_effect a) is ∙ heard };
          from = refl;
          there = ends;
          file = refl;
          sender = refl;
          receiver = refl;
          current = (and_parts (is_current a packet.from ends) (meets a packet.from way ends) met).0;
          kind = kind;
        },
      )

    answers : (packet : Packet) → asked ≡ input.Arrival packet → is_heard a packet ≡ true
        → (m : Message) → packet.message ≡ m → AnswersHave Q (plainer Q plain) packet.from a packet.from m
    answers packet is heard (message.Cell ends tag c) e = λ fit met b same.
        answered packet is heard ends manner.Makes met (inl (tag, c, e, fit)) b same (cell_key c) tag
    answers packet is heard (message.Harbinger ends tag head) e = record {
      asks = λ b offset heads same. tt;
      acks = λ b under file met same.
          answered packet is heard ends manner.Makes met (inr (inl (tag, head, e, file))) b same (key.Version head.stamp) under;
      tells = λ b peer same. tt;
    }
    answers packet is heard (message.Want ends wanted) e = record {
      gives = λ b v offset same there. tt;
      changes = λ b v ranges same there. tt;
    }
    answers packet is heard (message.Delta ends d) e = record {
      asks = λ b offset heads same. tt;
      acks = λ b of under file met same.
          answered packet is heard ends manner.Answers met (inr (inr (inl (d, e), met))) b same (key.Version of) under;
    }
    answers packet is heard (message.Piece ends p) e = record {
      asks = λ b offset heads same. tt;
      acks = λ b of under file met same.
          answered packet is heard ends manner.Answers met (inr (inr (inr (p, e), met))) b same (key.Version of) under;
    }
    answers packet is heard (message.Bye ends) e = (
      server,
      record {
        packet = packet;
        hears = record { is = is; heard = ap (takes_effect a) is ∙ heard };
        from = refl;
        ends = ends;
        is = e;
        of = refl;
        sender = refl;
      },
    )
    answers packet is heard (message.Confirm dir entry) e = λ b r. tt
    answers packet is heard (message.Tell dir entry) e = λ b. tt
    answers packet is heard (message.Leave ends stamp) e = λ b. tt
    answers packet is heard m e = tt

    first_sends : (x : Input) → asked ≡ x → Sends (first_effect a x).work
    first_sends (input.Call moment call) is = let k = call_fine Q (plainer Q plain) a moment call in (k.0, k.1)
    first_sends (input.Tick moment word) is =
        let b = without_sources a in
        let k = tick_fine Q plain b (λ file birth peer peer_birth owes.
        (server, ticks moment word is file birth peer peer_birth owes)) moment word in
        let P : Done → Type 0 = λ d. Sends d.work in
        chosen P (is_before_clock_end a) (ticked a word (new_work moment 0)) (idle a (new_work moment 0)) (k.0, k.1) (nothing moment 0)
    first_sends (input.Arrival packet) is =
        let w = new_work 0 packet.from in
        decided (λ (d : Done). Sends d.work) (is_heard a packet) (receive a packet.message w) (idle a w)
        (λ heard.
        let has = answers packet is heard packet.message refl in
        let k = received_fine Q (plainer Q plain) packet.from a packet.message w has (All-nil Q, All-nil Q, refl) in
        (k.0, k.1))
        (λ no. nothing 0 packet.from)
    first_sends input.Restart is = nothing 0 0

    -- ---- and what follows

    pub all_said : All Q (sent_in a asked)
    all_said =
        let d = end_of a asked in
        let first = first_sends asked refl in
        let same : behind a asked ≡ d.store = store_is a asked in
        let own : server_of d.store ≡ s = ap (λ (b : Store). server_of b) (sym same) ∙ then in
        all_sent Q a asked first.0 (cells_fine Q plain d.store (is_chosen d.work.touched d.work.linked))
        (asks_by_have Q d.store d.work.begun (asked_fine Q plain d.store (λ file birth peer peer_birth owes.
        (own, subst (λ (b : Store). Owes b file birth peer peer_birth) (sym same) owes))))
        first.1

-- ---- what is owed before a tick is owed behind it

not_heard : {A : Type 0} (moment word : ℕ) (packet : Packet) → input.Tick moment word ≡ input.Arrival packet → A
not_heard moment word packet is = absurd (let z : input.Tick moment word ≡ input.Arrival packet = is in cc)

not_called : {A : Type 0} (moment word now : ℕ) (c : Call) → input.Tick moment word ≡ input.Call now c → A
not_called moment word now c is = absurd (let z : input.Tick moment word ≡ input.Call now c = is in cc)

owed_on : (a : Store) (moment word : ℕ) → HaveOwnKeys a.intents → (file : FileId) (birth peer peer_birth : ℕ)
    → Owes a file birth peer peer_birth → Owes (behind a (input.Tick moment word)) file birth peer peer_birth
owed_on a moment word keys file birth peer peer_birth owes =
    let asked = input.Tick moment word in
    let P : Option Intent → Type 0 = λ o. o ≡ Some (intent.Bye file birth peer peer_birth) in
    owed_of file birth peer (behind a asked) peer_birth
    (effect_bye file birth peer P a asked
    (record {
      says = λ packet is heard. not_heard moment word packet is;
      entered = λ now view u is at. not_called moment word now (call.Giveup view peer) is;
    }) (found_of file birth peer a peer_birth keys owes))

-- ---- in every run, where servers stay whole, and no two intentions have one key

module _ (n : ℕ) (whole : RunsStayWhole n) (intends : IntentionsAreInOrder n)
    (events : List Event) (event : Event) (s : ℕ) (asked : Input)
    (is : TakesIn n (run n events) event s asked) where
  abbrev A : Store
  A = store_after n events s

  on_tick : (moment word : ℕ) → asked ≡ input.Tick moment word → (file : FileId) (birth peer peer_birth : ℕ)
      → Owes A file birth peer peer_birth → Owes (behind A asked) file birth peer peer_birth
  on_tick moment word same file birth peer peer_birth owes =
      let acts = acts_is n (run n events) event (record { server = s; asked = asked }) is in
      let keys = (intends events s acts.least acts.most).keys in
      subst (λ (x : Input). Owes (behind A x) file birth peer peer_birth) (sym same)
      (owed_on A moment word keys file birth peer peer_birth owes)

  said : (m : Sent) → Contains (sent_in A asked) m → Q s A asked m
  said m among =
      let then : server_of (behind A asked) ≡ s =
      ap (λ (b : Store). server_of b) (sym (behind_is n events event s asked is))
      ∙ (whole (events ++ event ∷ []) s).server in
      All-contains (Q s A asked) (sent_in A asked) m (all_said s A asked (whole events s).server then on_tick) among

  said_as : (m : Sent) → Contains (sent_in A asked) m → (x : Message) → m.packet.message ≡ x → Says s A asked x m
  said_as m among x e = subst (λ (z : Message). Says s A asked z m) e (said m among)

  unlinked_then : (m : Sent) (file : FileId) (birth : ℕ) → IsToBye A asked m file birth → (y : Replica)
      → replica_at (behind A asked) file ≡ Some y → is_listed y.edges m.to birth ≡ true → ⊥
  unlinked_then m file birth k y here there =
      let heard : is_heard A k.packet ≡ true = ap (takes_effect A) (sym k.hears.is) ∙ k.hears.heard in
      let P : Input → Type 0 = λ x. is_linked (behind A x) k.ends.file k.packet.from k.ends.sender ≡ false in
      let none : P asked = subst P (sym k.hears.is) (unlinked_behind A k.packet k.ends k.is heard) in
      let at : is_linked (behind A asked) file m.to birth ≡ false =
      subst (λ (z : ℕ). is_linked (behind A asked) file m.to z ≡ false) k.sender
      (subst (λ (z : ℕ). is_linked (behind A asked) file z k.ends.sender ≡ false) k.from
      (subst (λ (f : FileId). is_linked (behind A asked) f k.packet.from k.ends.sender ≡ false) k.of none)) in
      false≢true (sym at ∙ ap (λ (o : Option Replica). lists_peer o m.to birth) here ∙ there)

-- BYES ARE SENT WHERE THEY ARE OWED
pub byes_are_owed : (n : ℕ) → RunsStayWhole n → IntentionsAreInOrder n → ByesAreOwed n
byes_are_owed n whole intends events event s asked is m e among same =
    said_as n whole intends events event s asked is m among (message.Bye e) same

-- AND ARE ANSWERED to who sent them
pub byes_are_answered : (n : ℕ) → RunsStayWhole n → IntentionsAreInOrder n → ByesAreAnswered n
byes_are_answered n whole intends events event s asked is m file birth among same =
    let k = said_as n whole intends events event s asked is m among (message.ByeOk file birth) same in (
      k.0,
      k.1.packet,
      k.1.hears,
      k.1.from,
      (k.1.ends, k.1.is, k.1.of, k.1.sender),
      unlinked_then n whole intends events event s asked is m file birth k.1,
    )

-- WHAT IS ANSWERED WAS ACCEPTED
pub answers_are_to_accepted : (n : ℕ) → RunsStayWhole n → IntentionsAreInOrder n → AnswersAreToAccepted n
answers_are_to_accepted n whole intends events event s asked is m e k tag among same =
    said_as n whole intends events event s asked is m among (message.Ack e k tag) same
