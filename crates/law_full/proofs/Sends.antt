-- What is sent in an event: replies, what asks for a replica, cells of what is held before, in a
-- tick, and behind, and what intentions ask.
use Rattle.std.proofs.Common.{ℕ, ◌≡◌, true, [], ◌++◌, get_or, All, refl, subst}
use Rattle.std.specs.List.{flat_map}
use Rattle.std.proofs.lemmas.List.Elements.{All-append, All-nil, All-push}
use Rattle.law_frame.specs.pg_run.pg_base.declared.id.FileId.{FileId}
use Rattle.law_frame.specs.pg_run.pg_intent.declared.intent.Intent.{Intent}
use Rattle.law_frame.specs.pg_run.pg_intent.declared.key.IntentKey.{IntentKey}
use Rattle.law_frame.specs.pg_run.pg_msg.declared.message.Ends.{Ends}
use Rattle.law_frame.specs.pg_run.pg_msg.declared.message.Message.{Message}
use Rattle.law_frame.specs.pg_run.pg_msg.declared.message.Message.TheVariants as message
use Rattle.law_frame.specs.pg_run.pg_msg.declared.message.Packet.{Packet}
use Rattle.law_frame.specs.pg_run.pg_msg.declared.message.Sent.{Sent}
use Rattle.law_frame.specs.pg_run.pg_msg.declared.work.Work.{Work}
use Rattle.law_frame.specs.pg_run.pg_msg.Work.{new_work}
use Rattle.law_frame.specs.pg_run.pg_store.declared.store.Store.{Store}
use Rattle.law_frame.specs.pg_run.pg_names.declared.attributes.Attributes.{Attributes}
use Rattle.law_frame.specs.pg_run.pg_replica.declared.replica.Replica.{Replica}
use Rattle.law_frame.specs.pg_run.pg_store.Links.{is_clean}
use Rattle.law_frame.specs.pg_run.pg_store.Store.{is_full}
use Rattle.law_frame.specs.pg_run.pg_pieces.Accepting.{link_peer}
use Rattle.law_frame.specs.pg_run.pg_pieces.Posting.{sent_to}
use Rattle.law_frame.specs.pg_run.pg_repair.Fetching.{ends_to, granted_from}
use Rattle.law_frame.specs.pg_run.pg_pieces.Done.{Done, idle}
use Rattle.law_frame.specs.pg_run.pg_cells.Sending.{Wanted, cells_where, is_any, is_chosen}
use Rattle.law_frame.specs.pg_run.pg_cells.Ticks.{tick}
use Rattle.law_frame.specs.pg_run.pg_intentions.Requests.{ask_all, asks, asks_by}
use Rattle.law_frame.specs.pg_run.pg_server.declared.input.Input.{Input}
use Rattle.law_frame.specs.pg_run.pg_server.declared.input.Input.TheVariants as input
use Rattle.law_frame.specs.pg_run.pg_server.Local.{effect, first_effect, is_heard, receive}
use Rattle.law_frame.proofs.pg_run.theory_flood_pieces.Choices.{All-flat_map, chosen}
use Rattle.law_frame.proofs.pg_run.Event.{all_sent, end_of, store_is}
use Rattle.law_frame.proofs.pg_run.Ticked.{tick_work}
use Rattle.law_full.proofs.Called.{call_sends}
use Rattle.law_full.proofs.Replies.{MayAnswer, receive_sends, tick_sends}
use Rattle.law_full.proofs.Works.{IsClosed, is_plain}

-- a property of messages: plain ones have it, what is granted does, and, where a server that holds
-- this is asked for a replica, what it says is full once it has linked who asks
pub record MayReply (P : Sent → Type 0) (a : Store) (w : Work) (m : Message) : Type 0 where
  pub granted : (b : Store) (to : ℕ) (ends : Ends) (own : Attributes) (x : Replica) → P (sent_to b to (message.Grant ends (granted_from ends.file own x)))
  pub full : (file : FileId) (birth : ℕ) → m ≡ message.Fetch file birth → is_full a file ≡ true
      → let d = link_peer a file w.from birth w in is_clean d.store file d.work.from birth ≡ true
      → P (sent_to d.store d.work.from (message.Full (ends_to d.store file birth)))

-- a property of all that may be sent in an event, from what a server holds to what it holds then
pub record MaySend (P : Sent → Type 0) (a e : Store) (asked : Input) : Type 0 where
  pub plain : (x : Sent) → is_plain x.packet.message ≡ true → P x
  pub replies : (packet : Packet) → asked ≡ input.Arrival packet → MayReply P a (new_work 0 packet.from) packet.message
  pub cells_before : (wanted : Wanted) → All P (cells_where a wanted)
  pub cells_behind : (wanted : Wanted) → All P (cells_where e wanted)
  pub asked_before : All (λ (i : Intent). All P (asks a i)) a.intents
  pub asked_behind : (q : IntentKey) → All P (asks_by e q)

module _ (P : Sent → Type 0) (a : Store) where
  abbrev OfWork : Work → Type 0
  OfWork w = All P w.sent × All P w.tail

  abbrev OfDone : Done → Type 0
  OfDone d = OfWork d.work

  none_sent : (moment from : ℕ) → OfWork (new_work moment from)
  none_sent moment from = (All-nil P, All-nil P)

  sent_closed : ((x : Sent) → is_plain x.packet.message ≡ true → P x) → IsClosed OfWork
  sent_closed plain = record {
    touched = λ w f q h. h;
    left = λ w d f h. h;
    unsure = λ w d f h. h;
    linked = λ w f peer h. h;
    begun = λ w i h. h;
    flagged = λ w f g h. h;
    sent = λ w x is h. (All-push P w.sent x h.0 (plain x is), h.1);
    last = λ w x is h. (h.0, All-push P w.tail x h.1 (plain x is));
  }

  sent_answers : (w : Work) (m : Message) → MayReply P a w m → MayAnswer OfWork a w m
  sent_answers w m may = record {
    granted = λ v b to ends own x h. (All-push P v.sent _ h.0 (may.granted b to ends own x), h.1);
    full = λ file birth is holds clean h. (All-push P _ _ h.0 (may.full file birth is holds clean), h.1);
  }

  -- ---- the first effect

  again_sends : (e : Store) (asked : Input) → MaySend P a e asked → (moment : ℕ) → All P (ask_all a (tick a (new_work moment 0))).sent
  again_sends e asked may moment =
      All-append P ([] ++ cells_where a is_any) (flat_map (asks a) a.intents)
      (All-append P [] (cells_where a is_any) (All-nil P) (may.cells_before is_any)) (All-flat_map P (asks a) a.intents may.asked_before)

  first_sends : (e : Store) (asked : Input) → MaySend P a e asked → OfDone (first_effect a asked)
  first_sends e (input.Call moment c) may =
      call_sends OfWork (sent_closed may.plain) a (new_work moment 0) (record { place = λ v f p so h. h; version = λ v u h. h }) (none_sent moment 0) c
  first_sends e (input.Tick moment word) may =
      let w = new_work moment 0 in
      tick_work a moment word OfWork (none_sent moment 0)
      (λ early. tick_sends OfWork (sent_closed may.plain) a word (ask_all a (tick a w)) (again_sends e (input.Tick moment word) may moment, All-nil P))
  first_sends e (input.Arrival packet) may =
      let w = new_work 0 packet.from in
      chosen OfDone (is_heard a packet) (receive a packet.message w) (idle a w)
      (receive_sends OfWork (sent_closed may.plain) a w (none_sent 0 packet.from) packet.message (sent_answers w packet.message (may.replies packet refl)))
      (none_sent 0 packet.from)
  first_sends e input.Restart may = none_sent 0 0

  -- IN AN EVENT
  pub effect_sends : (asked : Input) → MaySend P a (effect a asked).store asked → All P (effect a asked).out.sent
  effect_sends asked may =
      let d = end_of a asked in
      let chosen_ones = is_chosen d.work.touched d.work.linked in
      let first = first_sends (effect a asked).store asked may in
      all_sent P a asked first.0
      (subst (λ (x : Store). All P (cells_where x chosen_ones)) (store_is a asked) (may.cells_behind chosen_ones))
      (All-flat_map P (asks_by d.store) d.work.begun
      (λ i q lt. subst (λ (x : Store). All P (asks_by x (get_or d.work.begun i q))) (store_is a asked) (may.asked_behind (get_or d.work.begun i q)))) first.1
