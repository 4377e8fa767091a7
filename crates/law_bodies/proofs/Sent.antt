-- What a server sends in an event: messages that are short, and what it gives to who sent a Want.
use Rattle.std.proofs.Common.{ℕ, ◌≡◌, ◌⊎◌, true, inl, inr, refl, All}
use Rattle.std.specs.List.{flat_map}
use Rattle.std.proofs.lemmas.List.Elements.{All-append, All-nil}
use Rattle.pg_run.specs.pg_base.declared.id.FileId.{FileId}
use Rattle.pg_run.specs.pg_edges.declared.edge.Edge.{Edge}
use Rattle.pg_run.specs.pg_msg.declared.message.Ends.{Ends}
use Rattle.pg_run.specs.pg_msg.declared.message.Message.{Message}
use Rattle.pg_run.specs.pg_msg.declared.message.Message.TheVariants as message
use Rattle.pg_run.specs.pg_msg.declared.message.Packet.{Packet}
use Rattle.pg_run.specs.pg_msg.declared.message.Sent.{Sent}
use Rattle.pg_run.specs.pg_msg.declared.message.Wanted.{Wanted}
use Rattle.pg_run.specs.pg_msg.Work.{new_work}
use Rattle.pg_run.specs.pg_replica.declared.replica.Replica.{Replica}
use Rattle.pg_run.specs.pg_server.declared.input.Input.{Input}
use Rattle.pg_run.specs.pg_server.declared.input.Input.TheVariants as input
use Rattle.pg_run.specs.pg_server.Local.{effect, first_effect, ticked, without_sources}
use Rattle.pg_run.specs.pg_store.declared.store.Store.{Store}
use Rattle.pg_run.specs.pg_store.Seen.{server_of}
use Rattle.pg_run.specs.pg_pieces.Done.{Done}
use Rattle.pg_run.specs.pg_cells.Sending.{Wanted as Chosen, cells_where, is_any, is_chosen}
use Rattle.pg_run.specs.pg_cells.Ticks.{tick}
use Rattle.pg_run.specs.pg_intentions.Requests.{ask_all, asks}
use Rattle.pg_run.specs.Bodies.{IsOfBody}
use Rattle.pg_run.proofs.Bags.{All-every}
use Rattle.pg_run.proofs.Event.{AskHas, CellHas, Comes, all_sent, asks_by_have, asks_have, cells_have, end_of, first_has}
use Rattle.pg_run.proofs.Sends.{AnswersHave, is_plain, received_fine, tick_walk_fine}
use Rattle.pg_run.proofs.SendsCalls.{call_fine}
use Rattle.law_bodies.proofs.Short.{IsShort, head_of_stamp, plain_short, request_short, told_short}

-- a server that holds a takes this
module _ (a : Store) (asked : Input) where
  -- the message goes to who sent the Want that comes, and is of the version that is wanted
  pub record IsGiven (m : Sent) : Type 0 where
    pub packet : Packet
    pub comes : asked ≡ input.Arrival packet
    pub ends : Ends
    pub wanted : Wanted
    pub is : packet.message ≡ message.Want ends wanted
    pub asker : m.to ≡ packet.from
    pub from : m.packet.from ≡ server_of a
    pub of : IsOfBody ends.file wanted.stamp m.packet.message

  abbrev pub Q : Sent → Type 0
  Q m = IsShort m.packet.message ⊎ IsGiven m

  plain : (m : Sent) → is_plain m.packet.message ≡ true → Q m
  plain m h = inl (plain_short m.packet.message h)

  -- ---- cells of keys, and requests of intentions

  cells_short : (b : Store) (wanted : Chosen) → All Q (cells_where b wanted)
  cells_short b wanted =
      cells_have Q b wanted
      (All-every (λ (r : FileId × Replica). All (λ (e : Edge). All (CellHas Q b r.0 r.1 e) e.keys) r.1.edges) b.replicas
      (λ r. All-every (λ (e : Edge). All (CellHas Q b r.0 r.1 e) e.keys) r.1.edges
      (λ e. All-every (CellHas Q b r.0 r.1 e) e.keys
      (λ q c is goes. inl (told_short (record { file = r.0; sender = r.1.birth; receiver = e.birth }) q.1 c)))))

  asks_short : (b : Store) → All (AskHas Q b) b.intents
  asks_short b = All-every (AskHas Q b) b.intents (λ i m is some. inl (request_short b i m is))

  -- ---- the first effect

  abbrev pub Sends : Done → Type 0
  Sends d = All Q d.work.sent × All Q d.work.tail

  nothing : (moment from : ℕ) → All Q (new_work moment from).sent × All Q (new_work moment from).tail
  nothing moment from = (All-nil Q, All-nil Q)

  tick_short : (moment word : ℕ) → Sends (ticked a word (new_work moment 0))
  tick_short moment word =
      let b = without_sources a in
      let w = new_work moment 0 in
      let k = tick_walk_fine Q plain 0 b word (ask_all b (tick b w))
      (All-append Q (tick b w).sent (flat_map (asks b) b.intents) (cells_short b is_any) (asks_have Q b b.intents (asks_short b)), All-nil Q, refl) in
      (k.0, k.1)

  given : (packet : Packet) → asked ≡ input.Arrival packet → (m : Message) → packet.message ≡ m
      → AnswersHave Q plain packet.from a packet.from m
  given packet comes (message.Cell ends tag c) e = λ fit met b same. inl refl
  given packet comes (message.Bye ends) e = inl refl
  given packet comes (message.Confirm dir entry) e = λ b r. inl refl
  given packet comes (message.Tell dir entry) e = λ b. inl refl
  given packet comes (message.Leave ends stamp) e = λ b. inl refl
  given packet comes (message.Harbinger ends tag head) e = record {
    asks = λ b offset heads by. inl refl;
    acks = λ b under file met by. inl refl;
    tells = λ b edge by. inl refl;
  }
  given packet comes (message.Delta ends d) e = record {
    asks = λ b offset heads by. inl refl;
    acks = λ b of tag file met by. inl refl;
  }
  given packet comes (message.Piece ends p) e = record {
    asks = λ b offset heads by. inl refl;
    acks = λ b of tag file met by. inl refl;
  }
  given packet comes (message.Want ends wanted) e = record {
    gives = λ b v offset by is. inr (record {
      packet = packet;
      comes = comes;
      ends = ends;
      wanted = wanted;
      is = e;
      asker = refl;
      from = by;
      of = (refl, head_of_stamp v _ wanted.stamp is);
    });
    changes = λ b v ranges by is. inr (record {
      packet = packet;
      comes = comes;
      ends = ends;
      wanted = wanted;
      is = e;
      asker = refl;
      from = by;
      of = (refl, head_of_stamp v _ wanted.stamp is);
    });
  }
  given packet comes m e = tt

  first_sends : (x : Input) → asked ≡ x → Sends (first_effect a x)
  first_sends x is =
      first_has (λ packet. asked ≡ input.Arrival packet) a Sends (record {
        calls = λ moment call. let k = call_fine Q plain a moment call in (k.0, k.1);
        ticks = λ moment word going. tick_short moment word;
        arrivals = λ packet heard comes.
            let k = received_fine Q plain packet.from a packet.message (new_work 0 packet.from)
            (given packet comes packet.message refl) (All-nil Q, All-nil Q, refl) in
            (k.0, k.1);
        restarts = nothing 0 0;
        nothing = nothing;
      }) x (comes x is)
    where
      comes : (y : Input) → asked ≡ y → Comes (λ packet. asked ≡ input.Arrival packet) y
      comes (input.Call moment call) is = tt
      comes (input.Tick moment word) is = tt
      comes (input.Arrival packet) is = is
      comes input.Restart is = tt

  -- ALL THAT IS SENT
  pub all_short : All Q (effect a asked).out.sent
  all_short =
      let d = end_of a asked in
      let first = first_sends asked refl in
      all_sent Q a asked first.0 (cells_short d.store (is_chosen d.work.touched d.work.linked))
      (asks_by_have Q d.store d.work.begun (asks_short d.store)) first.1
