-- An event at a server leaves it sound, and what is sent in it is said.
use Rattle.std.proofs.Common.{ℕ, ◌≡◌, ◌≤◌, ◌%◌, ◌/◌, ◌==◌, Bool, true, false, not, cond, length, nat_le, Option, None, Some, refl, sym, subst, ◌∙◌}
use Rattle.std.specs.List.{slice_get}
use Rattle.std.proofs.lemmas.Bool.{and_parts, leb-true}
use Rattle.std.proofs.lemmas.List.Elements.{All-nil}
use Rattle.law_frame.specs.pg_run.pg_base.declared.id.FileId.{FileId}
use Rattle.law_frame.specs.pg_run.pg_edges.declared.edge.Edge.{Edge}
use Rattle.law_frame.proofs.pg_run.pg_intent.Above.{not_equal}
use Rattle.law_frame.specs.pg_run.pg_msg.declared.message.Message.TheVariants as message
use Rattle.law_frame.specs.pg_run.pg_msg.declared.message.Sent.{Sent}
use Rattle.law_frame.specs.pg_run.pg_msg.declared.work.Slot.{Slot}
use Rattle.law_frame.specs.pg_run.pg_msg.declared.work.Work.{Work}
use Rattle.law_frame.specs.pg_run.pg_msg.Numbers.{is_in_range}
use Rattle.law_frame.specs.pg_run.pg_msg.Work.{new_work}
use Rattle.law_frame.specs.pg_run.pg_announced.Announced.{released}
use Rattle.law_frame.specs.pg_run.pg_call.declared.reply.Reply.{Reply}
use Rattle.law_frame.specs.pg_run.pg_store.declared.store.Store.{Store}
use Rattle.law_frame.specs.pg_run.pg_store.Births.{birth_of}
use Rattle.law_frame.specs.pg_run.pg_store.Seen.{server_of, view_of}
use Rattle.law_frame.specs.pg_run.pg_store.Servers.{is_live_other}
use Rattle.law_frame.specs.pg_run.pg_store.Store.{is_before_clock_end}
use Rattle.law_frame.proofs.pg_run.pg_store.Aiming.{unwished_as_before}
use Rattle.law_frame.proofs.pg_run.pg_store.Given.{births_as_before}
use Rattle.law_frame.specs.pg_run.pg_pieces.Accepting.{ends_to}
use Rattle.law_frame.specs.pg_run.pg_pieces.Done.{Done, idle}
use Rattle.law_frame.specs.pg_run.pg_graph.Walks.{edges_of, most_hops, walk_along, walk_from, walk_of, walk_of_tick, with_few_edges}
use Rattle.law_frame.specs.pg_run.pg_cells.Ticks.{tick}
use Rattle.law_frame.specs.pg_run.pg_intentions.Requests.{ask_all}
use Rattle.law_frame.specs.pg_run.pg_calls.Calls.{do_call}
use Rattle.law_frame.proofs.pg_run.pg_calls.Late.{late_does_nothing}
use Rattle.law_frame.specs.pg_run.pg_server.declared.input.Input.{Input}
use Rattle.law_frame.specs.pg_run.pg_server.declared.input.Input.TheVariants as input
use Rattle.law_frame.specs.pg_run.pg_server.Local.{Effect, closed, done_of, effect, finished, first_effect, is_heard, receive, reply_to, takes_effect, ticked, without_sources, without_volatile}
use Rattle.law_frame.specs.pg_run.theory_flood_pieces.Whole.{IsOther}
use Rattle.law_frame.proofs.pg_run.theory_flood_pieces.Choices.{chosen, decided}
use Rattle.law_order.specs.Saying.{IsClosed, IsSaidLeft, IsSaidOfMessage, Saying}
use Rattle.law_order.proofs.Bodies.{sound_noted}
use Rattle.law_order.proofs.Called.{GivesNewIds, so_called}
use Rattle.law_order.proofs.Ended.{IsAtRest, IsDone, closed_sound, finished_sound}
use Rattle.law_order.proofs.Received.{so_received}
use Rattle.law_order.proofs.Sent.{AreSaidOf, again_said}
use Rattle.law_order.proofs.Sounding.{Sound, sound_alike}
use Rattle.law_order.proofs.Taking.{IsMember, SoFar, so_tail}

-- what is asked of an input
abbrev pub IsAskable : Saying → Store → Input → Type 0
IsAskable p a (input.Call moment x) = GivesNewIds p a x (new_work moment 0)
IsAskable p a (input.Tick moment word) = Unit {0}
IsAskable p a (input.Arrival packet) = IsSaidOfMessage p packet.message
IsAskable p a input.Restart = Unit {0}

-- who is heard is another server
heard_other : (n s t : ℕ) (a : Store) → a.servers ≡ n → server_of a ≡ s → is_live_other a t ≡ true → IsOther n s t
heard_other n s t a servers server h =
    let one = and_parts (nat_le 1 t) _ h in
    let two = and_parts (nat_le t a.servers) _ one.1 in
    let three = and_parts (not (t == server_of a)) _ two.1 in
    record {
      least = leb-true 1 t one.0;
      most = subst (λ (m : ℕ). t ≤ m) servers (leb-true t a.servers two.0);
      apart = λ same. not_equal t (server_of a) three.0 (same ∙ sym server);
    }

module _ (p : Saying) (c : IsClosed p) (n s : ℕ) (mine : IsMember p n s) (a : Store) (k : IsAtRest p n s a) where
  abbrev Far : Done → Type 0
  Far d = SoFar p c n s d

  abbrev Ends : Effect → Type 0
  Ends e = IsDone p n s e

  none_sent : (now from : ℕ) → AreSaidOf p (new_work now from).sent
  none_sent now from = All-nil (λ (m : Sent). IsSaidOfMessage p m.packet.message)

  begins : (now from : ℕ) → Far (idle a (new_work now from))
  begins now from = record { store = k.sound; left = All-nil (λ (slot : Slot). IsSaidLeft p slot); sent = none_sent now from; tail = none_sent now from }

  sound_wishless : Sound p n s (without_volatile a)
  sound_wishless =
      sound_alike p n s a k.sound (without_volatile a) (record { servers = refl; tags = refl; names = refl; replicas = refl })
      (births_as_before a (without_volatile a) (unwished_as_before a) k.sound.births) k.sound.keys k.sound.named.intents

  -- a walk begins
  walk_goes : (d : Done) (f : FileId) (rest : ℕ) (o : Option Edge) → Far d
      → Far (idle d.store (walk_along d.store f (server_of d.store) (birth_of d.store f) most_hops rest d.work o))
  walk_goes d f rest None h = h
  walk_goes d f rest (Some e) h =
      let b = d.store in
      so_tail p c n s d e.peer (message.Walk (ends_to b f e.birth) (server_of b) (birth_of b f) most_hops rest) h
      (subst p.IsServer (sym h.store.whole.server) mine.named)

  walk_begins : (d : Done) (word : ℕ) (o : Option FileId) → Far d → Far (idle d.store (walk_from d.store word d.work o))
  walk_begins d word None h = h
  walk_begins d word (Some f) h =
      let edges = edges_of d.store f in
      walk_goes d f (word / length edges) (slice_get edges (word % length edges)) h

  so_tick : (d : Done) (word : ℕ) → Far d → Far (idle d.store (walk_of_tick d.store word d.work))
  so_tick d word h =
      let files = with_few_edges d.store in
      chosen (λ (v : Work). Far (idle d.store v)) (word == 0) d.work (walk_of d.store word files d.work) h
      (walk_begins d (word / length files) (slice_get files (word % length files)) h)

  tick_far : (moment word : ℕ) → Far (ticked a word (new_work moment 0))
  tick_far moment word =
      let w = new_work moment 0 in
      let b = without_sources a in
      let sound = sound_noted p n s a k.sound (released a.announced) in
      so_tick (idle b (ask_all b (tick b w))) word (record {
        store = sound;
        left = (begins moment 0).left;
        sent = again_said p n s b sound w (none_sent moment 0);
        tail = none_sent moment 0;
      })

  first_tick : (moment word : ℕ) → Far (first_effect a (input.Tick moment word))
  first_tick moment word =
      let w = new_work moment 0 in
      chosen Far (is_before_clock_end a) (ticked a word w) (idle a w) (tick_far moment word) (begins moment 0)

  -- ---- what takes effect

  pub first_sound : (asked : Input) → IsAskable p a asked → takes_effect a asked ≡ true → Far (first_effect a asked)
  first_sound (input.Call moment x) ids going = so_called p c n s mine a k (new_work moment 0) (begins moment 0) x ids
  first_sound (input.Tick moment word) asks going = first_tick moment word
  first_sound (input.Arrival packet) said going =
      decided Far (is_heard a packet) (receive a packet.message (new_work 0 packet.from)) (idle a (new_work 0 packet.from))
      (λ heard.
      let one = and_parts (is_before_clock_end a) _ heard in
      let two = and_parts (packet.view == view_of a) _ one.1 in
      let three = and_parts (is_live_other a packet.from) (is_in_range packet.message) two.1 in
      let other = heard_other n s packet.from a k.sound.whole.servers k.sound.whole.server three.0 in
      so_received p c n s mine a (new_work 0 packet.from) packet.message other said (begins 0 packet.from))
      (λ no. begins 0 packet.from)
  first_sound input.Restart asks going = record { store = sound_wishless; left = (begins 0 0).left; sent = none_sent 0 0; tail = none_sent 0 0 }

  -- ---- what does not

  late_call : (r : Reply) (d : Done) (w : Work) → d.store ≡ a → d.work ≡ w → AreSaidOf p w.sent → AreSaidOf p w.tail → Ends (finished (Some r) d)
  late_call r d w store work sent tail =
      let P : Store → Type 0 = λ b. Ends (finished (Some r) (idle b d.work)) in
      let Q : Work → Type 0 = λ v. Ends (finished (Some r) (idle a v)) in
      subst P (sym store) (subst Q (sym work) (finished_sound p c n s (Some r) (idle a w) k sent tail))

  late_sound : (asked : Input) → takes_effect a asked ≡ false → Ends (finished (reply_to a asked) (first_effect a asked))
  late_sound (input.Call moment x) late =
      let w = new_work moment 0 in
      let none = late_does_nothing a x w late in
      late_call (do_call a x w).reply (done_of (do_call a x w)) w none.0 none.1 (none_sent moment 0) (none_sent moment 0)
  late_sound (input.Tick moment word) late =
      let w = new_work moment 0 in
      let r = reply_to a (input.Tick moment word) in
      let P : Bool → Type 0 = λ t. Ends (finished r (cond t (ticked a word w) (idle a w))) in
      subst P (sym late) (finished_sound p c n s r (idle a w) k (none_sent moment 0) (none_sent moment 0))
  late_sound (input.Arrival packet) late =
      let w = new_work 0 packet.from in
      let P : Bool → Type 0 = λ t. Ends (finished (reply_to a (input.Arrival packet)) (cond t (receive a packet.message w) (idle a w))) in
      subst P (sym late) (finished_sound p c n s (reply_to a (input.Arrival packet)) (idle a w) k (none_sent 0 packet.from) (none_sent 0 packet.from))
  late_sound input.Restart late =
      finished_sound p c n s (reply_to a input.Restart) (idle (without_volatile a) (new_work 0 0)) (record { sound = sound_wishless; fills = k.fills; settled = k.settled }) (none_sent 0 0) (none_sent 0 0)

  -- behind the first effect of any input
  late_first : (asked : Input) → takes_effect a asked ≡ false → Sound p n s (first_effect a asked).store
  late_first (input.Call moment x) late = subst (Sound p n s) (sym (late_does_nothing a x (new_work moment 0) late).0) k.sound
  late_first (input.Tick moment word) late =
      let w = new_work moment 0 in
      subst (λ t. Sound p n s (cond t (ticked a word w) (idle a w)).store) (sym late) k.sound
  late_first (input.Arrival packet) late =
      let w = new_work 0 packet.from in
      subst (λ t. Sound p n s (cond t (receive a packet.message w) (idle a w)).store) (sym late) k.sound
  late_first input.Restart late = sound_wishless

  first_by : (asked : Input) → IsAskable p a asked → (t : Bool) → takes_effect a asked ≡ t → Sound p n s (first_effect a asked).store
  first_by asked asks true going = (first_sound asked asks going).store
  first_by asked asks false late = late_first asked late

  pub first_any : (asked : Input) → IsAskable p a asked → Sound p n s (first_effect a asked).store
  first_any asked asks = first_by asked asks (takes_effect a asked) refl

  -- AN EVENT AT A SERVER
  pub effect_sound : (asked : Input) → IsAskable p a asked → Ends (effect a asked)
  effect_sound asked asks =
      decided Ends (takes_effect a asked) (closed (reply_to a asked) (first_effect a asked)) (finished (reply_to a asked) (first_effect a asked))
      (λ going. closed_sound p c n s mine (reply_to a asked) (first_effect a asked) (first_sound asked asks going))
      (late_sound asked)
