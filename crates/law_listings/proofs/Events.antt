-- What an event does at one server is a step by the rule of listings.
use Rattle.std.proofs.Common.{ℕ, ◌≡◌, ◌==◌, ◌&&◌, Bool, true, false, cond, List, [], ◌++◌, map, Option, None, refl, sym, ap, subst, inl, inr, ◌⊎◌, All}
use Rattle.std.specs.List.{flat_map}
use Rattle.std.proofs.lemmas.Bool.{and_parts, eqb-true}
use Rattle.std.proofs.lemmas.List.Elements.{All-append, All-nil}
use Rattle.pg_run.specs.pg_base.declared.id.Kind.{Kind}
use Rattle.pg_run.specs.pg_call.declared.call.Call.{Call}
use Rattle.pg_run.specs.pg_call.declared.reply.Reply.{Reply}
use Rattle.pg_run.proofs.pg_calls.Late.{late_does_nothing}
use Rattle.pg_run.specs.pg_calls.Calls.{do_call}
use Rattle.pg_run.specs.pg_calls.Naming.{next_id}
use Rattle.pg_run.proofs.pg_house.Going.{HaveChildren}
use Rattle.theory_listing.specs.Rule.{IsSettled, MayStep}
use Rattle.theory_listing.specs.World.{Among}
use Rattle.theory_listing.specs.World.Saying.{Other}
use Rattle.pg_run.specs.pg_msg.declared.message.Packet.{Packet}
use Rattle.pg_run.specs.pg_msg.declared.message.Sent.{Sent}
use Rattle.pg_run.specs.pg_msg.declared.work.Work.{Work}
use Rattle.pg_run.specs.pg_msg.Numbers.{is_in_range}
use Rattle.pg_run.specs.pg_msg.Work.{new_work}
use Rattle.pg_run.specs.Intending.{IntendsInOrder}
use Rattle.pg_run.specs.pg_server.declared.input.Input.{Input}
use Rattle.pg_run.specs.pg_server.declared.input.Input.TheVariants as input
use Rattle.pg_run.specs.pg_server.Local.{Effect, closed, done_of, effect, finished, first_effect, is_heard, receive, reply_to, settled as settled_by, ticked, without_sources, without_volatile}
use Rattle.pg_run.specs.pg_server.Local.{intended}
use Rattle.pg_run.proofs.Event.{nothing_last, nothing_sent as nothing_sent_behind}
use Rattle.pg_run.specs.pg_store.declared.store.Store.{Store}
use Rattle.pg_run.specs.pg_store.Seen.{view_of}
use Rattle.pg_run.specs.pg_store.Servers.{is_live_other}
use Rattle.pg_run.specs.pg_store.Store.{is_held, is_before_clock_end}
use Rattle.pg_run.specs.pg_pieces.Done.{Done, idle}
use Rattle.pg_run.specs.pg_cells.Sending.{cells_where, is_any, is_chosen}
use Rattle.pg_run.specs.pg_cells.Ticks.{tick}
use Rattle.pg_run.specs.pg_intentions.Requests.{ask_all, asks_by}
use Rattle.law_listings.specs.Laws.{MaySettle}
use Rattle.law_listings.specs.Letters.{Letter, Saying, letter, of_stores, says}
use Rattle.law_listings.proofs.Alike.{alike_by}
use Rattle.law_listings.proofs.Calling.{call_first}
use Rattle.law_listings.proofs.Heard.{IsBehind, IsFirst, alike_is}
use Rattle.law_listings.proofs.Births.{AreBirthsOf, event_goes_on}
use Rattle.pg_run.proofs.SendsCalls.{call_fine}
use Rattle.law_listings.proofs.Plain.{IsOther, IsSentStamped, none, other, tick_last}
use Rattle.law_listings.proofs.Receiving.{IsOne, receive_first}
use Rattle.law_listings.proofs.Saying.{receive_says}
use Rattle.law_listings.proofs.Sends.{AllMay, MaySent, all_may, begun_may, cells_may, others_may}
use Rattle.law_listings.proofs.Steps.{WorkSays, all_stamped, closed_stamped, closed_step, others_say, still_step}

-- nothing was heard
abbrev quiet : Store → Letter
quiet a = record { sender = 0; view = view_of a; says = Other }

abbrev pub SaysOf : Store → List Sent → List Saying
SaysOf a ms = map (λ (x : Sent). says a x.packet.message) ms

-- what is heard is of the server's view
pub heard_view : (a : Store) (packet : Packet) → is_heard a packet ≡ true → packet.view ≡ view_of a
heard_view a packet h =
    let same = packet.view == view_of a in
    let else_is = is_live_other a packet.from && is_in_range packet.message in
    eqb-true packet.view (view_of a) (and_parts same else_is (and_parts (is_before_clock_end a) (same && else_is) h).1).0

-- a letter of what comes to a server is among these
pub record IsLetterOf (sent : List Letter) (s : ℕ) (asked : Input) (heard : Letter) : Type 0 where
  pub packet : Packet
  pub store : Store
  pub came : asked ≡ input.Arrival packet
  pub is : heard ≡ letter store (record { to = s; packet = packet })
  pub among : Among heard sent

-- what a server heard, and that it makes a step by the rule, and tells stamps of places that it had
pub record IsStepBy (last : ℕ) (sent : List Letter) (s : ℕ) (asked : Input) (a : Store) (e : Effect) : Type 0 where
  pub heard : Letter
  pub said : (heard.says ≡ Other) ⊎ IsLetterOf sent s asked heard
  pub rule : MayStep of_stores last a e.store heard (SaysOf a e.out.sent)
  pub stamped : All (IsSentStamped a) e.out.sent

-- ---- one server

module _ (last : ℕ) (sent : List Letter) (s : ℕ) (a : Store) (behind : IsBehind a) (order : IntendsInOrder a) (fresh : (kind : Kind) → is_held a (next_id a kind) ≡ false) (children : HaveChildren a.names) (settled : IsSettled of_stores a) where
  abbrev Stepped : Input → Effect → Type 0
  Stepped asked e = IsStepBy last sent s asked a e

  -- what is asked of an event that takes effect
  pub record IsGood (d : Done) (e : Effect) : Type 0 where
    pub sound : MaySettle d.store.names
    pub next_order : IntendsInOrder e.store
    pub next_children : HaveChildren e.store.names
    pub births : AreBirthsOf a d.store e.store

  -- with a handler, and house rules behind it
  done_step : (asked : Input) (heard : Letter) → (heard.says ≡ Other) ⊎ IsLetterOf sent s asked heard → (r : Option Reply) (d : Done) → IsFirst a heard d → WorkSays a d.store d.work
      → IsGood d (closed r d) → Stepped asked (closed r d)
  done_step asked heard said r d k well good = record {
    heard = heard;
    said = said;
    rule = closed_step last a heard d k good.sound good.next_order good.next_children good.births well r;
    stamped = closed_stamped last a heard d k good.sound good.next_order good.next_children good.births well r;
  }

  -- where nothing changes, and what is sent may be sent
  idle_step_by : (asked : Input) (d : Done) (e : Effect) → IsGood d e → e.store.names ≡ a.names → e.store.intents ≡ a.intents → AllMay a e.store e.out.sent → Stepped asked e
  idle_step_by asked d e good names intents sends = record {
    heard = quiet a;
    said = inl refl;
    rule = still_step last a e.store (quiet a) e.out.sent refl refl names intents (event_goes_on a d.store e.store good.births) good.births.now settled sends;
    stamped = all_stamped a e.store e.out.sent sends;
  }

  -- at the end only present cells and messages of intentions are sent
  ends_may : (d : Done) → HaveChildren d.store.names → AllMay a d.store d.work.sent → AllMay a d.store d.work.tail → AllMay a d.store (finished None d).out.sent
  ends_may d own first last =
      let b = d.store in
      let wanted = is_chosen d.work.touched d.work.linked in
      let asks = flat_map (asks_by b) d.work.begun in
      All-append (MaySent a b) ((d.work.sent ++ cells_where b wanted) ++ asks) d.work.tail
      (All-append (MaySent a b) (d.work.sent ++ cells_where b wanted) asks (All-append (MaySent a b) d.work.sent (cells_where b wanted) first (cells_may a b own wanted)) (begun_may a b d.work.begun))
      last

  -- without effect
  finished_step : (asked : Input) (r : Option Reply) (d : Done) → IsGood d (finished r d) → d.store.names ≡ a.names → d.store.intents ≡ a.intents
      → AllMay a d.store d.work.sent → AllMay a d.store d.work.tail → Stepped asked (finished r d)
  finished_step asked r d good names intents first last =
      idle_step_by asked d (finished r d) good names intents (ends_may d (subst HaveChildren (sym names) children) first last)

  nothing_sent : (b : Store) → AllMay a b []
  nothing_sent b = All-nil (MaySent a b)

  -- ---- a call

  module _ (moment : ℕ) (x : Call) where
    abbrev Asked : Input
    Asked = input.Call moment x

    abbrev Called : Done
    Called = done_of (do_call a x (new_work moment 0))

    late_step : (r : Option Reply) → is_before_clock_end a ≡ false → IsGood Called (finished r Called) → Stepped Asked (finished r Called)
    late_step r late good =
        let same = late_does_nothing a x (new_work moment 0) late in
        finished_step Asked r Called good (ap (λ (s : Store). s.names) same.0) (ap (λ (s : Store). s.intents) same.0)
        (subst (λ (w : Work). AllMay a Called.store w.sent) (sym same.1) (nothing_sent Called.store))
        (subst (λ (w : Work). AllMay a Called.store w.tail) (sym same.1) (nothing_sent Called.store))

    call_by : (r : Option Reply) (t : Bool) → is_before_clock_end a ≡ t → IsGood Called (cond t (closed r Called) (finished r Called)) → Stepped Asked (cond t (closed r Called) (finished r Called))
    call_by r true time good =
        done_step Asked (quiet a) (inl refl) r Called (call_first a behind order fresh (quiet a) refl moment x) (others_say a Called.store Called.work (let k = call_fine IsOther other a moment x in (k.0, k.1))) good
    call_by r false time good = late_step r time good

  -- ---- a tick

  module _ (moment word : ℕ) where
    abbrev Ticks : Input
    Ticks = input.Tick moment word

    -- nobody is asked for a version any more, and all else is as it was
    abbrev Lost : Store
    Lost = without_sources a

    abbrev Cells : Work
    Cells = ask_all Lost (tick Lost (new_work moment 0))

    abbrev Ticked : Done
    Ticked = ticked a word (new_work moment 0)

    abbrev Idle : Done
    Idle = idle a (new_work moment 0)

    again_may : AllMay a Lost Ticked.work.sent
    again_may =
        subst (AllMay a Lost) (sym (tick_last Lost word Cells).0)
        (All-append (MaySent a Lost) ([] ++ cells_where Lost is_any) _
        (All-append (MaySent a Lost) [] (cells_where Lost is_any) (nothing_sent Lost) (cells_may a Lost children is_any)) (all_may a Lost order.keys))

    again_last : AllMay a Lost Ticked.work.tail
    again_last = others_may a Lost Ticked.work.tail ((tick_last Lost word Cells).1 (All-nil IsOther))

    tick_by : (r : Option Reply) (t : Bool) → IsGood (cond t Ticked Idle) (cond t (closed r (cond t Ticked Idle)) (finished r (cond t Ticked Idle)))
        → (t ≡ true → (cond t (closed r (cond t Ticked Idle)) (finished r (cond t Ticked Idle))).store ≡ Lost)
        → Stepped Ticks (cond t (closed r (cond t Ticked Idle)) (finished r (cond t Ticked Idle)))
    tick_by r false good still = finished_step Ticks r Idle good refl refl (nothing_sent a) (nothing_sent a)
    tick_by r true good still =
        let e = closed r Ticked in
        let b = intended (settled_by Ticked) in
        let same : b.store ≡ Lost = still refl in
        let first : AllMay a b.store b.work.sent = subst (λ ms. AllMay a b.store ms) (sym (nothing_sent_behind Ticked)) (subst (λ (s : Store). AllMay a s Ticked.work.sent) (sym same) again_may) in
        let tail : AllMay a b.store b.work.tail = subst (λ ms. AllMay a b.store ms) (sym (nothing_last Ticked)) (subst (λ (s : Store). AllMay a s Ticked.work.tail) (sym same) again_last) in
        idle_step_by Ticks Ticked e good (ap (λ (s : Store). s.names) same) (ap (λ (s : Store). s.intents) same)
        (ends_may b (subst (λ (s : Store). HaveChildren s.names) (sym same) children) first tail)

  -- ---- a message

  -- it has a letter, by what its sender held
  pub record Came (packet : Packet) : Type 0 where
    pub store : Store
    pub among : Among (letter store (record { to = s; packet = packet })) sent
    pub one : IsOne a store packet.message

  module _ (packet : Packet) (c : Came packet) where
    abbrev Heard : Letter
    Heard = letter c.store (record { to = s; packet = packet })

    heard_is : IsLetterOf sent s (input.Arrival packet) Heard
    heard_is = record { packet = packet; store = c.store; came = refl; is = refl; among = c.among }

    abbrev V : Work
    V = new_work 0 packet.from

    abbrev R : Done
    R = receive a packet.message V

    message_by : (r : Option Reply) (t : Bool) → is_heard a packet ≡ t → IsGood (cond t R (idle a V)) (cond t (closed r (cond t R (idle a V))) (finished r (cond t R (idle a V))))
        → Stepped (input.Arrival packet) (cond t (closed r (cond t R (idle a V))) (finished r (cond t R (idle a V))))
    message_by r true is good =
        done_step (input.Arrival packet) Heard (inr heard_is) r R (receive_first a behind order Heard (heard_view a packet is) c.store packet.message V refl c.one)
        (receive_says a behind Heard (heard_view a packet is) packet.from packet.message) good
    message_by r false is good = finished_step (input.Arrival packet) r (idle a V) good refl refl (nothing_sent a) (nothing_sent a)

  -- ---- a restart

  restart_by : (r : Option Reply) (t : Bool) → IsGood (idle (without_volatile a) (new_work 0 0)) (cond t (closed r (idle (without_volatile a) (new_work 0 0))) (finished r (idle (without_volatile a) (new_work 0 0))))
      → Stepped input.Restart (cond t (closed r (idle (without_volatile a) (new_work 0 0))) (finished r (idle (without_volatile a) (new_work 0 0))))
  restart_by r true good =
      let d = idle (without_volatile a) (new_work 0 0) in
      done_step input.Restart (quiet a) (inl refl) r d (alike_is a behind (quiet a) refl d (alike_by a (without_volatile a) refl refl)) (others_say a d.store d.work none) good
  restart_by r false good = finished_step input.Restart r (idle (without_volatile a) (new_work 0 0)) good refl refl (nothing_sent (without_volatile a)) (nothing_sent (without_volatile a))

  -- what is asked of an input
  abbrev pub IsAsked : Input → Type 0
  IsAsked (input.Call moment x) = Unit {0}
  IsAsked (input.Tick moment word) = is_before_clock_end a ≡ true → (effect a (input.Tick moment word)).store ≡ without_sources a
  IsAsked (input.Arrival packet) = Came packet
  IsAsked input.Restart = Unit {0}

  pub input_step : (asked : Input) → IsAsked asked → IsGood (first_effect a asked) (effect a asked) → Stepped asked (effect a asked)
  input_step (input.Call moment x) is good = call_by moment x (reply_to a (input.Call moment x)) (is_before_clock_end a) refl good
  input_step (input.Tick moment word) is good = tick_by moment word (reply_to a (input.Tick moment word)) (is_before_clock_end a) good is
  input_step (input.Arrival packet) is good = message_by packet is (reply_to a (input.Arrival packet)) (is_heard a packet) refl good
  input_step input.Restart is good = restart_by (reply_to a input.Restart) (is_before_clock_end a) good
