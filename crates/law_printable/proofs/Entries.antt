-- What is told of one event suits, and what all servers hold and what is under way behind it; and
-- so of any run.
use Rattle.std.proofs.Common.{ℕ, ◌≡◌, ◌==◌, Bool, true, false, cond, List, Option, None, Some, All, refl, sym, subst, ◌∙◌}
use Rattle.std.specs.List.{AllByRecursion, flat_map}
use Rattle.std.proofs.lemmas.Option.{none-some, same_Some}
use Rattle.std.proofs.lemmas.List.Elements.{All-append, All-contains, All-nil, recursion_from_All}
use Rattle.law_frame.specs.pg_run.pg_call.declared.call.Call.{Call}
use Rattle.law_frame.specs.pg_run.pg_call.declared.refusal.Refusal.TheVariants.{ClockEnd}
use Rattle.law_frame.specs.pg_run.pg_call.declared.reply.Reply.{Reply}
use Rattle.law_frame.specs.pg_run.pg_call.declared.reply.Reply.TheVariants as reply
use Rattle.law_frame.specs.pg_run.pg_event.declared.entry.VoidCause.{VoidCause}
use Rattle.law_frame.specs.pg_run.pg_event.declared.event.Event.{Event}
use Rattle.law_frame.specs.pg_run.pg_event.declared.event.Event.TheVariants.{Call as Called, Tick, Deliver, Lose, Repeat, Restart, Remove}
use Rattle.law_frame.specs.pg_run.pg_event.Event.{IsEvent}
use Rattle.law_frame.specs.pg_run.pg_msg.declared.message.Message.TheVariants as message
use Rattle.law_frame.specs.pg_run.pg_msg.declared.message.Packet.{Packet}
use Rattle.law_frame.specs.pg_run.pg_msg.declared.message.Sent.{Sent}
use Rattle.law_frame.specs.pg_run.pg_msg.declared.work.Work.{Work}
use Rattle.law_frame.specs.pg_run.pg_msg.Sent.{summary}
use Rattle.law_frame.specs.pg_run.pg_msg.Work.{new_work}
use Rattle.law_frame.specs.pg_run.pg_store.declared.store.Store.{Store}
use Rattle.law_frame.specs.pg_run.pg_store.Store.{is_before_clock_end}
use Rattle.law_frame.proofs.pg_run.pg_house.Truths.{chosen}
use Rattle.law_frame.specs.pg_run.pg_pieces.Done.{Done, idle}
use Rattle.law_frame.specs.pg_run.pg_cells.Sending.{cells_where, is_any}
use Rattle.law_frame.specs.pg_run.pg_cells.Ticks.{tick}
use Rattle.law_frame.specs.pg_run.pg_repair.Fetching.{ends_to}
use Rattle.law_frame.specs.pg_run.pg_intentions.Requests.{ask_all, asks}
use Rattle.law_frame.specs.pg_run.pg_calls.Calls.{do_call}
use Rattle.law_frame.specs.pg_run.pg_server.declared.input.Input.{Input}
use Rattle.law_frame.specs.pg_run.pg_server.declared.input.Input.TheVariants as input
use Rattle.law_frame.specs.pg_run.pg_server.Local.{Effect, closed, done_of, effect, finished, first_effect, intended, is_heard, receive, sent_at_end, settled, ticked, without_volatile}
use Rattle.law_frame.specs.pg_run.Journal.{bag, mail, message_at, removals}
use Rattle.law_frame.specs.pg_run.Run.{Step, Taking, World, effect_step, idle_step, is_due, is_live, next, taking_in, taking_message, world_after}
use Rattle.law_frame.proofs.pg_run.Event.{nothing_last}
use Rattle.law_frame.proofs.pg_run.Frame.{IsFramed, framed, was_sent}
use Rattle.law_frame.proofs.pg_run.LastWalks.{lasts_have}
use Rattle.law_frame.proofs.pg_run.Ticked.{sent_again_same}
use Rattle.law_frame.proofs.pg_run.Walks.{again_is, tick_walks}
use Rattle.pg_trace.specs.Suited.{Answers, IsSuited, SuitsKind, SuitsUpdate}
use Rattle.law_printable.proofs.Behind.{ended_suits, intended as intentions_suit, settled_suits}
use Rattle.law_printable.proofs.Calls.{call_suits}
use Rattle.law_printable.proofs.Received.{received_suits}
use Rattle.law_printable.proofs.House.{IsOfDir, SuitsSlot, WorkSuits}
use Rattle.law_printable.proofs.Messages.{AllSuit, Suits, SuitsMessage, sent_suits}
use Rattle.law_printable.proofs.Sending.{all_asked, cells_suit}
use Rattle.law_printable.proofs.Stores.{DoneSuits, StoreSuits}

-- ---- an input of a server

-- what the server holds then, what it made and sent, and what it answers to this event
pub record EffectSuits (e : Event) (done : Effect) : Type 0 where
  pub store : StoreSuits done.store
  pub made : All SuitsUpdate done.out.made
  pub sent : AllSuit done.out.sent
  pub told : IsEvent e → Answers e done.out.reply

new_suits : (now from : ℕ) → WorkSuits Suits (new_work now from)
new_suits now from = record { made = All-nil SuitsUpdate; sent = All-nil Suits; left = All-nil SuitsSlot; unsure = All-nil IsOfDir }

begun : (s : Store) (now from : ℕ) → StoreSuits s → DoneSuits (idle s (new_work now from))
begun s now from h = record { store = h; work = new_suits now from }

-- of the walks and invites that go last nothing is told but their files
walks_suit : (s : Store) (asked : Input) → AllSuit (first_effect s asked).work.tail
walks_suit s asked =
    lasts_have Suits s asked
    (λ file e origin birth hops word.
    sent_suits s e.peer (message.Walk (ends_to s file e.birth) origin birth hops word) (record { about = λ g. g; told = λ g. g; carried = tt }))
    (λ b file e. sent_suits b e.peer (message.Invite (ends_to b file e.birth)) (record { about = λ g. g; told = λ g. g; carried = tt }))

finished_suits : (e : Event) (answer : Option Reply) (done : Done) → (IsEvent e → Answers e answer) → AllSuit done.work.tail → DoneSuits done
    → EffectSuits e (finished answer done)
finished_suits e answer done told last h = record {
  store = h.store;
  made = h.work.made;
  sent = All-append Suits (sent_at_end done).sent done.work.tail (ended_suits done h) last;
  told = told;
}

closed_suits : (e : Event) (answer : Option Reply) (done : Done) → (IsEvent e → Answers e answer) → AllSuit done.work.tail → DoneSuits done
    → EffectSuits e (closed answer done)
closed_suits e answer done told last h =
    let one = settled done in
    let a : DoneSuits one = settled_suits done.store done.work (record { store = h.store; work = h.work }) in
    let two = intended one in
    let b : DoneSuits two = intentions_suit one.store one.work (record { store = a.store; work = a.work }) in
    finished_suits e answer two told (subst AllSuit (sym (nothing_last done)) last) b

called_suits : (s : Store) (server moment : ℕ) (c : Call) → StoreSuits s → EffectSuits (Called server moment c) (effect s (input.Call moment c))
called_suits s server moment c h =
    let e = Called server moment c in
    let a = do_call s c (new_work moment 0) in
    let is = call_suits s (new_work moment 0) (begun s moment 0 h) c in
    let told : IsEvent e → Answers e (Some a.reply) = (λ k. is.told k.2) in
    let last : AllSuit a.work.tail = walks_suit s (input.Call moment c) in
    chosen (EffectSuits e) (is_before_clock_end s) (closed (Some a.reply) (done_of a)) (finished (Some a.reply) (done_of a))
    (closed_suits e (Some a.reply) (done_of a) told last is.done) (finished_suits e (Some a.reply) (done_of a) told last is.done)

module _ (s : Store) (h : StoreSuits s) (server moment word : ℕ) where
  abbrev Ticked : Event
  Ticked = Tick server moment word

  abbrev Begun : Work
  Begun = new_work moment 0

  again_suits : DoneSuits (ticked s word Begun)
  again_suits =
      let cells = cells_where s is_any in
      let none = new_suits moment 0 in
      let all : WorkSuits Suits (record (ask_all s (tick s Begun)) { tail = tick_walks s word }) = record {
        made = none.made;
        sent = All-append Suits cells (flat_map (asks s) s.intents) (cells_suit s h.names is_any) (all_asked s h);
        left = none.left;
        unsure = none.unsure;
      } in
      record {
        store = record { names = h.names; intents = h.intents };
        work = subst (WorkSuits Suits) (sym (sent_again_same s word Begun ∙ again_is s word Begun)) all;
      }

  abbrev Answering : Bool → Option Reply
  Answering t = Some (cond t reply.Done (reply.Refused ClockEnd))

  abbrev Working : Bool → Done
  Working t = cond t (ticked s word Begun) (idle s Begun)

  by_clock : (t : Bool) → AllSuit (Working t).work.tail → EffectSuits Ticked (cond t (closed (Answering t) (Working t)) (finished (Answering t) (Working t)))
  by_clock true last = closed_suits Ticked (Some reply.Done) (ticked s word Begun) (λ k. tt) last again_suits
  by_clock false last = finished_suits Ticked (Some (reply.Refused ClockEnd)) (idle s Begun) (λ k. refl) last (begun s moment 0 h)

  pub ticked_suits : EffectSuits Ticked (effect s (input.Tick moment word))
  ticked_suits = by_clock (is_before_clock_end s) (walks_suit s (input.Tick moment word))

module _ (s : Store) (h : StoreSuits s) (number : ℕ) (p : Packet) (k : SuitsMessage p.message) where
  abbrev Come : Work
  Come = new_work 0 p.from

  abbrev Received : Done
  Received = receive s p.message Come

  abbrev Hearing : Bool → Done
  Hearing t = cond t Received (idle s Come)

  by_hearing : (t : Bool) → AllSuit (Hearing t).work.tail → EffectSuits (Deliver number) (cond t (closed None (Hearing t)) (finished None (Hearing t)))
  by_hearing true last = closed_suits (Deliver number) None Received (λ e. tt) last (received_suits s p.message Come k (begun s 0 p.from h))
  by_hearing false last = finished_suits (Deliver number) None (idle s Come) (λ e. tt) last (begun s 0 p.from h)

  pub arrived_suits : EffectSuits (Deliver number) (effect s (input.Arrival p))
  arrived_suits = by_hearing (is_heard s p) (walks_suit s (input.Arrival p))

restarted_suits : (s : Store) (server : ℕ) → StoreSuits s → EffectSuits (Restart server) (effect s input.Restart)
restarted_suits s server h =
    let e = Restart server in
    let done = idle (without_volatile s) (new_work 0 0) in
    let k : DoneSuits done = record { store = record { names = h.names; intents = h.intents }; work = new_suits 0 0 } in
    chosen (EffectSuits e) (is_before_clock_end s) (closed None done) (finished None done)
    (closed_suits e None done (λ x. tt) (All-nil Suits) k) (finished_suits e None done (λ x. tt) (All-nil Suits) k)

-- ---- an event

pub record RunSuits (w : World) : Type 0 where
  pub stores : (server : ℕ) → StoreSuits (w.stores server)
  pub mailed : AllSuit (mail w.journal)

pub record StepSuits (e : Event) (w : World) (step : Step) : Type 0 where
  pub entry : IsEvent e → IsSuited step.entry
  pub behind : RunSuits (world_after w step)

-- of messages that suit what is told suits
told_all : (ms : List Sent) → AllSuit ms → AllByRecursion (λ m. SuitsKind (summary m)) ms
told_all ms h = recursion_from_All (λ m. SuitsKind (summary m)) ms (λ i d lt. (h i d lt).told)

-- to any event there may be no answer
no_answer : (e : Event) → Answers e None
no_answer (Called server moment c) = tt
no_answer (Tick server moment word) = tt
no_answer (Deliver number) = tt
no_answer (Lose number) = tt
no_answer (Repeat number) = tt
no_answer (Restart server) = tt
no_answer (Remove server) = tt

-- nothing is done
pub idle_suits : (w : World) (e : Event) (cause : Option VoidCause) → RunSuits w → StepSuits e w (idle_step w e cause)
idle_suits w e cause h = record {
  entry = λ k. record { told = no_answer e; made = tt; sent = tt };
  behind = record { stores = h.stores; mailed = h.mailed };
}

-- a server does this, and sends messages more
did_suits : (w : World) (e : Event) (server : ℕ) (asked : Input) → RunSuits w → EffectSuits e (effect (w.stores server) asked)
    → StepSuits e w (effect_step w e server asked)
did_suits w e server asked h done =
    let out = effect (w.stores server) asked in
    record {
      entry = λ k. record {
        told = done.told k;
        made = recursion_from_All SuitsUpdate out.out.made done.made;
        sent = told_all out.out.sent done.sent;
      };
      behind = record {
        stores = λ k. chosen StoreSuits (k == server) out.store (w.stores k) done.store (h.stores k);
        mailed = All-append Suits out.out.sent (mail w.journal) done.sent h.mailed;
      };
    }

-- ---- the server that takes an input in an event

module _ (n : ℕ) (w : World) (h : RunSuits w) where
  abbrev Does : Event → Taking → Type 0
  Does e t = EffectSuits e (effect (w.stores t.server) t.asked)

  taken_by : (e : Event) (r t : Taking) (live : Bool) → Does e r → cond live (Some r) None ≡ Some t → Does e t
  taken_by e r t true k is = subst (Does e) (same_Some r t is) k
  taken_by e r t false k is = absurd (none-some t is)

  due_by : (e : Event) (r t : Taking) (due live : Bool) → Does e r → cond due (cond live (Some r) None) None ≡ Some t → Does e t
  due_by e r t true live k is = taken_by e r t live k is
  due_by e r t false live k is = absurd (none-some t is)

  come_by : (number : ℕ) (t : Taking) (o : Option Sent) → message_at (bag w.journal) number ≡ o → taking_message n w o ≡ Some t
      → Does (Deliver number) t
  come_by number t None at is = absurd (none-some t is)
  come_by number t (Some m) at is =
      let suits : Suits m = All-contains Suits (mail w.journal) m h.mailed (was_sent w.journal number m at) in
      taken_by (Deliver number) (record { server = m.to; asked = input.Arrival m.packet }) t (is_live n w m.to)
      (arrived_suits (w.stores m.to) (h.stores m.to) number m.packet suits.carried) is

  taken_suits : (e : Event) (t : Taking) → taking_in n w e ≡ Some t → Does e t
  taken_suits (Called s moment c) t is =
      due_by (Called s moment c) (record { server = s; asked = input.Call moment c }) t (is_due (removals w.journal) c) (is_live n w s)
      (called_suits (w.stores s) s moment c (h.stores s)) is
  taken_suits (Tick s moment word) t is =
      taken_by (Tick s moment word) (record { server = s; asked = input.Tick moment word }) t (is_live n w s)
      (ticked_suits (w.stores s) (h.stores s) s moment word) is
  taken_suits (Deliver number) t is = come_by number t (message_at (bag w.journal) number) refl is
  taken_suits (Lose number) t is = absurd (none-some t is)
  taken_suits (Repeat number) t is = absurd (none-some t is)
  taken_suits (Restart s) t is =
      taken_by (Restart s) (record { server = s; asked = input.Restart }) t (is_live n w s)
      (restarted_suits (w.stores s) s (h.stores s)) is
  taken_suits (Remove s) t is = absurd (none-some t is)

  pub acted_suits : (e : Event) (t : Taking) → taking_in n w e ≡ Some t → StepSuits e w (effect_step w e t.server t.asked)
  acted_suits e t is = did_suits w e t.server t.asked h (taken_suits e t is)

  framed_suits : (e : Event) (o : Option Taking) (step : Step) → taking_in n w e ≡ o → IsFramed n w e o step → StepSuits e w step
  framed_suits e None step is f = subst (StepSuits e w) (sym f.1) (idle_suits w e f.0 h)
  framed_suits e (Some t) step is f = subst (StepSuits e w) (sym f.1) (acted_suits e t is)

  -- ANY EVENT
  pub next_suits : (e : Event) → StepSuits e w (next n w e)
  next_suits e = framed_suits e (taking_in n w e) (next n w e) refl (framed n w e)
