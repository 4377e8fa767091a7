-- A server that is not live takes nothing, in one event and in all that follow.
use Rattle.std.proofs.Common.{[], ℕ, ◌≡◌, ◌≢◌, ◌≤◌, ◌&&◌, ◌⊎◌, Bool, true, false, cond, not, List, ◌∷◌, ◌++◌, Option, None, Some, refl, sym, ap, subst, ◌∙◌, inl, inr, arith}
use Rattle.std.specs.Prelude.{Contains}
use Rattle.std.proofs.lemmas.Bool.{and_from, false≢true}
use Rattle.std.proofs.lemmas.Bool.Decides.{nat_tests}
use Rattle.pg_run.specs.pg_event.declared.entry.VoidCause.{VoidCause}
use Rattle.pg_run.specs.pg_event.declared.entry.VoidCause.TheVariants.{Last}
use Rattle.pg_run.specs.pg_event.declared.event.Event.{Event}
use Rattle.pg_run.specs.pg_event.declared.event.Event.TheVariants.{Call, Tick, Deliver, Lose, Repeat, Restart, Remove}
use Rattle.pg_run.specs.pg_msg.declared.message.Sent.{Sent}
use Rattle.pg_run.specs.pg_register.Flag.{is_removed}
use Rattle.pg_run.specs.pg_server.declared.input.Input.TheVariants as input
use Rattle.pg_run.specs.pg_server.Local.{effect}
use Rattle.pg_run.specs.Asked.{asked_behind}
use Rattle.pg_run.specs.Journal.{removals}
use Rattle.pg_run.specs.Run.{Step, Taking, World, delivery_step, effect_step, given_step, idle_step, is_due, is_last, is_live, is_server, next, run, run_from, start, taking_in, took_after, why_void, world_after}
use Rattle.pg_run.specs.Views.{MessagesAreSentInView}
use Rattle.pg_run.proofs.Frame.{Acts, IsFramed, framed, other_after}
use Rattle.pg_run.proofs.Removals.{removals_grow}
use Rattle.law_rests.specs.Rests.{IsAt, IsOfAnother, IsSilent, Reaches, RemovedServersRest}
use Rattle.law_rests.proofs.Under.{still_removed}

-- ---- who takes an input is live

server_is : (n s : ℕ) → 1 ≤ s → s ≤ n → is_server n s ≡ true
server_is n s least most = grind (arith, nat_tests)

live_acts : (n : ℕ) (w : World) (t : Taking) → Acts n w t → is_live n w t.server ≡ true
live_acts n w t act =
    and_from (is_server n t.server) (not (is_removed (removals w.journal) t.server))
    (server_is n t.server act.least act.most) (ap not act.live)

another_acts : (n : ℕ) (w : World) (t : Taking) (s : ℕ) → is_live n w s ≡ false
    → Acts n w t → t.server ≢ s
another_acts n w t s dead act same =
    false≢true (sym dead ∙ ap (is_live n w) (sym same) ∙ live_acts n w t act)

-- ---- and who is not live stays so

dead_by : (server old new : Bool) → (old ≡ true → new ≡ true) → (server && not old) ≡ false
    → (server && not new) ≡ false
dead_by false old new grows dead = refl
dead_by true true new grows dead = ap not (grows refl)
dead_by true false new grows dead = absurd (false≢true (sym dead))

still_dead : (n : ℕ) (w : World) (step : Step) (s : ℕ) → is_live n w s ≡ false
    → is_live n (world_after w step) s ≡ false
still_dead n w step s dead =
    let grown = removals_grow step.entry w.journal in
    dead_by (is_server n s) (is_removed (removals w.journal) s)
    (is_removed (removals (step.entry ∷ w.journal)) s)
    (λ h. ap (λ (rs : List ℕ). is_removed rs s) grown.1
    ∙ still_removed (removals w.journal) grown.0 s h) dead

-- ---- one event

-- a server has the same in two worlds, and is not live in the later
record IsSame (n s : ℕ) (w v : World) : Type 0 where
  still : is_live n v s ≡ false
  store : v.stores s ≡ w.stores s
  took : v.took s ≡ w.took s
  asked : v.asked s ≡ w.asked s

module _ (n s : ℕ) (w : World) (dead : is_live n w s ≡ false) where
  same_by : (event : Event) (o : Option Taking) (step : Step) → IsFramed n w event o step
      → IsSame n s w (world_after w step)
  same_by event None step f =
      subst (λ (z : Step). IsSame n s w (world_after w z)) (sym f.1) (record {
        still = still_dead n w (idle_step w event f.0) s dead;
        store = refl;
        took = refl;
        asked = refl;
      })
  same_by event (Some t) step f =
      let a = w.stores t.server in
      let asks = w.asked t.server in
      let apart : s ≢ t.server = λ e. another_acts n w t s dead f.0 (sym e) in
      subst (λ (z : Step). IsSame n s w (world_after w z)) (sym f.1) (record {
        still = still_dead n w (effect_step w event t.server t.asked) s dead;
        store = other_after w.stores t.server (effect a t.asked).store s apart;
        took = other_after w.took t.server (took_after a asks (w.took t.server) t.asked) s apart;
        asked = other_after w.asked t.server (asked_behind a asks t.asked) s apart;
      })

  same_next : (event : Event) → IsSame n s w (world_after w (next n w event))
  same_next event = same_by event (taking_in n w event) (next n w event) (framed n w event)

-- ---- events one after another

same_on : (n s : ℕ) (w : World) → is_live n w s ≡ false → (more : List Event)
    → IsSame n s w (run_from n w more)
same_on n s w dead [] = record { still = dead; store = refl; took = refl; asked = refl }
same_on n s w dead (event ∷ more) =
    let v = world_after w (next n w event) in
    let now = same_next n s w dead event in
    let then = same_on n s v now.still more in
    record {
      still = then.still;
      store = then.store ∙ now.store;
      took = then.took ∙ now.took;
      asked = then.asked ∙ now.asked;
    }

run_on : (n : ℕ) (w : World) (events more : List Event)
    → run_from n w (events ++ more) ≡ run_from n (run_from n w events) more
run_on n w [] more = refl
run_on n w (event ∷ events) more = run_on n (world_after w (next n w event)) events more

-- ---- events at this server

idle_silent : (w : World) (event : Event) (cause : Option VoidCause)
    → IsSilent (idle_step w event cause).entry
idle_silent w event cause = record { reply = refl; made = refl; sent = refl }

module _ (n s : ℕ) (w : World) (dead : is_live n w s ≡ false) where
  abbrev Why : Option VoidCause
  Why = Some (why_void n s)

  unless_live : (step : Step) (event : Event) (cause : Option VoidCause)
      → cond (is_live n w s) step (idle_step w event cause) ≡ idle_step w event cause
  unless_live step event cause = ap (λ t. cond t step (idle_step w event cause)) dead

  abbrev IsVoid : Event → Type 0
  IsVoid event = next n w event ≡ idle_step w event Why

  all_void : (event : Event) → IsAt s event → IsVoid event
  all_void (Call server moment call) same =
      let due = is_due (removals w.journal) call in
      let e = Call s moment call in
      subst (λ i. IsVoid (Call i moment call)) (sym same)
      (unless_live (given_step w e s (input.Call moment call) due) e Why)
  all_void (Tick server moment word) same =
      let e = Tick s moment word in
      subst (λ i. IsVoid (Tick i moment word)) (sym same)
      (unless_live (effect_step w e s (input.Tick moment word)) e Why)
  all_void (Deliver number) same = absurd same
  all_void (Lose number) same = absurd same
  all_void (Repeat number) same = absurd same
  all_void (Restart server) same =
      subst (λ i. IsVoid (Restart i)) (sym same)
      (unless_live (effect_step w (Restart s) s input.Restart) (Restart s) Why)
  all_void (Remove server) same =
      let last = cond (is_last n w) (Some Last) None in
      subst (λ i. IsVoid (Remove i)) (sym same)
      (unless_live (idle_step w (Remove s) last) (Remove s) Why)

  void_at : (event : Event) → IsAt s event → (next n w event).entry.void ≡ Why
  void_at event at = ap (λ (z : Step). z.entry.void) (all_void event at)

  silent_at : (event : Event) → IsAt s event → IsSilent (next n w event).entry
  silent_at event at =
      subst (λ (z : Step). IsSilent z.entry) (sym (all_void event at)) (idle_silent w event Why)

  -- a message to it
  delivered : (event : Event) (m : Sent) → m.to ≡ s
      → IsSilent (delivery_step n w event (Some m)).entry
  delivered event m to =
      let step = effect_step w event m.to (input.Arrival m.packet) in
      subst (λ t. IsSilent (cond t step (idle_step w event None)).entry)
      (sym (ap (is_live n w) to ∙ dead)) (idle_silent w event None)

  silent_where : (event : Event) → Reaches w s event → IsSilent (next n w event).entry
  silent_where (Deliver number) came =
      let e = Deliver number in
      subst (λ (o : Option Sent). IsSilent (delivery_step n w e o).entry) (sym came.1)
      (delivered e came.0 came.2)
  silent_where (Call server moment call) at = silent_at (Call server moment call) at
  silent_where (Tick server moment word) at = silent_at (Tick server moment word) at
  silent_where (Lose number) at = absurd at
  silent_where (Repeat number) at = absurd at
  silent_where (Restart server) at = silent_at (Restart server) at
  silent_where (Remove server) at = silent_at (Remove server) at

-- ---- what entries tell

module _ (n : ℕ) (sent : MessagesAreSentInView n) (events : List Event) (s : ℕ)
    (dead : is_live n (run n events) s ≡ false) where
  abbrev W : World
  W = run n events

  told_by : (event : Event) (o : Option Taking) → taking_in n W event ≡ o
      → IsFramed n W event o (next n W event)
      → IsSilent (next n W event).entry ⊎ IsOfAnother n W event s
  told_by event None is f =
      inl (subst (λ (z : Step). IsSilent z.entry) (sym f.1) (idle_silent W event f.0))
  told_by event (Some t) is f =
      let apart = another_acts n W t s dead f.0 in
      inr (record {
        taking = t;
        takes = is;
        another = apart;
        effect_is = ap (λ (z : Step). z.entry) f.1;
        from = λ m there from.
            let here : Contains (effect (W.stores t.server) t.asked).out.sent m =
            subst (λ (z : Step). Contains z.entry.sent m) f.1 there in
            apart (sym (sent events event t.server t.asked is m here).0 ∙ from);
      })

  told : (event : Event) → IsSilent (next n W event).entry ⊎ IsOfAnother n W event s
  told event = told_by event (taking_in n W event) refl (framed n W event)

-- THE LAW
pub removed_servers_rest : (n : ℕ) → MessagesAreSentInView n → RemovedServersRest n
removed_servers_rest n sent events more s dead =
    let same = subst (IsSame n s (run n events)) (sym (run_on n (start n) events more))
    (same_on n s (run n events) dead more) in
    record {
      still = same.still;
      store = same.store;
      took = same.took;
      asked = same.asked;
      entries = told n sent (events ++ more) s same.still;
      silent = silent_where n s (run n (events ++ more)) same.still;
      void = void_at n s (run n (events ++ more)) same.still;
    }
