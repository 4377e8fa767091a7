-- After any events every server stands for what came to it.
use Rattle.std.proofs.Common.{ℕ, ◌≡◌, ◌<◌, ◌≤◌, ◌^◌, Bool, cond, true, false, Option, None, Some, List, [], ◌∷◌, ◌++◌, map, refl, sym, ap, subst, ◌∙◌, inl, inr, arith}
use Rattle.std.proofs.lemmas.List.Elements.{All-contains}
use Rattle.std.proofs.lemmas.Option.{none-some, same_Some}
use mathlib.Core.Path.{fun_ext}
use Rattle.pg_run.specs.pg_base.declared.id.FileId.{FileId}
use Rattle.pg_run.specs.pg_base.declared.policy.Policy.{Policy}
use Rattle.pg_run.specs.pg_call.declared.call.Call.{Call}
use Rattle.pg_run.proofs.theory_flood.Flood.{after_itself}
use Rattle.pg_run.specs.pg_event.declared.entry.VoidCause.{VoidCause}
use Rattle.pg_run.specs.pg_event.declared.event.Event.{Event}
use Rattle.pg_run.specs.pg_event.declared.event.Event.TheVariants.{Call as Called, Tick, Deliver, Lose, Repeat, Restart, Remove}
use Rattle.pg_run.specs.pg_msg.declared.message.Sent.{Sent}
use Rattle.pg_run.specs.pg_msg.declared.update.MadeVersion.{MadeVersion}
use Rattle.pg_run.specs.pg_msg.Work.{new_work}
use Rattle.pg_run.specs.pg_calls.Calls.{do_call}
use Rattle.pg_run.specs.Asked.{asked_behind}
use Rattle.pg_run.specs.Asking.{Asked}
use Rattle.pg_run.specs.Journal.{Born, bag, born_at, mail, message_at, removals}
use Rattle.pg_run.specs.Laws.{AtEach}
use Rattle.pg_run.specs.Run.{Step, Taking, World, effect_step, idle_step, is_due, is_live, run, start, taking_in, taking_message, took_after, world_after}
use Rattle.pg_run.specs.State.{is_made, policy_asked, policy_named, policy_by, policy_made}
use Rattle.pg_run.specs.Took.{Take}
use Rattle.pg_run.proofs.Frame.{Acts, HasCome, holds_in_runs, next_is, no_server_comes, run_more}
use Rattle.pg_run.specs.pg_server.declared.input.Input.{Input}
use Rattle.pg_run.specs.pg_server.declared.input.Input.TheVariants as input
use Rattle.pg_run.specs.pg_server.Local.{Effect, closed, done_of, effect, finished}
use Rattle.pg_run.specs.pg_store.declared.store.Store.{Store}
use Rattle.pg_run.specs.pg_store.Together.{BirthsMove}
use Rattle.pg_run.specs.pg_store.Store.{is_before_clock_end}
use Rattle.pg_run.proofs.theory_flood_pieces.Choices.{chosen}
use Rattle.law_contents.specs.Together.{GoTogether, StandOn}
use Rattle.law_contents.proofs.Agreeing.{agrees_behind}
use Rattle.law_contents.proofs.AsksInputs.{CarriesInput}
use Rattle.law_contents.proofs.Carrying.{Carries, policies}
use Rattle.law_contents.proofs.Effects.{IsMaking, IsPassive, call_ended}
use Rattle.law_contents.proofs.Inputs.{arrived_passive, restart_passive, tick_passive}
use Rattle.law_contents.proofs.Outcomes.{policies_then}
use Rattle.law_contents.proofs.Paired.{paired, past_now}
use Rattle.law_contents.proofs.Sending.{CarriesSent}
use Rattle.law_contents.proofs.Servers.{IsServer, came_of}
use Rattle.law_contents.proofs.Start.{sound_start}
use Rattle.pg_run.specs.pg_calls.Forgetting.{is_wanted}
use Rattle.pg_run.specs.pg_store.Store.{is_held}
use Rattle.law_contents.proofs.Wanted.{wanted_run}
use Rattle.law_contents.proofs.Worlds.{IsNamed, Sound, making_sound, passive_sound, server_stands}

-- the policy that an input names, if it makes a file
abbrev policy_input : Input → Option Policy
policy_input (input.Call moment asked) = policy_named asked
policy_input _ = None

abbrev pub IsSound : World → Type 0
IsSound w = Sound w.stores w.history (policies w.journal) w.took w.asked (mail w.journal)

-- the same of equal parts
sound_same : {stores : ℕ → Store} {us vs : List Born} {p q : FileId → Policy}
    {took : ℕ → List Take} {wants : ℕ → Asked} {ms : List Sent} → vs ≡ us
    → ((f : FileId) → q f ≡ p f) → Sound stores us p took wants ms
    → Sound stores vs q took wants ms
sound_same {stores} {us} {vs} {p} {q} {took} {wants} {ms} versions same k =
    let P : List Born → Type 0 = (λ x. Sound stores x q took wants ms) in
    let Q : (FileId → Policy) → Type 0 = (λ x. Sound stores us x took wants ms) in
    subst P (sym versions) (subst Q (sym (fun_ext same)) k)

-- where no reply says that a file was made, policies stay
policy_stays : (o : Option Policy) (x : Policy) → policy_by false o x ≡ x
policy_stays None x = refl
policy_stays (Some policy) x = refl

-- what a client is told
call_reply : (a : Store) (moment : ℕ) (asked : Call)
    → (effect a (input.Call moment asked)).out.reply
    ≡ Some (do_call a asked (new_work moment 0)).reply
call_reply a moment asked =
    let r = do_call a asked (new_work moment 0) in
    chosen (λ (done : Effect). done.out.reply ≡ Some r.reply) (is_before_clock_end a)
    (closed (Some r.reply) (done_of r)) (finished (Some r.reply) (done_of r)) refl refl

module _ (n : ℕ) (small : n < 2 ^ 32) (w : World)
    (both : AtEach n (λ s. GoTogether (w.stores s)))
    (wanted : AtEach n (λ s. (file : FileId) → is_wanted (w.stores s) file ≡ true
    → is_held (w.stores s) file ≡ false → IsNamed w.stores file)) (k : IsSound w) where
  abbrev us : List Born
  us = w.history

  abbrev p : FileId → Policy
  p = policies w.journal

  abbrev N : FileId → Type 0
  N f = IsNamed w.stores f

  -- names and replicas go together then, and births have moved on
  pub record Follows (step : Step) : Type 0 where
    pub go_together : AtEach n (λ s. GoTogether ((world_after w step).stores s))
    pub move_on : AtEach n (λ s. BirthsMove (w.stores s) ((world_after w step).stores s))

  abbrev SoundAfter : Step → Type 0
  SoundAfter step = Follows step → IsSound (world_after w step)

  module _ (e : Event) (s : ℕ) (asked : Input) (least : 1 ≤ s) (most : s ≤ n) where
    -- one server acts
    pub server_now : IsServer s (w.stores s) us p N (came_of (w.took s))
    server_now =
        server_stands k s (omega (arith, small, most)) (paired (w.stores s) (both s least most)) (wanted s least most)

    abbrev done : Effect
    done = effect (w.stores s) asked

    abbrev takes : List Take
    takes = took_after (w.stores s) (w.asked s) (w.took s) asked

    abbrev asks : Asked
    asks = asked_behind (w.stores s) (w.asked s) asked

    abbrev then_policy : FileId → Policy
    then_policy f = policy_by (is_made f done.out.reply) (policy_asked e) (p f)

    moved_here : Follows (effect_step w e s asked) → BirthsMove (w.stores s) done.store
    moved_here follows =
        subst (λ (b : Store). BirthsMove (w.stores s) b) (after_itself w.stores s done.store)
        (follows.move_on s least most)

    together_here : Follows (effect_step w e s asked) → GoTogether done.store
    together_here follows =
        subst GoTogether (after_itself w.stores s done.store) (follows.go_together s least most)

    -- one server makes no version
    passive_next : CarriesInput us p N asked → ((f : FileId) → then_policy f ≡ p f)
        → IsPassive s (w.stores s) us p N done takes → SoundAfter (effect_step w e s asked)
    passive_next h same act follows =
        sound_same (ap (λ (vs : List MadeVersion). map (born_at done.store) vs ++ us) act.none) same
        (passive_sound k s done takes asks (moved_here follows) act
        (agrees_behind (w.took s) server_now (w.asked s) (k.agreed s) asked h us p (inl refl)
        act.stands))

    -- it makes one
    making_next : CarriesInput us p N asked → (q : FileId → Policy)
        → ((f : FileId) → then_policy f ≡ q f)
        → IsMaking s (w.stores s) us p q N done takes → SoundAfter (effect_step w e s asked)
    making_next h q same act follows =
        sound_same (ap (λ (vs : List Born). vs ++ us) act.made) same
        (making_sound k s done takes asks (moved_here follows) q act
        (past_now done.store (paired done.store (together_here follows)) act.version act.core act.here
        act.born)
        (agrees_behind (w.took s) server_now (w.asked s) (k.agreed s) asked h (act.version ∷ us) q
        (inr (act.version, refl, act.next)) act.stands))

  -- ---- what is asked

  call_sound : (e : Event) (s moment : ℕ) (asked : Call) → 1 ≤ s → s ≤ n → policy_asked e ≡ policy_named asked
      → SoundAfter (effect_step w e s (input.Call moment asked))
  call_sound e s moment asked least most same =
      let i = input.Call moment asked in
      let r = do_call (w.stores s) asked (new_work moment 0) in
      let told : (f : FileId) → policy_by (is_made f (effect (w.stores s) i).out.reply)
      (policy_asked e) (p f) ≡ policies_then p asked r.reply f =
      (λ f. ap (λ o. policy_by (is_made f o) (policy_asked e) (p f))
      (call_reply (w.stores s) moment asked) ∙ ap (λ o. policy_by (is_made f (Some r.reply)) o (p f)) same) in
      elim (call_ended (w.took s) (server_now e s i least most) (w.asked s) moment asked) [
        | inl passive ↦ passive_next e s i least most tt (λ f. told f ∙ passive.1 f) passive.0
        | inr making ↦ making_next e s i least most tt (policies_then p asked r.reply) told making
      ]

  quiet_sound : (e : Event) (s : ℕ) (asked : Input) (least : 1 ≤ s) (most : s ≤ n) → policy_asked e ≡ None
      → CarriesInput us p N asked
      → IsPassive s (w.stores s) us p N (effect (w.stores s) asked)
      (took_after (w.stores s) (w.asked s) (w.took s) asked)
      → SoundAfter (effect_step w e s asked)
  quiet_sound e s asked least most none h act =
      passive_next e s asked least most h
      (λ f. ap (λ o. policy_by (is_made f (effect (w.stores s) asked).out.reply) o (p f)) none) act

  -- WHATEVER IS ASKED
  pub input_sound : (e : Event) (s : ℕ) (asked : Input) (least : 1 ≤ s) (most : s ≤ n) → HasCome w s asked
      → policy_asked e ≡ policy_input asked → SoundAfter (effect_step w e s asked)
  input_sound e s (input.Call moment asked) least most come same = call_sound e s moment asked least most same
  input_sound e s (input.Tick moment word) least most come same =
      quiet_sound e s (input.Tick moment word) least most same tt
      (tick_passive (w.took s) (server_now e s (input.Tick moment word) least most) (w.asked s)
      (k.agreed s) moment word)
  input_sound e s (input.Arrival packet) least most come same =
      let h : Carries us p N packet.message =
      All-contains (CarriesSent us p N) (mail w.journal) (record { to = s; packet = packet }) k.carried come in
      quiet_sound e s (input.Arrival packet) least most same h
      (arrived_passive (w.took s) (server_now e s (input.Arrival packet) least most) (w.asked s)
      (k.agreed s) packet h)
  input_sound e s input.Restart least most come same =
      quiet_sound e s input.Restart least most same tt
      (restart_passive (w.took s) (server_now e s input.Restart least most) (w.asked s) (k.agreed s))

-- ---- which policy an event names

module _ (n : ℕ) (w : World) (t : Taking) where
  taken_by : (r : Taking) (live : Bool) → cond live (Some r) None ≡ Some t → policy_input r.asked ≡ policy_input t.asked
  taken_by r true h = ap (λ (x : Taking). policy_input x.asked) (same_Some r t h)
  taken_by r false h = absurd (none-some t h)

  due_by : (r : Taking) (due live : Bool) → cond due (cond live (Some r) None) None ≡ Some t
      → policy_input r.asked ≡ policy_input t.asked
  due_by r true live h = taken_by r live h
  due_by r false live h = absurd (none-some t h)

  come_by : (o : Option Sent) → taking_message n w o ≡ Some t → None ≡ policy_input t.asked
  come_by None h = absurd (none-some t h)
  come_by (Some m) h = taken_by (record { server = m.to; asked = input.Arrival m.packet }) (is_live n w m.to) h

  -- that of the call, where a call is taken
  pub policy_taken : (e : Event) → taking_in n w e ≡ Some t → policy_asked e ≡ policy_input t.asked
  policy_taken (Called s moment c) h =
      due_by (record { server = s; asked = input.Call moment c }) (is_due (removals w.journal) c) (is_live n w s) h
  policy_taken (Tick s moment word) h =
      taken_by (record { server = s; asked = input.Tick moment word }) (is_live n w s) h
  policy_taken (Deliver number) h = come_by (message_at (bag w.journal) number) h
  policy_taken (Lose number) h = absurd (none-some t h)
  policy_taken (Repeat number) h = absurd (none-some t h)
  policy_taken (Restart s) h = taken_by (record { server = s; asked = input.Restart }) (is_live n w s) h
  policy_taken (Remove s) h = absurd (none-some t h)

-- ---- all events

-- no server does anything
idle_sound : (w : World) (e : Event) (cause : Option VoidCause) → IsSound w → IsSound (world_after w (idle_step w e cause))
idle_sound w e cause k = sound_same refl (λ f. policy_stays (policy_asked e) (policy_made f w.journal)) k

module _ (n : ℕ) (small : n < 2 ^ 32) (stand : StandOn n) where
  acted : (events : List Event) (e : Event) (t : Taking) → taking_in n (run n events) e ≡ Some t → Acts n (run n events) t
      → IsSound (run n events) → IsSound (world_after (run n events) (effect_step (run n events) e t.server t.asked))
  acted events e t taken acts k =
      let w = run n events in
      let step = effect_step w e t.server t.asked in
      let more : run n (events ++ e ∷ []) ≡ world_after w step =
      run_more n (start n) events e ∙ ap (world_after w) (next_is n w e t taken) in
      let P : World → Type 0 = (λ v. AtEach n (λ s. GoTogether (v.stores s))) in
      let Q : World → Type 0 = (λ v. AtEach n (λ s. BirthsMove (w.stores s) (v.stores s))) in
      input_sound n small w (stand.both events) (wanted_run n stand.named stand.intends events) k e t.server t.asked
      acts.least acts.most acts.came (policy_taken n w t e taken)
      (record {
        go_together = subst P more (stand.both (events ++ e ∷ []));
        move_on = subst Q more (stand.moves events (e ∷ []));
      })

  -- AFTER ANY EVENTS
  pub run_sound : (events : List Event) → IsSound (run n events)
  run_sound events = holds_in_runs n IsSound (record {
    first = sound_start n;
    idle = idle_sound;
    comes = λ past event server is k. absurd (no_server_comes event server is);
    acts = acted;
  }) events
