-- After any events a replica keeps the latest of the deltas that it made or took.
use Rattle.std.proofs.Common.{ℕ, ◌≡◌, ◌<◌, ◌==◌, ◌^◌, Bool, true, false, cond, List, [], ◌∷◌, ◌++◌, Option, None, Some, option_map, inl, inr, refl, sym, ap, subst, ◌∙◌}
use Rattle.std.proofs.lemmas.Bool.{cond_both}
use Rattle.std.proofs.lemmas.Bool.Decides.{Decides-eqb, eqb_tells}
use Rattle.std.proofs.lemmas.List.{append-nil, append_assoc}
use Rattle.pg_run.specs.pg_base.declared.id.FileId.{FileId}
use Rattle.pg_run.specs.pg_base.declared.policy.Policy.{Policy}
use Rattle.pg_run.specs.pg_call.declared.call.Call.{Call}
use Rattle.pg_run.specs.pg_delta.declared.delta.KeptDelta.{KeptDelta}
use Rattle.pg_run.specs.pg_event.declared.event.Event.{Event}
use Rattle.pg_run.specs.pg_msg.declared.message.Packet.{Packet}
use Rattle.pg_run.specs.pg_msg.Work.{new_work}
use Rattle.pg_run.specs.pg_replica.declared.replica.Replica.{Replica}
use Rattle.pg_run.specs.Asked.{goes}
use Rattle.pg_run.specs.Asking.{Asked}
use Rattle.pg_run.specs.Carried.{gone_by}
use Rattle.pg_run.specs.Deltas.{KeepsWhatItMadeOrTook, deltas_at, deltas_behind, deltas_from, deltas_in, deltas_made, deltas_then}
use Rattle.pg_run.specs.Journal.{Born, versions_in}
use Rattle.pg_run.specs.Run.{Step, Taking, World, effect_step, next, run, start, taking_in, world_after}
use Rattle.pg_run.specs.Took.{Take}
use Rattle.pg_run.proofs.Frame.{Acts, IsFramed, framed, run_more}
use Rattle.pg_run.specs.pg_calls.Calls.{do_call}
use Rattle.pg_run.specs.pg_server.declared.input.Input.{Input}
use Rattle.pg_run.specs.pg_server.declared.input.Input.TheVariants as input
use Rattle.pg_run.specs.pg_server.Local.{Effect, closed, done_of, effect, finished, first_effect, is_heard, receive, reply_to, takes_effect, ticked}
use Rattle.pg_run.specs.pg_pieces.Done.{Done, idle}
use Rattle.pg_run.specs.pg_store.declared.store.Store.{Store}
use Rattle.pg_run.specs.pg_store.Store.{is_before_clock_end}
use Rattle.pg_run.proofs.theory_flood_pieces.Choices.{chosen}
use Rattle.law_contents.specs.Together.{StandOn}
use Rattle.law_contents.proofs.Agreed.{Agrees}
use Rattle.law_contents.proofs.AsksInputs.{CarriesInput}
use Rattle.law_contents.proofs.Carrying.{Carries, policies}
use Rattle.law_contents.proofs.Changes.{Core, core_at, core_of}
use Rattle.law_contents.proofs.Ends.{closed_ends}
use Rattle.law_contents.proofs.HarbingersCame.{carries_input}
use Rattle.law_contents.proofs.Inputs.{arrived_passive, heard_sender, restart_passive, tick_passive}
use Rattle.law_contents.proofs.KeptCalls.{call_kept}
use Rattle.law_contents.proofs.KeptDelta.{IsLacking}
use Rattle.law_contents.proofs.KeptMessages.{received_kept}
use Rattle.law_contents.proofs.KeptSteps.{IsKept, KeptStep, kept_in, made_same, none_made, same_step, step_kept}
use Rattle.law_contents.proofs.Opens.{open_lacks, opens_run}
use Rattle.law_contents.proofs.Outcomes.{call_comes}
use Rattle.law_contents.proofs.Runs.{run_sound, server_now}
use Rattle.law_contents.proofs.Servers.{IsServer, came_of}
use Rattle.law_contents.proofs.Start.{only_root}
use Rattle.law_contents.proofs.Wanted.{wanted_run}
use Rattle.law_contents.proofs.Worlds.{IsNamed}

-- ---- one event

module _ {s : ℕ} {a : Store} {us : List Born} {p : FileId → Policy} {N : FileId → Type 0}
    (before : List Take) (k : IsServer s a us p N (came_of before)) (wants : Asked)
    (agrees : Agrees a us (came_of before) wants) (lacking : IsLacking a) (f : FileId)
    (old : List KeptDelta) (kept : IsKept (core_at a f) old) where
  module _ (asked : Input) where
    abbrev First : Done
    First = first_effect a asked

    -- the house rules keep what is seen of replicas
    end_same : core_at (effect a asked).store f ≡ core_at First.store f
    end_same =
        chosen (λ (x : Effect). core_at x.store f ≡ core_at First.store f) (takes_effect a asked)
        (closed (reply_to a asked) First) (finished (reply_to a asked) First)
        ((closed_ends First.store First.work (reply_to a asked)).keeps.each f) refl

    -- and make no version
    end_made : versions_in (effect a asked).out.made ≡ versions_in First.work.made
    end_made =
        chosen (λ (x : Effect). versions_in x.out.made ≡ versions_in First.work.made)
        (takes_effect a asked) (closed (reply_to a asked) First) (finished (reply_to a asked) First)
        (closed_ends First.store First.work (reply_to a asked)).made refl

    abbrev Made : List KeptDelta
    Made = deltas_made f (effect a asked).out.made

    same_made : Made ≡ deltas_made f First.work.made
    same_made = made_same f (effect a asked).out.made First.work.made end_made

    -- what its first effect comes to
    then_kept : (gone : Bool) (taken : List KeptDelta)
        → KeptStep gone (core_at a f) (core_at First.store f) (taken ++ Made)
        → IsKept (core_at (effect a asked).store f) (cond gone [] old ++ (taken ++ Made))
    then_kept gone taken step =
        subst (λ (o : Option Core). IsKept o (cond gone [] old ++ (taken ++ Made))) (sym end_same)
        (step_kept gone (core_at a f) (core_at First.store f) old (taken ++ Made) kept step)

    -- at an event at which none is made
    plain_kept : (gone : Bool) (taken : List KeptDelta) → versions_in (effect a asked).out.made ≡ []
        → KeptStep gone (core_at a f) (core_at First.store f) taken
        → IsKept (core_at (effect a asked).store f) (cond gone [] old ++ (taken ++ Made))
    plain_kept gone taken none step =
        then_kept gone taken
        (subst (KeptStep gone (core_at a f) (core_at First.store f))
        (sym (ap (λ (ds : List KeptDelta). taken ++ ds) (none_made f (effect a asked).out.made none)
        ∙ append-nil taken)) step)

    -- where it takes no effect
    same_kept : core_at First.store f ≡ core_at a f → IsKept (core_at (effect a asked).store f) old
    same_kept same = subst (λ (o : Option Core). IsKept o old) (sym (end_same ∙ same)) kept

  abbrev Kept : Input → Bool → Type 0
  Kept asked t = IsKept (core_at (effect a asked).store f)
      (cond t (deltas_then a wants f asked old) old)

  -- ---- a call

  module _ (moment : ℕ) (c : Call) where
    abbrev r : Done
    r = done_of (do_call a c (new_work moment 0))

    made_none : is_before_clock_end a ≡ false → versions_in r.work.made ≡ []
    made_none late = elim (call_comes k moment wants c) [
      | inl still ↦ still.0.0.none
      | inr makes ↦ absurd (let z : true ≡ false = sym makes.0.time ∙ late in cc)
    ]

    refused_kept : is_before_clock_end a ≡ false
        → IsKept (core_at (effect a (input.Call moment c)).store f) old
    refused_kept late =
        let asked = input.Call moment c in
        let step = call_kept k moment c f in
        let none = none_made f r.work.made (made_none late) in
        let after = step_kept false (core_at a f) (core_at r.store f) old []
        kept (subst (KeptStep false (core_at a f) (core_at r.store f)) none step) in
        subst (λ (o : Option Core). IsKept o old) (sym (end_same asked))
        (subst (IsKept (core_at r.store f)) (append-nil old) after)

    call_by : (t : Bool) → is_before_clock_end a ≡ t → Kept (input.Call moment c) t
    call_by true e =
        let asked = input.Call moment c in
        then_kept asked false []
        (subst (KeptStep false (core_at a f) (core_at r.store f)) (sym (same_made asked))
        (call_kept k moment c f))
    call_by false e = refused_kept e

  -- ---- a message

  module _ (packet : Packet) (h : Carries us p N packet.message) where
    abbrev asked : Input
    asked = input.Arrival packet

    heard_first : is_heard a packet ≡ true
        → receive a packet.message (new_work 0 packet.from) ≡ first_effect a asked
    heard_first e =
        let w = new_work 0 packet.from in
        ap (λ t. cond t (receive a packet.message w) (idle a w)) (sym e)

    arrived_by : (t : Bool) → is_heard a packet ≡ t → Kept asked t
    arrived_by true e =
        let taken = deltas_in a wants f packet.from packet.message in
        let gone = goes f (gone_by a packet.from packet.message) in
        plain_kept asked gone taken (arrived_passive before k wants agrees packet h).none
        (subst (λ (d : Done). KeptStep gone (core_at a f) (core_at d.store f) taken) (heard_first e)
        (received_kept k packet.from (heard_sender a packet e) wants agrees lacking
        packet.message h f))
    arrived_by false e =
        let w = new_work 0 packet.from in
        same_kept asked
        (ap (λ t. core_at (cond t (receive a packet.message w) (idle a w)).store f) e)

  -- ---- any input

  tick_by : (moment word : ℕ) (t : Bool) → Kept (input.Tick moment word) t
  tick_by moment word t =
      let asked = input.Tick moment word in
      let w = new_work moment 0 in
      let same : core_at (first_effect a asked).store f ≡ core_at a f =
      chosen (λ (d : Done). core_at d.store f ≡ core_at a f) (is_before_clock_end a)
      (ticked a word w) (idle a w) refl refl in
      cond_both t (deltas_then a wants f asked old) old
      (IsKept (core_at (effect a asked).store f))
      (λ e. plain_kept asked false [] (tick_passive before k wants agrees moment word).none
      (same_step (core_at a f) (core_at (first_effect a asked).store f) same))
      (λ e. same_kept asked same)

  restart_by : (t : Bool) → Kept input.Restart t
  restart_by true =
      plain_kept input.Restart false [] (restart_passive before k wants agrees).none
      (same_step (core_at a f) (core_at a f) refl)
  restart_by false = same_kept input.Restart refl

  -- ONE EVENT
  pub event_kept : (asked : Input) → CarriesInput us p N asked
      → IsKept (core_at (effect a asked).store f) (deltas_behind a wants f asked old)
  event_kept (input.Call moment c) h = call_by moment c (is_before_clock_end a) refl
  event_kept (input.Tick moment word) h = tick_by moment word (is_before_clock_end a)
  event_kept (input.Arrival packet) h = arrived_by packet h (is_heard a packet) refl
  event_kept input.Restart h = restart_by (is_before_clock_end a)

-- ---- all events

start_kept : (n s : ℕ) (f : FileId) (o : Option Core) → core_at ((start n).stores s) f ≡ o
    → IsKept o []
start_kept n s f None e = record { kept = refl; none = λ none. refl }
start_kept n s f (Some c) e =
    record { kept = ap (λ (x : Core). x.kept) (only_root n s f c e).1; none = λ none. refl }

module _ (n : ℕ) (small : n < 2 ^ 32) (stand : StandOn n) where
  module _ (events : List Event) (e : Event) (f : FileId) (old : List KeptDelta) where
    abbrev w : World
    w = run n events

    acted : (t : Taking) → Acts n w t → IsKept (core_at (w.stores t.server) f) old
        → IsKept (core_at (effect (w.stores t.server) t.asked).store f)
        (deltas_behind (w.stores t.server) (w.asked t.server) f t.asked old)
    acted t acts kept =
        let k = run_sound n small stand events in
        let s = t.server in
        let here = server_now n small w (stand.both events)
        (wanted_run n stand.named stand.intends events) k e s t.asked acts.least acts.most in
        event_kept (w.took s) here (w.asked s) (k.agreed s)
        (open_lacks (w.stores s) (opens_run n small stand events s)) f old kept t.asked
        (carries_input w.history (policies w.journal) (IsNamed w.stores) w s t.asked k.carried
        acts.came)

    module _ (s : ℕ) (kept : IsKept (core_at (w.stores s) f) old) where
      abbrev Then : Option Taking → Step → Type 0
      Then o step = IsKept (core_at ((world_after w step).stores s) f) (deltas_at o w s f old)

      -- at this server, or at another
      at_server : (t : Taking) → Acts n w t → Then (Some t) (effect_step w e t.server t.asked)
      at_server t acts =
          let b = (effect (w.stores t.server) t.asked).store in
          let R : Bool → Bool → Type 0 = (λ here there. IsKept
          (core_at (cond here b (w.stores s)) f)
          (cond there (deltas_behind (w.stores s) (w.asked s) f t.asked old) old)) in
          elim (eqb_tells t.server s) [
            | inl at ↦
                let P : ℕ → Type 0 = (λ j. IsKept (core_at (w.stores j) f) old) in
                let Q : ℕ → Type 0 = (λ j. IsKept (core_at b f)
                (deltas_behind (w.stores j) (w.asked j) f t.asked old)) in
                let here : (s == t.server) ≡ true = (Decides-eqb s t.server).1 (sym at.1) in
                subst (λ (x : Bool). R x (t.server == s)) (sym here)
                (subst (R true) (sym at.0)
                (subst Q at.1 (acted t acts (subst P (sym at.1) kept))))
            | inr at ↦
                elim (eqb_tells s t.server) [
                  | inl other ↦ absurd (at.1 (sym other.1))
                  | inr other ↦ subst (λ (x : Bool). R x (t.server == s)) (sym other.0)
                      (subst (R false) (sym at.0) kept)
                ]
          ]

      by_frame : (o : Option Taking) (step : Step) → IsFramed n w e o step → Then o step
      by_frame None step is = subst (Then None) (sym is.1) kept
      by_frame (Some t) step is = subst (Then (Some t)) (sym is.1) (at_server t is.0)

      next_kept : Then (taking_in n w e) (next n w e)
      next_kept = by_frame (taking_in n w e) (next n w e) (framed n w e)

  from_kept : (done events : List Event) (s : ℕ) (f : FileId) (old : List KeptDelta)
      → IsKept (core_at ((run n done).stores s) f) old
      → IsKept (core_at ((run n (done ++ events)).stores s) f)
      (deltas_from n (run n done) events s f old)
  from_kept done [] s f old kept =
      subst (λ (es : List Event). IsKept (core_at ((run n es).stores s) f) old)
      (sym (append-nil done)) kept
  from_kept done (e ∷ events) s f old kept =
      let v = run n done in
      let now = deltas_at (taking_in n v e) v s f old in
      let more = run_more n (start n) done e in
      let P : World → Type 0 = (λ z. IsKept (core_at (z.stores s) f) now) in
      let Q : World → Type 0 = (λ z. IsKept
      (core_at ((run n ((done ++ e ∷ []) ++ events)).stores s) f)
      (deltas_from n z events s f now)) in
      let R : List Event → Type 0 = (λ es. IsKept (core_at ((run n es).stores s) f)
      (deltas_from n (world_after v (next n v e)) events s f now)) in
      subst R (append_assoc done (e ∷ []) events)
      (subst Q more
      (from_kept (done ++ e ∷ []) events s f now
      (subst P (sym more) (next_kept done e f old s kept))))

  -- KEPT DELTAS
  pub keeps_what_it_made_or_took : KeepsWhatItMadeOrTook n
  keeps_what_it_made_or_took events file s least most x is =
      let first = start_kept n s file (core_at ((start n).stores s) file) refl in
      sym (ap (λ (o : Option Replica). kept_in (option_map core_of o)) is)
      ∙ (from_kept [] events s file [] first).kept
