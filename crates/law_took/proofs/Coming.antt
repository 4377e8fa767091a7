-- In every run: what each replica took came to it, or passed to it, since it last went.
use Rattle.std.proofs.Common.{◌≡◌, ◌≢◌, ℕ, Bool, true, false, cond, List, [], ◌∷◌, Option, None, Some, ◌⊎◌, inl, inr, refl, sym, ap, subst, ◌∙◌}
use Rattle.std.proofs.lemmas.Bool.{false≢true}
use Rattle.std.proofs.lemmas.Option.{none-some, same_Some}
use Rattle.pg_run.specs.pg_base.declared.id.FileId.{FileId}
use Rattle.pg_run.specs.pg_content.Content.{Among}
use Rattle.pg_run.specs.pg_event.declared.event.Event.{Event}
use Rattle.pg_run.specs.pg_server.declared.input.Input.{Input}
use Rattle.pg_run.specs.pg_server.Local.{takes_effect}
use Rattle.pg_run.specs.Came.{Leaves, NoneLeaves}
use Rattle.pg_run.specs.Carried.{gone_in}
use Rattle.pg_run.specs.Run.{Step, Taking, World, effect_step, next, run_from, start, taking_in, took_after, world_after}
use Rattle.pg_run.specs.Took.{Take, is_of_replica, without_gone}
use Rattle.pg_run.proofs.theory_flood.Flood.{here}
use Rattle.pg_run.proofs.Frame.{IsFramed, framed}
use Rattle.law_took.specs.Takers.{Comes, FromThen, IsOfNames, IsTaker, Passes, ReplicasTookWhatCame, come}
use Rattle.law_took.proofs.Once.{End, come_has, gone_lost, left_has, left_kept, left_was, of_taker, taken_at, taker_of}

bool_cases : (a : Bool) → (a ≡ true) ⊎ (a ≡ false)
bool_cases true = inl refl
bool_cases false = inr refl

module _ (n s : ℕ) (u : Take) (names : IsOfNames u) where
  -- what a server took in a step in which this is taken, or nothing
  abbrev TookBy : World → Option Taking → Step → Type 0
  TookBy w None step = step.took s ≡ w.took s
  TookBy w (Some t) step =
      ((s ≡ t.server) × (step.took s ≡ took_after (w.stores t.server) (w.asked t.server) (w.took t.server) t.asked))
      ⊎ ((s ≢ t.server) × (step.took s ≡ w.took s))

  by_effect : (w : World) (event : Event) (server : ℕ) (asked : Input)
      → TookBy w (Some (record { server = server; asked = asked })) (effect_step w event server asked)
  by_effect w event server asked = here w.took server (took_after (w.stores server) (w.asked server) (w.took server) asked) s

  by_frame : (w : World) (event : Event) (o : Option Taking) (step : Step) → IsFramed n w event o step → TookBy w o step
  by_frame w event None step f = ap (λ (z : Step). z.took s) f.1
  by_frame w event (Some t) step f =
      subst (TookBy w (Some t)) (sym f.1) (by_effect w event t.server t.asked)

  by_event : (w : World) (event : Event) → TookBy w (taking_in n w event) (next n w event)
  by_event w event = by_frame w event (taking_in n w event) (next n w event) (framed n w event)

  abbrev Has : List Take → Type 0
  Has takes = Among u takes

  abbrev Goes : World → Event → Type 0
  Goes w event = Leaves n w event s (IsTaker u)

  abbrev Gains : World → Event → Type 0
  Gains w event = Comes n w event s u ⊎ Passes n w event s u

  -- ---- what the server does itself

  module _ (w : World) (event : Event) (asked : Input) (takes : taking_in n w event ≡ Some (record { server = s; asked = asked })) where
    -- it goes by no other input
    none_goes : (takes_effect (w.stores s) asked ≡ true → Has (without_gone (gone_in (w.stores s) asked) (w.took s))) → Goes w event → ⊥
    none_goes left l =
        let same : asked ≡ l.asked = ap (λ (t : Taking). t.asked) (same_Some _ _ (sym takes ∙ l.takes)) in
        let going : takes_effect (w.stores s) asked ≡ true = ap (takes_effect (w.stores s)) same ∙ l.going in
        let gone : gone_in (w.stores s) asked ≡ Some l.file = ap (gone_in (w.stores s)) same ∙ l.gone in
        gone_lost l.file (w.took s) u (of_taker l.file u l.of) (subst (λ (o : Option FileId). Has (without_gone o (w.took s))) gone (left going))

    taken_by : (going : Bool) → takes_effect (w.stores s) asked ≡ going
        → Has (cond going (End (w.stores s) (w.asked s) (w.took s) asked) (w.took s))
        → (Has (w.took s) × (Goes w event → ⊥)) ⊎ Gains w event
    taken_by false is k = inl (k, none_goes (λ going. absurd (false≢true (sym is ∙ going))))
    taken_by true is k = elim (taken_at (w.stores s) (w.asked s) (w.took s) asked u names k) [
      | inl left ↦ inl (left_was (gone_in (w.stores s) asked) (w.took s) u left, none_goes (λ going. left))
      | inr new ↦ elim new [
        | inl came ↦ inr (inl (record { asked = asked; takes = takes; going = is; brings = came }))
        | inr other ↦ inr (inr (record { asked = asked; takes = takes; going = is; known = other }))
      ]
    ]

    kept_by : (going : Bool) → takes_effect (w.stores s) asked ≡ going → Has (w.took s) → (Goes w event → ⊥)
        → Has (cond going (End (w.stores s) (w.asked s) (w.took s) asked) (w.took s))
    kept_by false is k stays = k
    kept_by true is k stays =
        left_has (w.stores s) (w.asked s) (w.took s) asked u
        (left_kept (gone_in (w.stores s) asked) (w.took s) u others k)
      where
        others : (file : FileId) → gone_in (w.stores s) asked ≡ Some file → is_of_replica file u ≡ false
        others file gone = elim (bool_cases (is_of_replica file u)) [
          | inl of ↦ absurd (stays (record { asked = asked; takes = takes; going = is; file = file; gone = gone; of = taker_of file u of }))
          | inr apart ↦ apart
        ]

    gained_by : (going : Bool) → going ≡ true → Among u (come (w.stores s) (w.asked s) asked)
        → Has (cond going (End (w.stores s) (w.asked s) (w.took s) asked) (w.took s))
    gained_by true is came = come_has (w.stores s) (w.asked s) (w.took s) asked u came
    gained_by false is came = absurd (false≢true is)

  -- ---- any event

  module _ (w : World) (event : Event) where
    here_by : (t : Taking) → taking_in n w event ≡ Some t → s ≡ t.server → taking_in n w event ≡ Some (record { server = s; asked = t.asked })
    here_by t h same = h ∙ ap (λ (k : ℕ). Some (record { server = k; asked = t.asked })) (sym same)

    after_by : (t : Taking) (step : Step) → s ≡ t.server → step.took s ≡ took_after (w.stores t.server) (w.asked t.server) (w.took t.server) t.asked
        → step.took s ≡ took_after (w.stores s) (w.asked s) (w.took s) t.asked
    after_by t step same is = is ∙ ap (λ (k : ℕ). took_after (w.stores k) (w.asked k) (w.took k) t.asked) (sym same)

    not_here : (o : Option Taking) → taking_in n w event ≡ o → ((t : Taking) → o ≡ Some t → s ≢ t.server) → Goes w event → ⊥
    not_here o h other l = other (record { server = s; asked = l.asked }) (sym h ∙ l.takes) refl

    taken : (o : Option Taking) (step : Step) → taking_in n w event ≡ o → TookBy w o step → Has (step.took s)
        → (Has (w.took s) × (Goes w event → ⊥)) ⊎ Gains w event
    taken None step h took k = inl (subst Has took k, not_here None h (λ t none. absurd (none-some t none)))
    taken (Some t) step h took k = elim took [
      | inl at ↦
          taken_by w event t.asked (here_by t h at.0) (takes_effect (w.stores s) t.asked) refl (subst Has (after_by t step at.0 at.1) k)
      | inr other ↦
          inl (subst Has other.1 k, not_here (Some t) h (λ v same here. other.0 (here ∙ ap (λ (x : Taking). x.server) (sym (same_Some t v same)))))
    ]

    kept : (o : Option Taking) (step : Step) → taking_in n w event ≡ o → TookBy w o step → Has (w.took s) → (Goes w event → ⊥) → Has (step.took s)
    kept None step h took k stays = subst Has (sym took) k
    kept (Some t) step h took k stays = elim took [
      | inl at ↦
          subst Has (sym (after_by t step at.0 at.1))
          (kept_by w event t.asked (here_by t h at.0) (takes_effect (w.stores s) t.asked) refl k stays)
      | inr other ↦ subst Has (sym other.1) k
    ]

    gained : (step : Step) → TookBy w (taking_in n w event) step → Comes n w event s u → Has (step.took s)
    gained step took c =
        let took_here : TookBy w (Some (record { server = s; asked = c.asked })) step = subst (λ (o : Option Taking). TookBy w o step) c.takes took in
        elim took_here [
          | inl at ↦
              subst Has (sym at.1)
              (gained_by w event c.asked c.takes (takes_effect (w.stores s) c.asked) c.going c.brings)
          | inr other ↦ absurd (other.0 refl)
        ]

  -- ---- any events

  abbrev SinceIn : World → List Event → (World → Event → Type 0) → List Take → Type 0
  SinceIn w events P takes = (Has takes × NoneLeaves n w events s (IsTaker u)) ⊎ FromThen n w events s u P

  abbrev Then : World → Event → World
  Then w event = world_after w (next n w event)

  first_taken : (event : Event) (events : List Event) (w : World) → SinceIn (Then w event) events Gains ((next n w event).took s)
      → SinceIn w (event ∷ events) Gains (w.took s)
  first_taken event events w since = elim since [
    | inl at ↦ elim (taken w event (taking_in n w event) (next n w event) refl (by_event w event) at.0) [
      | inl old ↦ inl (old.0, (old.1, at.1))
      | inr new ↦ inr (inl (new, at.1))
    ]
    | inr later ↦ inr (inr later)
  ]

  pub only : (events : List Event) (w : World) → Has ((run_from n w events).took s) → SinceIn w events Gains (w.took s)
  only [] w k = inl (k, tt)
  only (event ∷ events) w k = first_taken event events w (only events (Then w event) k)

  abbrev Coming : World → Event → Type 0
  Coming w event = Comes n w event s u

  next_since : (event : Event) (events : List Event) (w : World) → SinceIn w (event ∷ events) Coming (w.took s)
      → SinceIn (Then w event) events Coming ((next n w event).took s)
  next_since event events w (inl (old, (stays, none))) =
      inl (kept w event (taking_in n w event) (next n w event) refl (by_event w event) old stays, none)
  next_since event events w (inr (inl (now, none))) = inl (gained w event (next n w event) (by_event w event) now, none)
  next_since event events w (inr (inr later)) = inr later

  pub has : (events : List Event) (w : World) → SinceIn w events Coming (w.took s) → Has ((run_from n w events).took s)
  has [] w since = elim since [ inl old ↦ old.0 | inr none ↦ absurd none ]
  has (event ∷ events) w since = has events (Then w event) (next_since event events w since)

pub replicas_took : (n : ℕ) → ReplicasTookWhatCame n
replicas_took n events s = record {
  only = λ u names. only n s u names events (start n);
  kept = λ u names. has n s u names events (start n);
}
