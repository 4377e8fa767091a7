-- What servers hold they hold on, until its birth is over.
use Rattle.std.proofs.Common.{[], ℕ, ◌≡◌, List, ◌∷◌, ◌++◌, Option, None, Some, inl, inr, refl, sym, subst}
use Rattle.std.proofs.lemmas.List.{append-nil, append_assoc}
use Rattle.pg_run.specs.pg_event.declared.event.Event.{Event}
use Rattle.pg_run.proofs.theory_flood.Flood.{here}
use Rattle.pg_run.specs.pg_store.declared.store.Store.{Store}
use Rattle.pg_run.specs.pg_server.Local.{effect, first_effect}
use Rattle.pg_run.specs.theory_flood_pieces.Seen.{cells, hears}
use Rattle.pg_run.proofs.theory_flood_pieces.Grown.{GoesOn, goes_on_further, goes_on_itself, grown, grown_in}
use Rattle.pg_run.specs.Grown.{EventsGrow, RunsGrow}
use Rattle.pg_run.specs.Ruled.{heard_in}
use Rattle.pg_run.specs.Run.{Step, Taking, World, next, run, start, taking_in}
use Rattle.pg_run.proofs.Frame.{IsFramed, acts_is, framed, run_more}
use Rattle.law_acks.specs.Laws.{StandOn}
use Rattle.law_acks.proofs.Ends.{first_on}
use Rattle.law_acks.proofs.Runs.{AtFirst, first_is, good, rule, run_keeps}

module _ (n : ℕ) (on : StandOn n) where
  abbrev At : List Event → ℕ → Store
  At events s = (run n events).stores s

  -- ---- one event

  module _ (events : List Event) (event : Event) (s : ℕ) where
    abbrev W : World
    W = run n events

    taken_on : (t : Taking) → taking_in n W event ≡ Some t
        → GoesOn cells (W.stores t.server) (effect (W.stores t.server) t.asked).store
    taken_on t is =
        (rule n on events event t is (acts_is n W event t is) (run_keeps n on events)).onward.covers

    step_by : (o : Option Taking) (step : Step) → taking_in n W event ≡ o → IsFramed n W event o step
        → GoesOn cells (W.stores s) (step.stores s)
    step_by None step is f =
        subst (λ (z : Step). GoesOn cells (W.stores s) (z.stores s)) (sym f.1) (goes_on_itself cells (W.stores s))
    step_by (Some t) step is f =
        let b = (effect (W.stores t.server) t.asked).store in
        subst (λ (z : Step). GoesOn cells (W.stores s) (z.stores s)) (sym f.1)
        (elim (here W.stores t.server b s) [
          | inl e ↦ subst (GoesOn cells (W.stores s)) (sym e.1)
              (subst (λ (j : ℕ). GoesOn cells (W.stores j) b) (sym e.0) (taken_on t is))
          | inr e ↦ subst (GoesOn cells (W.stores s)) (sym e.1) (goes_on_itself cells (W.stores s))
        ])

    one_on : GoesOn cells (At events s) (At (events ++ event ∷ []) s)
    one_on =
        subst (λ (v : World). GoesOn cells (W.stores s) (v.stores s)) (sym (run_more n (start n) events event))
        (step_by (taking_in n W event) (next n W event) refl (framed n W event))

  -- ---- any more events

  more_on : (events more : List Event) (s : ℕ) → GoesOn cells (At events s) (At (events ++ more) s)
  more_on events [] s =
      subst (λ (es : List Event). GoesOn cells (At events s) (At es s)) (sym (append-nil events))
      (goes_on_itself cells (At events s))
  more_on events (event ∷ more) s =
      let one = events ++ event ∷ [] in
      subst (λ (es : List Event). GoesOn cells (At events s) (At es s)) (append_assoc events (event ∷ []) more)
      (goes_on_further cells (At events s) (At one s) (At (one ++ more) s) (one_on events event s) (more_on one more s))

  pub runs_grow : RunsGrow n
  runs_grow events more s =
      grown n s (At events s) (At (events ++ more) s) ((run_keeps n on events).whole s)
      ((run_keeps n on (events ++ more)).whole s) (more_on events more s)

  pub events_grow : EventsGrow n
  events_grow events event s asked is =
      let t : Taking = record { server = s; asked = asked } in
      let acts = acts_is n (run n events) event t is in
      let k = run_keeps n on events in
      let a = At events s in
      let first = first_is n on events event t is acts k in
      let b = effect a asked in (
        grown_in n s a (first_effect a asked).store (k.whole s) first.goes.way.whole
            (first_on n s a (hears (AtFirst n on events event t is acts k) (heard_in s asked)) (first_effect a asked) first),
        grown n s a b.store (k.whole s) (good n on events event t is acts k).good.whole
            (rule n on events event t is acts k).onward.covers,
      )
