-- What an event keeps: one server takes an input, or none does. And what every event keeps, a run
-- does, from whichever world on.
use Rattle.std.proofs.Common.{ℕ, ◌≡◌, ◌≤◌, List, [], ◌∷◌, Option, None, Some, refl, sym, subst}
use Rattle.law_frame.specs.pg_run.pg_event.declared.entry.VoidCause.{VoidCause}
use Rattle.law_frame.specs.pg_run.pg_event.declared.event.Event.{Event}
use Rattle.law_frame.specs.pg_run.pg_server.declared.input.Input.{Input}
use Rattle.law_frame.specs.pg_run.Laws.{TakesIn}
use Rattle.law_frame.specs.pg_run.Run.{Step, Taking, World, effect_step, idle_step, next, run_from, taking_in, world_after}
use Rattle.law_frame.proofs.pg_run.Frame.{HasCome, IsFramed, framed}

-- P holds behind an event in which no server takes an input, and behind one in which a server does
pub record IsKeptBy (n : ℕ) (w : World) (P : World → Type 0) : Type 0 where
  pub still : (event : Event) (cause : Option VoidCause) → P (world_after w (idle_step w event cause))
  pub acted : (event : Event) (s : ℕ) (asked : Input) → 1 ≤ s → s ≤ n → TakesIn n w event s asked
      → HasCome w s asked → P (world_after w (effect_step w event s asked))

module _ (n : ℕ) (w : World) (P : World → Type 0) (k : IsKeptBy n w P) where
  abbrev StepIs : Step → Type 0
  StepIs step = P (world_after w step)

  next_as : (event : Event) (o : Option Taking) (step : Step) → taking_in n w event ≡ o → IsFramed n w event o step → StepIs step
  next_as event None step is f = subst StepIs (sym f.1) (k.still event f.0)
  next_as event (Some t) step is f = subst StepIs (sym f.1) (k.acted event t.server t.asked f.0.least f.0.most is f.0.came)

  -- AN EVENT
  pub next_by : (event : Event) → StepIs (next n w event)
  next_by event = next_as event (taking_in n w event) (next n w event) refl (framed n w event)

-- A RUN: what each event keeps, where something holds of every run
pub runs_keep : (n : ℕ) (Stands P : World → Type 0)
    → ((w : World) (e : Event) → Stands w → Stands (world_after w (next n w e)) → P w → P (world_after w (next n w e)))
    → (w : World) (events : List Event) → ((some : List Event) → Stands (run_from n w some)) → P w → P (run_from n w events)
runs_keep n Stands P step w [] stands p = p
runs_keep n Stands P step w (e ∷ es) stands p =
    runs_keep n Stands P step (world_after w (next n w e)) es (λ some. stands (e ∷ some)) (step w e (stands []) (stands (e ∷ [])) p)
