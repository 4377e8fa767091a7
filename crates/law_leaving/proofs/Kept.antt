-- What is kept along every run.
use Rattle.std.proofs.Common.{ℕ, ◌≡◌, List, [], ◌∷◌, ◌++◌, Option, None, Some, refl}
use Rattle.pg_run.specs.pg_base.declared.id.FileId.{FileId}
use Rattle.pg_run.specs.pg_event.declared.event.Event.{Event}
use Rattle.theory_leaving.specs.Moment.{IsKept}
use Rattle.theory_leaving.proofs.Kept.{idle_law, keep_law, start_law}
use Rattle.pg_run.specs.Run.{Taking, run, taking_in}
use Rattle.law_leaving.proofs.Stands.{Stands}
use Rattle.law_leaving.specs.Seen.{leaving, turn}
use Rattle.law_leaving.proofs.Flags.{sound}
use Rattle.law_leaving.proofs.Lists.{along}
use Rattle.law_leaving.proofs.Moments.{follows, idles}

module _ (n : ℕ) (on : Stands n) (file : FileId) where
  by_taking : (events : List Event) (event : Event) (o : Option Taking) → taking_in n (run n events) event ≡ o
      → IsKept (leaving n file) events → IsKept (leaving n file) (events ++ event ∷ [])
  by_taking events event None is k = idle_law (leaving n file) events (events ++ event ∷ []) (idles n events event file is) k
  by_taking events event (Some t) is k =
      keep_law (leaving n file) (sound n file) events (events ++ event ∷ []) (turn n events event t)
      (on.order file events) (on.order file (events ++ event ∷ []))
      (record { follows = follows n events event file t is on.stay; rule = on.rule file events event t is k }) k

  pub kept : (events : List Event) → IsKept (leaving n file) events
  kept events =
      along (IsKept (leaving n file)) (λ before e k. by_taking before e (taking_in n (run n before) e) refl k) [] events
      (start_law (leaving n file) [] (on.start file))
