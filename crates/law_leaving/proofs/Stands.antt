-- What is shown of moments and events, in the words of replicas that go.
use Rattle.std.proofs.Common.{ℕ, ◌≡◌, true, List, [], ◌∷◌, ◌++◌, Some}
use Rattle.pg_run.specs.pg_base.declared.id.FileId.{FileId}
use Rattle.pg_run.specs.pg_event.declared.event.Event.{Event}
use Rattle.theory_leaving.specs.Laws.{IsStart}
use Rattle.theory_leaving.specs.Moment.{IsInOrder, IsKept}
use Rattle.theory_leaving.specs.Rule.{Rule}
use Rattle.pg_run.specs.pg_register.Flag.{is_removed}
use Rattle.pg_run.specs.Laws.{store_after}
use Rattle.pg_run.specs.Run.{Taking, run, taking_in}
use Rattle.pg_run.specs.pg_store.Seen.{removed_of}
use Rattle.law_leaving.specs.Seen.{leaving, turn}
use Rattle.law_leaving.proofs.Behind.{EachStaysOrGoes}

-- start: each edge of the start is named back, and nothing is owed
-- order: what other laws give of each moment
-- stay, rule: and of each event, where all holds that is kept
-- unremoved: who takes an input is removed in nobody's view
pub record Stands (servers : ℕ) : Type 0 where
  pub start : (file : FileId) → IsStart (leaving servers file) []
  pub order : (file : FileId) (events : List Event) → IsInOrder (leaving servers file) events
  pub stay : EachStaysOrGoes servers
  pub rule : (file : FileId) (events : List Event) (event : Event) (t : Taking)
      → taking_in servers (run servers events) event ≡ Some t → IsKept (leaving servers file) events
      → Rule (leaving servers file) events (events ++ event ∷ []) (turn servers events event t)
  pub unremoved : (events : List Event) (event : Event) (t : Taking)
      → taking_in servers (run servers events) event ≡ Some t
      → (k : ℕ) → is_removed (removed_of (store_after servers events k)) t.server ≡ true → ⊥
