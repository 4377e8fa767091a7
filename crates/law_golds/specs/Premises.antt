-- What is asked of runs here, that other laws give.
use Rattle.std.specs.Prelude.{ℕ, ◌≡◌, false, List, Some}
use Rattle.law_frame.specs.pg_run.pg_base.declared.id.Kind.{Kind}
use Rattle.law_frame.specs.pg_run.pg_calls.Naming.{next_id}
use Rattle.law_frame.specs.pg_run.pg_event.declared.event.Event.{Event}
use Rattle.law_frame.specs.pg_run.theory_flood_pieces.Whole.{IsWhole}
use Rattle.law_frame.specs.pg_run.Laws.{AtEach, store_after}
use Rattle.law_frame.specs.pg_run.Run.{Taking, run, taking_in}
use Rattle.law_frame.specs.pg_run.pg_server.Local.{first_effect}
use Rattle.law_frame.specs.pg_run.pg_store.Store.{is_held}

-- servers are whole behind the first effect of each input, before the house rules
abbrev pub FirstEffectsAreWhole : ℕ → Type 0
FirstEffectsAreWhole servers = (events : List Event) (event : Event) (t : Taking)
    → taking_in servers (run servers events) event ≡ Some t
    → IsWhole servers t.server (first_effect (store_after servers events t.server) t.asked).store

-- the id that a server gives out next is not held there
abbrev pub NextIdsAreAway : ℕ → Type 0
NextIdsAreAway servers = (events : List Event) → AtEach servers (λ s. (kind : Kind)
    → is_held (store_after servers events s) (next_id (store_after servers events s) kind) ≡ false)
