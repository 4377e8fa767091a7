-- What the law of bodies stands on.
use Rattle.std.specs.Prelude.{ℕ, List}
use Rattle.pg_run.specs.pg_event.declared.event.Event.{Event}
use Rattle.pg_run.specs.theory_flood_pieces.Whole.{IsWhole}
use Rattle.pg_run.specs.Histories.{CarriesHistory}
use Rattle.pg_run.specs.Laws.{AtEach, store_after}

-- whole: each server is whole
-- carried: what messages tell of versions is so
pub record StandOn (servers : ℕ) : Type 0 where
  pub whole : (events : List Event)
      → AtEach servers (λ s. IsWhole servers s (store_after servers events s))
  pub carried : CarriesHistory servers
