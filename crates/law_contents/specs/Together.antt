-- What the laws of contents ask of servers: that names and replicas go together, that a birth which
-- is to come is of what is not here, and that births move one way.
use Rattle.std.specs.Prelude.{ℕ, List}
use Rattle.pg_run.specs.pg_event.declared.event.Event.{Event}
use Rattle.law_order.specs.Laws.{AllIsNamed}
use Rattle.pg_run.specs.Births.{BirthsMoveOn}
use Rattle.pg_run.specs.Intending.{IntentionsAreInOrder}
use Rattle.pg_run.specs.Laws.{AtEach, store_after}
use Rattle.pg_run.specs.pg_store.declared.store.Store.{Store}
use Rattle.pg_run.specs.pg_store.Together.{AreBirths, AreTogether}

-- together: just what is held has a replica
-- births: of what is held, and of what is to come
pub record GoTogether (a : Store) : Type 0 where
  pub together : AreTogether a
  pub births : AreBirths a

-- after any events, at each server
abbrev pub HoldBoth : ℕ → Type 0
HoldBoth servers = (events : List Event)
    → AtEach servers (λ s. GoTogether (store_after servers events s))

-- and a birth that is over, or a version's maker, is none that is to come; and what a server knows
-- or intends to fetch was given out
pub record StandOn (servers : ℕ) : Type 0 where
  pub both : HoldBoth servers
  pub moves : BirthsMoveOn servers
  pub named : AllIsNamed servers
  pub intends : IntentionsAreInOrder servers
