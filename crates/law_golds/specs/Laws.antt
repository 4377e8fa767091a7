-- What is said of flags along every run.
use Rattle.std.specs.Prelude.{ℕ, Contains, List}
use Rattle.law_births.specs.Flags.{AnyBye, SaysMessage, SaysStore}
use Rattle.law_frame.specs.pg_run.pg_event.declared.event.Event.{Event}
use Rattle.law_frame.specs.pg_run.pg_msg.declared.message.Sent.{Sent}
use Rattle.law_frame.specs.pg_run.Journal.{mail}
use Rattle.law_frame.specs.pg_run.Known.{IsFlagOf}
use Rattle.law_frame.specs.pg_run.Laws.{AtEach}
use Rattle.law_frame.specs.pg_run.Run.{World, run}

-- servers have, and messages ever sent bring, only flags that were made or there at the start
pub record AreFlagsKnown (servers : ℕ) (w : World) : Type 0 where
  pub stores : AtEach servers (λ s. SaysStore (IsFlagOf servers w) AnyBye s (w.stores s))
  pub messages : (m : Sent) → Contains (mail w.journal) m
      → SaysMessage (IsFlagOf servers w) m.packet.message

abbrev pub FlagsAreKnown : ℕ → Type 0
FlagsAreKnown servers = (events : List Event) → AreFlagsKnown servers (run servers events)
