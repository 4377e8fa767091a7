-- What other laws say of every run, on which the repair theorem rests.
use Rattle.std.specs.Prelude.{ℕ}
use Rattle.law_full.specs.Filled.{FullSays}
use Rattle.law_golds.specs.law_order.Laws.{AllIsNamed}
use Rattle.law_quiet.specs.Given.{ServersAreWhole}
use Rattle.law_quiet.specs.Laws.{QuietStoresAgree}
use Rattle.pg_run.specs.Acknowledged.{AcknowledgedKeysAreHad}
use Rattle.pg_run.specs.Births.{BirthsAreAlone, BirthsAreKnown, BirthsMoveInEvents, ReplicasStayOrGo}
use Rattle.pg_run.specs.Golds.{ReplicasNameGolds}
use Rattle.pg_run.specs.Grown.{EventsGrow}
use Rattle.pg_run.specs.Intending.{IntentionsAreInOrder}
use Rattle.pg_run.specs.Known.{CarriedIsKnown, FlagsAreOwn}
use Rattle.pg_run.specs.Leaving.{HeardEdgesAreKnown}
use Rattle.pg_run.specs.Views.{ViewsArePrefixes}
use Rattle.law_repair.specs.Facts.{FullBegins, FullIsSaid, FullStays, GoldsRaiseNone}

-- of each event
pub record EventsAreCited (servers : ℕ) : Type 0 where
  pub grow : EventsGrow servers
  pub moves : BirthsMoveInEvents servers
  pub stay : ReplicasStayOrGo servers
  pub begins : FullBegins servers
  pub stays : FullStays servers
  pub said : FullIsSaid servers
  pub raise_none : GoldsRaiseNone servers

-- of what is held and known
pub record HoldingIsCited (servers : ℕ) : Type 0 where
  pub whole : ServersAreWhole servers
  pub named : AllIsNamed servers
  pub known : BirthsAreKnown servers
  pub alone : BirthsAreAlone servers
  pub carried : CarriedIsKnown servers
  pub own : FlagsAreOwn servers
  pub fulls : FullSays servers

-- of edges, intentions and views, and wherever a run is quiet
pub record QuietIsCited (servers : ℕ) : Type 0 where
  pub views : ViewsArePrefixes servers
  pub intends : IntentionsAreInOrder servers
  pub golds : ReplicasNameGolds servers
  pub had : AcknowledgedKeysAreHad servers
  pub heard : HeardEdgesAreKnown servers
  pub agree : QuietStoresAgree servers

pub record StandOn (servers : ℕ) : Type 0 where
  pub events : EventsAreCited servers
  pub holding : HoldingIsCited servers
  pub quiet : QuietIsCited servers
