-- What `run` promises of every run, in one place.
pub use Rattle.law_confirms.specs.Confirms.{ConfirmsBeginAndStay}
pub use Rattle.law_determined.specs.Determined.{NamesAreDetermined}
pub use Rattle.law_forgotten.specs.Forgets.{ForgetsStay}
pub use Rattle.law_house.specs.Runs.{RulesGoBySteps}
pub use Rattle.law_links.specs.Links.{AsksLinkTheAsker}
pub use Rattle.law_lists.specs.Laws.{RemovalsStay, ReturnsList}
pub use Rattle.law_repair.specs.law_places.Laws.{OnePlaceAStamp}
pub use Rattle.law_steps.specs.law_refused.Refusals.{RefusalsChangeNothing}
pub use Rattle.law_repair.specs.Kept.{KeptDirectoriesAreBroughtBack, KeptNamesFormATree, KeptServersAgree, KeptThingsAreConnected, KeptThingsAreListedOnlyWhereTheyStand}
pub use Rattle.law_rests.specs.Rests.{NoneIsUnderWayToRemoved, RemovedServersRest}
pub use Rattle.law_took.specs.Takers.{ReplicasTookWhatCame}
pub use Rattle.law_steps.specs.law_refused.law_turns.Turns.{IntentionsBeginInTurn}
pub use Rattle.law_steps.specs.law_refused.law_turns.law_begins.Confirms.{ConfirmsBeginOnly}
pub use Rattle.law_wants.specs.Wants.{AnEventAsksOne}
pub use Rattle.law_stamps.specs.Stamps.{OneStampEach}
pub use Rattle.pg_run.specs.Acknowledged.{AcknowledgedKeysAreHad}
pub use Rattle.pg_run.specs.Births.{BirthsAreAlone, BirthsAreKnown, BirthsAreOfOneThing, GreaterBirthsReplaceEdges, LinksNameTheSender}
pub use Rattle.pg_run.specs.Came.{TakesWhatCame}
pub use Rattle.pg_run.specs.Going.{EachPeerIsTold}
pub use Rattle.pg_run.specs.Golds.{FullReplicasSeeGold, ReplicasNameGolds}
pub use Rattle.pg_run.specs.Bodies.{BodiesAnswerWants, FirstHarbingersAsk, OneIsAskedAtATime}
pub use Rattle.pg_run.specs.Deltas.{KeepsWhatItMadeOrTook, WantsGetTheShortestChange}
pub use Rattle.pg_run.specs.Histories.{AncestryByVectors, CarriesHistory, ClockEndsFirst, MakesHistories, OneVersionAStamp, StateIsDetermined, StateIsItsHeads}
pub use Rattle.pg_run.specs.Intending.{IntentionsAreInOrder}
pub use Rattle.pg_run.specs.Laws.{HoldsWhatItTook, HouseIsInOrder, NamesMerge, QuietDirectoriesAreBroughtBack, QuietIsTold, QuietJoinedServersAgree, QuietNamesFormATree, QuietServersAgree, QuietThingsAreListedOnlyWhereTheyStand, ReturnsAreJustified}
pub use Rattle.pg_run.specs.Leaving.{ByesAreOver, DropsAreSafe, HeardEdgesAreKnown, WhatWentIsOver}
pub use Rattle.pg_run.specs.Ticks.{TicksSendWhatIsOwed}
pub use Rattle.pg_run.specs.Views.{MessagesAreOfViews, ViewsArePrefixes}
pub use Rattle.law_steps.specs.Refused.{RefusedStepsChangeNothing}
pub use Rattle.law_shows.specs.Shows.{ShowsAreStates}
pub use Rattle.pg_program.specs.Written.{JournalsAreAlike, LinesAreEvents}
