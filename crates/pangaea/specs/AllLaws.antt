-- The laws of all runs, each in one field. Where stamps and ids need their numbers, servers are
-- fewer than 2 ^ 32.
use Rattle.std.specs.Prelude.{◌<◌, ◌^◌, ℕ}
use Rattle.law_determined.specs.Determined.{NamesAreDetermined}
use Rattle.law_steps.specs.law_refused.law_turns.law_begins.Confirms.{ConfirmsBeginOnly}
use Rattle.law_confirms.specs.Confirms.{ConfirmsBeginAndStay}
use Rattle.law_forgotten.specs.Forgets.{ForgetsStay}
use Rattle.law_house.specs.Runs.{RulesGoBySteps}
use Rattle.law_links.specs.Links.{AsksLinkTheAsker}
use Rattle.law_steps.specs.law_refused.Refusals.{RefusalsChangeNothing}
use Rattle.law_wants.specs.Wants.{AnEventAsksOne}
use Rattle.law_lists.specs.Laws.{RemovalsStay, ReturnsList}
use Rattle.law_repair.specs.law_places.Laws.{OnePlaceAStamp}
use Rattle.law_rests.specs.Rests.{NoneIsUnderWayToRemoved, RemovedServersRest}
use Rattle.law_stamps.specs.Stamps.{OneStampEach}
use Rattle.law_took.specs.Takers.{ReplicasTookWhatCame}
use Rattle.law_steps.specs.law_refused.law_turns.Turns.{IntentionsBeginInTurn}
use Rattle.law_repair.specs.Kept.{KeptDirectoriesAreBroughtBack, KeptNamesFormATree, KeptServersAgree, KeptThingsAreConnected, KeptThingsAreListedOnlyWhereTheyStand}
use Rattle.pg_run.specs.Acknowledged.{AcknowledgedKeysAreHad}
use Rattle.pg_run.specs.Bodies.{BodiesAnswerWants, FirstHarbingersAsk, OneIsAskedAtATime}
use Rattle.pg_run.specs.Births.{BirthsAreAlone, BirthsAreKnown, BirthsAreOfOneThing, GreaterBirthsReplaceEdges, LinksNameTheSender}
use Rattle.pg_run.specs.Came.{TakesWhatCame}
use Rattle.pg_run.specs.Deltas.{KeepsWhatItMadeOrTook, WantsGetTheShortestChange}
use Rattle.pg_run.specs.Going.{EachPeerIsTold}
use Rattle.pg_run.specs.Golds.{FullReplicasSeeGold, ReplicasNameGolds}
use Rattle.pg_run.specs.Histories.{AncestryByVectors, CarriesHistory, ClockEndsFirst, MakesHistories, OneVersionAStamp, StateIsDetermined, StateIsItsHeads}
use Rattle.pg_run.specs.Intending.{IntentionsAreInOrder}
use Rattle.pg_run.specs.Laws.{HoldsWhatItTook, HouseIsInOrder, NamesMerge, QuietDirectoriesAreBroughtBack, QuietIsTold, QuietJoinedServersAgree, QuietNamesFormATree, QuietServersAgree, QuietThingsAreListedOnlyWhereTheyStand, ReturnsAreJustified}
use Rattle.pg_run.specs.Leaving.{ByesAreOver, DropsAreSafe, HeardEdgesAreKnown, WhatWentIsOver}
use Rattle.pg_run.specs.Ticks.{RestartsLoseWishes, TicksSendWhatIsOwed}
use Rattle.pg_run.specs.Views.{MessagesAreOfViews, ViewsArePrefixes}

pub record LawsOfRuns (servers : ℕ) : Type 0 where
  -- What each server took is what it made, what was delivered to it, and what was there from the
  -- start on; places and flags are so by replica. What it holds is the state of exactly that:
  -- contents, and names.
  pub took : TakesWhatCame servers
  pub took_by : ReplicasTookWhatCame servers
  pub merge : servers < 2 ^ 32 → HoldsWhatItTook servers
  pub names : servers < 2 ^ 32 → NamesMerge servers
  pub heads : servers < 2 ^ 32 → StateIsItsHeads servers
  pub determined : servers < 2 ^ 32 → StateIsDetermined servers
  pub determined_names : servers < 2 ^ 32 → NamesAreDetermined servers
  -- The versions of a file are a history, whose ancestors vectors tell, and which messages carry.
  -- Of one stamp there is one version, and one place of a thing; and no two versions or places that
  -- were made have one. Clocks end before other numbers do.
  pub histories : servers < 2 ^ 32 → MakesHistories servers
  pub one_version_a_stamp : servers < 2 ^ 32 → OneVersionAStamp servers
  pub one_place : OnePlaceAStamp servers
  pub one_stamp : servers < 2 ^ 32 → OneStampEach servers
  pub ancestry : servers < 2 ^ 32 → AncestryByVectors servers
  pub carried : servers < 2 ^ 32 → CarriesHistory servers
  pub clock : servers < 2 ^ 32 → ClockEndsFirst servers
  -- More than 1,024 bytes of a body go only to who asked for them; one server is asked at a time.
  -- Who hears of a version first asks its sender for all of the body, and tells the peers of all
  -- other edges. A replica keeps the latest of the deltas that it made or took, and a Want is given
  -- the change that these lead to, where one does and is worth it.
  pub bodies : servers < 2 ^ 32 → BodiesAnswerWants servers
  pub one_asked : servers < 2 ^ 32 → OneIsAskedAtATime servers
  pub one_in_each : AnEventAsksOne servers
  pub first_harbingers : FirstHarbingersAsk servers
  pub kept_deltas : servers < 2 ^ 32 → KeepsWhatItMadeOrTook servers
  pub given : servers < 2 ^ 32 → WantsGetTheShortestChange servers
  -- Behind every event names are as the house rules ask, which go by single steps, and each server
  -- intends what it is to; a Confirm begins where a place came of which nobody was sure, and for no
  -- other reason but a further view, and stands until it was told. A tick sends what is owed and
  -- the walk that its word chooses, and is refused exactly at the clock's end.
  pub order : HouseIsInOrder servers
  pub by_steps : RulesGoBySteps servers
  pub intends : IntentionsAreInOrder servers
  pub confirms : servers < 2 ^ 32 → ConfirmsBeginAndStay servers
  pub confirms_only : ConfirmsBeginOnly servers
  pub in_turn : IntentionsBeginInTurn servers
  pub owed : TicksSendWhatIsOwed servers
  -- A refused call changes nothing, but that what is not here yet is asked for: a wish may be kept,
  -- and its Fetch be sent.
  pub refused : RefusalsChangeNothing servers
  -- What a server knows of removals is the first of them, in their order, and never its own; it has
  -- no edge to who is removed so. A message is of a view that its sender had, and in which it was
  -- live.
  pub views : ViewsArePrefixes servers
  pub messages_of_views : MessagesAreOfViews servers
  -- A server that is not live takes nothing more, whatever follows: it stays as it was, and no
  -- entry tells of an effect of it. No message to a removed one is under way.
  pub rests : RemovedServersRest servers
  pub none_to_removed : NoneIsUnderWayToRemoved servers
  -- After every event each full replica sees a live gold. A gold replica names with an edge each
  -- other live gold that it sees, or seeks one; any other replica names one, or seeks one.
  pub golds : FullReplicasSeeGold servers
  pub golds_are_linked : ReplicasNameGolds servers
  -- A server has one birth of a thing at a time, which was given out for nothing else, and whoever
  -- names one names one that was given out. The greater has the edge; who accepts a message that
  -- links its sender lists it; and what is acknowledged is had.
  pub known : BirthsAreKnown servers
  pub one_birth_at_a_time : BirthsAreAlone servers
  pub births_of_one_thing : BirthsAreOfOneThing servers
  pub edges : GreaterBirthsReplaceEdges servers
  pub linked : LinksNameTheSender servers
  pub asked_linked : AsksLinkTheAsker servers
  pub acked_is_had : servers < 2 ^ 32 → AcknowledgedKeysAreHad servers
  -- Whoever lets a replica go leaves its whole state with another server that holds the thing, and
  -- is not removed in its view. Of what went the birth is over; an edge that its peer heard of is
  -- named back, or a Bye is owed, unless the edge's server is removed in the peer's view.
  pub drops : servers < 2 ^ 32 → DropsAreSafe servers
  pub gone_is_over : servers < 2 ^ 32 → WhatWentIsOver servers
  pub heard : servers < 2 ^ 32 → HeardEdgesAreKnown servers
  pub byes : servers < 2 ^ 32 → ByesAreOver servers
  -- Quiet is told exactly where no message is under way, each live server has entered the last
  -- removal, and none owes anything. There live servers that are joined agree, and where all are,
  -- all do, and the names form one tree, in which each survivor is listed where it stands and
  -- nowhere else, in no dead directory.
  pub quiet : QuietIsTold
  pub joined : servers < 2 ^ 32 → QuietJoinedServersAgree servers
  pub agree : servers < 2 ^ 32 → QuietServersAgree servers
  pub tree : servers < 2 ^ 32 → QuietNamesFormATree servers
  pub listed : servers < 2 ^ 32 → QuietThingsAreListedOnlyWhereTheyStand servers
  pub no_dead_parent : servers < 2 ^ 32 → QuietDirectoriesAreBroughtBack servers
  -- So it is, with no premise on graphs, of what was kept: where between each two neighbouring
  -- moments of a thing, its creation and the quiet ends of events, one replica of a live server
  -- stayed gold, and none forgot the thing.
  pub kept : servers < 2 ^ 32 → KeptThingsAreConnected servers
  pub kept_agree : servers < 2 ^ 32 → KeptServersAgree servers
  pub kept_tree : servers < 2 ^ 32 → KeptNamesFormATree servers
  pub kept_listed : servers < 2 ^ 32 → KeptThingsAreListedOnlyWhereTheyStand servers
  pub kept_back : servers < 2 ^ 32 → KeptDirectoriesAreBroughtBack servers
  -- Where a directory comes back, whoever removed it in an earlier event had not heard of the
  -- places that it lists, unless it is removed in the view of who brings the directory back. It
  -- lists a child then; and in the event of an rmdir no rule brings back what was removed.
  pub justified : servers < 2 ^ 32 → ReturnsAreJustified servers
  pub returns_list : servers < 2 ^ 32 → ReturnsList servers
  pub removal_stays : RemovalsStay servers
  pub forget_stays : ForgetsStay servers
  -- A restart loses wishes alone, and whoever lets a replica go tells each peer of it.
  pub lost : RestartsLoseWishes servers
  pub told : EachPeerIsTold servers
