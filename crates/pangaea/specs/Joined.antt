-- The laws of runs, as they are cited, each with what it stands on.
use Rattle.std.specs.Prelude.{ℕ, ◌<◌, ◌^◌}
use Rattle.law_confirms.specs.Confirms.{ConfirmsBeginAndStay}
use Rattle.law_forgotten.specs.Forgets.{ForgetsStay}
use Rattle.law_links.specs.Links.{AsksLinkTheAsker}
use Rattle.law_steps.specs.law_refused.Refusals.{RefusalsChangeNothing}
use Rattle.law_wants.specs.Wants.{AnEventAsksOne}
use Rattle.law_repair.specs.law_contents.Together as contents
use Rattle.law_repair.specs.law_contents.Together.{HoldBoth}
use Rattle.law_repair.specs.law_leaving.Premises as drops
use Rattle.law_repair.specs.law_leaving.Premises.{StatesAreCited}
use Rattle.law_returns.specs.law_full.Filled.{FullPlaced, FullSays}
use Rattle.law_repair.specs.law_golds.Laws.{FlagsAreKnown}
use Rattle.law_repair.specs.law_golds.Premises as flagging
use Rattle.law_repair.specs.law_golds.Premises.{NextIdsAreAway}
use Rattle.law_lists.specs.Laws.{RemovalsStay, ReturnsList}
use Rattle.law_rests.specs.Rests.{NoneIsUnderWayToRemoved, RemovedServersRest}
use Rattle.law_stamps.specs.Stamps.{OneStampEach}
use Rattle.law_returns.specs.Gate.{EdgesAreKept}
use Rattle.law_bodies.specs.Premises as bodies
use Rattle.law_determined.specs.Determined.{NamesAreDetermined}
use Rattle.law_intents.specs.Laws.{IntentionsHaveRequests, NothingIsLeftToDo}
use Rattle.law_acks.specs.Laws.{RunsStayWhole, StandOn}
use Rattle.law_repair.specs.law_listings.Laws.{ListingsAreKept, ListingsStandOn}
use Rattle.law_returns.specs.law_names.Merged.{NamesStandOn}
use Rattle.law_intents.specs.law_order.Laws.{AllIsNamed, BirthsAreGiven, FirstEffectsAreOrdered, FirstEffectsAreWhole, NamesAreById, NamesAreDistinct, NextIdsAreNew, ServersAreWhole, ThingsArePlacedWell}
use Rattle.law_repair.specs.law_places.Laws.{OnePlaceAStamp, PlacesWereMade}
use Rattle.law_repair.specs.law_quiet.Given.{AgreementIsGiven, TreeIsGiven}
use Rattle.law_repair.specs.law_quiet.Laws.{QuietStoresAgree}
use Rattle.law_repair.specs.Facts.{FullBegins, FullIsSaid, FullStays, GoldsRaiseNone}
use Rattle.law_repair.specs.Given as repairs
use Rattle.law_repair.specs.Kept.{KeptDirectoriesAreBroughtBack, KeptNamesFormATree, KeptServersAgree, KeptThingsAreConnected, KeptThingsAreListedOnlyWhereTheyStand}
use Rattle.pg_run.specs.Acknowledged.{AcknowledgedKeysAreHad}
use Rattle.pg_run.specs.Away.{DirectoriesAreTold, WhatBeginsIsAway}
use Rattle.pg_run.specs.Bodies.{BodiesAnswerWants, FirstHarbingersAsk, OneIsAskedAtATime}
use Rattle.pg_run.specs.Births.{BirthsAreAlone, BirthsAreKnown, BirthsAreOfOneThing, BirthsMoveInEvents, BirthsMoveOn, GoneSays, GreaterBirthsReplaceEdges, LinksNameTheSender, ReplicasStayOrGo}
use Rattle.pg_run.specs.Deltas.{KeepsWhatItMadeOrTook, WantsGetTheShortestChange}
use Rattle.pg_run.specs.Going.{BirthsEndByLeave, ByesBeginWhereOneGoes, ByesEndByAnswers, EachPeerIsTold, EdgesGoByWord, FlagsAreMadeWhereHeld}
use Rattle.pg_run.specs.Golds.{FullReplicasSeeGold, ReplicasNameGolds}
use Rattle.pg_run.specs.Grown.{EventsGrow, RunsGrow}
use Rattle.pg_run.specs.Histories.{AncestryByVectors, CarriesHistory, ClockEndsFirst, MakesHistories, OneVersionAStamp, StateIsDetermined, StateIsItsHeads}
use Rattle.pg_run.specs.Intending.{IntentionsAreInOrder}
use Rattle.pg_run.specs.Known.{CarriedIsKnown, FlagsAreOwn, FlagsHaveOwnNumbers, PlacesHaveOwnStamps, PlacesMadeArePast}
use Rattle.pg_run.specs.Laws.{HoldsWhatItTook, HouseIsInOrder, NamesMerge, QuietDirectoriesAreBroughtBack, QuietJoinedServersAgree, QuietNamesFormATree, QuietServersAgree, QuietThingsAreListedOnlyWhereTheyStand, ReturnsAreJustified}
use Rattle.pg_run.specs.Leaving.{ByesAreOver, DropsAreSafe, GiversHaveEachCell, HeardEdgesAreKnown, WhatWentIsOver}
use Rattle.pg_run.specs.Noted.{SourcesAnnounced}
use Rattle.pg_run.specs.Ruled.{EventsKeepTheRule, WhatGoesIsOver}
use Rattle.pg_run.specs.Ticks.{RestartsLoseWishes, TicksSendWhatIsOwed}
use Rattle.pg_run.specs.Views.{MessagesAreOfViews, MessagesAreSentInView, ViewsArePrefixes, ViewsGrow}
use Rattle.law_ticks.specs.Given.{TidinessIsGiven}
use Rattle.law_views.specs.Premises as views

-- that all that is carried is known, of places and of flags together, stands on what is said of each
abbrev pub CarriedStandsOn : ℕ → Type 0
CarriedStandsOn servers = IntentionsAreInOrder servers → AllIsNamed servers
    → PlacesWereMade servers → FlagsAreKnown servers → CarriedIsKnown servers

-- of names, along every run
pub record OrderIsCited (servers : ℕ) : Type 0 where
  pub order : HouseIsInOrder servers
  pub whole : ServersAreWhole servers
  pub first : FirstEffectsAreWhole servers
  pub ordered : FirstEffectsAreOrdered servers
  pub by_id : NamesAreById servers
  pub named : AllIsNamed servers
  pub placed : ThingsArePlacedWell servers
  pub distinct : NamesAreDistinct servers
  pub told : DirectoriesAreTold servers
  pub births : BirthsAreGiven servers
  pub ids : NextIdsAreNew servers
  pub away : WhatBeginsIsAway servers

-- of the views of servers
pub record ViewsAreCited (servers : ℕ) : Type 0 where
  pub fronts : views.StandOn servers → ViewsArePrefixes servers
  pub grow : views.StandOn servers → ViewsGrow servers
  pub sent : views.StandOn servers → MessagesAreSentInView servers
  pub mailed : views.StandOn servers → MessagesAreOfViews servers
  pub rests : MessagesAreSentInView servers → RemovedServersRest servers
  pub none_to_removed : NoneIsUnderWayToRemoved servers

-- of what servers intend
pub record IntentsAreCited (servers : ℕ) : Type 0 where
  pub order : ViewsArePrefixes servers → IntentionsAreInOrder servers
  pub still : ViewsArePrefixes servers → NothingIsLeftToDo servers
  pub asked : ViewsArePrefixes servers → IntentionsHaveRequests servers

-- of contents, where servers have numbers that stamps can have
pub record ContentsAreCited (servers : ℕ) : Type 0 where
  pub held : servers < 2 ^ 32 → contents.StandOn servers → HoldsWhatItTook servers
  pub heads : servers < 2 ^ 32 → contents.StandOn servers → StateIsItsHeads servers
  pub determined : servers < 2 ^ 32 → contents.StandOn servers → StateIsDetermined servers
  pub made : servers < 2 ^ 32 → contents.StandOn servers → MakesHistories servers
  pub one : servers < 2 ^ 32 → contents.StandOn servers → OneVersionAStamp servers
  pub stamps : servers < 2 ^ 32 → contents.StandOn servers → OneStampEach servers
  pub ancestry : servers < 2 ^ 32 → contents.StandOn servers → AncestryByVectors servers
  pub carried : servers < 2 ^ 32 → contents.StandOn servers → CarriesHistory servers
  pub clock : servers < 2 ^ 32 → contents.StandOn servers → ClockEndsFirst servers
  pub announced : servers < 2 ^ 32 → contents.StandOn servers → SourcesAnnounced servers
  pub asked : servers < 2 ^ 32 → contents.StandOn servers → OneIsAskedAtATime servers
  pub kept : servers < 2 ^ 32 → contents.StandOn servers → KeepsWhatItMadeOrTook servers

-- of bodies
pub record BodiesAreCited (servers : ℕ) : Type 0 where
  pub answers : bodies.StandOn servers → BodiesAnswerWants servers
  pub shortest : servers < 2 ^ 32 → contents.StandOn servers → TidinessIsGiven servers
      → WantsGetTheShortestChange servers
  pub first : TidinessIsGiven servers → FirstHarbingersAsk servers
  pub one_in_each : AnEventAsksOne servers

-- of what edges keep, and of births
pub record EdgesAreCited (servers : ℕ) : Type 0 where
  pub whole : StandOn servers → RunsStayWhole servers
  pub had : StandOn servers → AcknowledgedKeysAreHad servers
  pub runs : StandOn servers → RunsGrow servers
  pub grow : StandOn servers → EventsGrow servers
  pub acts : StandOn servers → EventsKeepTheRule servers
  pub placed : AcknowledgedKeysAreHad servers → EventsGrow servers → BirthsMoveInEvents servers
      → CarriedIsKnown servers → PlacesHaveOwnStamps servers → FullPlaced servers
  pub said : AcknowledgedKeysAreHad servers → EventsGrow servers → BirthsMoveInEvents servers
      → CarriedIsKnown servers → PlacesHaveOwnStamps servers → FullSays servers
  pub alone : IntentionsAreInOrder servers → BirthsAreAlone servers
  pub of_one : IntentionsAreInOrder servers → BirthsAreOfOneThing servers
  pub greater : IntentionsAreInOrder servers → GreaterBirthsReplaceEdges servers
  pub linked : IntentionsAreInOrder servers → LinksNameTheSender servers
  pub asked_linked : IntentionsAreInOrder servers → AsksLinkTheAsker servers
  pub moves : IntentionsAreInOrder servers → BirthsMoveInEvents servers
  pub on : IntentionsAreInOrder servers → BirthsMoveOn servers
  pub stay : IntentionsAreInOrder servers → ReplicasStayOrGo servers
  pub gone : IntentionsAreInOrder servers → GoneSays servers
  pub known : IntentionsAreInOrder servers → BirthsAreKnown servers

-- of replicas that go
pub record DropsAreCited (servers : ℕ) : Type 0 where
  pub edges : IntentionsAreInOrder servers → EdgesGoByWord servers
  pub ends : IntentionsAreInOrder servers → BirthsEndByLeave servers
  pub over : IntentionsAreInOrder servers → WhatGoesIsOver servers
  pub begin : IntentionsAreInOrder servers → ByesBeginWhereOneGoes servers
  pub told : IntentionsAreInOrder servers → EachPeerIsTold servers
  pub answered : IntentionsAreInOrder servers → ByesEndByAnswers servers
  pub went : drops.StandOn servers → WhatWentIsOver servers
  pub byes : drops.StandOn servers → ByesAreOver servers
  pub heard : drops.StandOn servers → HeardEdgesAreKnown servers
  pub cells : drops.StandOn servers → GiversHaveEachCell servers
  pub safe : drops.StandOn servers → StatesAreCited servers → DropsAreSafe servers

-- of flags, and of gold replicas
pub record FlagsAreCited (servers : ℕ) : Type 0 where
  pub own : HoldBoth servers → EventsGrow servers → BirthsMoveInEvents servers
      → flagging.FirstEffectsAreWhole servers → NextIdsAreAway servers → FlagsAreOwn servers
  pub made : HoldBoth servers → EventsGrow servers → BirthsMoveInEvents servers
      → flagging.FirstEffectsAreWhole servers → NextIdsAreAway servers
      → FlagsAreMadeWhereHeld servers
  pub numbers : HoldBoth servers → EventsGrow servers → BirthsMoveInEvents servers
      → flagging.FirstEffectsAreWhole servers → NextIdsAreAway servers → FlagsHaveOwnNumbers servers
  pub known : HoldBoth servers → EventsGrow servers → BirthsMoveInEvents servers
      → flagging.FirstEffectsAreWhole servers → NextIdsAreAway servers → FlagsAreKnown servers
  pub golds : ViewsArePrefixes servers → BirthsAreKnown servers → BirthsAreAlone servers
      → FullReplicasSeeGold servers
  pub named : IntentionsAreInOrder servers → ReplicasNameGolds servers

-- of what was taken of names, of ticks and of listings
pub record NamesAreCited (servers : ℕ) : Type 0 where
  pub one_place : IntentionsAreInOrder servers → OnePlaceAStamp servers
  pub made : IntentionsAreInOrder servers → PlacesWereMade servers
  pub own : IntentionsAreInOrder servers → PlacesHaveOwnStamps servers
  pub past : IntentionsAreInOrder servers → PlacesMadeArePast servers
  pub known : CarriedStandsOn servers
  pub merge : NamesStandOn servers → NamesMerge servers
  pub determined : NamesStandOn servers → NamesAreDetermined servers
  pub justified : NamesStandOn servers → EdgesAreKept servers → ReturnsAreJustified servers
  pub returns_list : NamesStandOn servers → FirstEffectsAreOrdered servers → ReturnsList servers
  pub removals_stay : HouseIsInOrder servers → ServersAreWhole servers
      → FirstEffectsAreWhole servers
      → FirstEffectsAreOrdered servers → RemovalsStay servers
  pub forgets_stay : ForgetsStay servers
  pub owed : TidinessIsGiven servers → TicksSendWhatIsOwed servers
  pub lost : TidinessIsGiven servers → RestartsLoseWishes servers
  pub refused : TidinessIsGiven servers → RefusalsChangeNothing servers
  pub listed : ListingsStandOn servers → ListingsAreKept servers
  pub confirms : ListingsStandOn servers → ConfirmsBeginAndStay servers

-- wherever a run is quiet
pub record QuietIsCited (servers : ℕ) : Type 0 where
  pub stores : AgreementIsGiven servers → QuietStoresAgree servers
  pub joined : AgreementIsGiven servers → NamesMerge servers → QuietJoinedServersAgree servers
  pub agree : AgreementIsGiven servers → NamesMerge servers → QuietServersAgree servers
  pub tree : TreeIsGiven servers → QuietNamesFormATree servers
  pub only : TreeIsGiven servers → QuietThingsAreListedOnlyWhereTheyStand servers
  pub back : TreeIsGiven servers → QuietDirectoriesAreBroughtBack servers

-- of things that are kept
pub record RepairsAreCited (servers : ℕ) : Type 0 where
  pub begins : FullBegins servers
  pub said : FullIsSaid servers
  pub stays : ServersAreWhole servers → FirstEffectsAreWhole servers → BirthsAreAlone servers
      → BirthsMoveInEvents servers → ReplicasStayOrGo servers → FullStays servers
  pub raise_none : HoldBoth servers → EventsGrow servers → BirthsMoveInEvents servers
      → flagging.FirstEffectsAreWhole servers → NextIdsAreAway servers → ServersAreWhole servers
      → ViewsArePrefixes servers → ReplicasStayOrGo servers → FlagsAreMadeWhereHeld servers
      → HouseIsInOrder servers → GoldsRaiseNone servers
  pub kept : repairs.StandOn servers → KeptThingsAreConnected servers
  pub agree : repairs.StandOn servers → QuietServersAgree servers → KeptServersAgree servers
  pub tree : repairs.StandOn servers → QuietNamesFormATree servers → KeptNamesFormATree servers
  pub listed : repairs.StandOn servers → QuietThingsAreListedOnlyWhereTheyStand servers
      → KeptThingsAreListedOnlyWhereTheyStand servers
  pub back : repairs.StandOn servers → QuietDirectoriesAreBroughtBack servers
      → KeptDirectoriesAreBroughtBack servers

pub record AreCited (servers : ℕ) : Type 0 where
  pub order : OrderIsCited servers
  pub views : ViewsAreCited servers
  pub intents : IntentsAreCited servers
  pub contents : ContentsAreCited servers
  pub bodies : BodiesAreCited servers
  pub edges : EdgesAreCited servers
  pub drops : DropsAreCited servers
  pub flags : FlagsAreCited servers
  pub names : NamesAreCited servers
  pub quiet : QuietIsCited servers
  pub repairs : RepairsAreCited servers
