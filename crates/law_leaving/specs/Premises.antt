-- What is asked of runs here, that other laws give.
use Rattle.std.specs.Prelude.{ℕ, List}
use Rattle.pg_run.specs.pg_event.declared.event.Event.{Event}
use Rattle.pg_run.specs.theory_flood_pieces.Whole.{IsWhole}
use Rattle.pg_run.specs.Births.{BirthsAreAlone, BirthsAreKnown, BirthsMoveOn, GoneSays, LinksNameTheSender}
use Rattle.pg_run.specs.Going.{BirthsEndByLeave, ByesBeginWhereOneGoes, ByesEndByAnswers, EachPeerIsTold, EdgesGoByWord, FlagsAreMadeWhereHeld}
use Rattle.pg_run.specs.Grown.{EventsGrow}
use Rattle.pg_run.specs.Histories.{MakesHistories, StateIsItsHeads}
use Rattle.pg_run.specs.Intending.{IntentionsAreInOrder}
use Rattle.pg_run.specs.Known.{CarriedIsKnown, FlagsAreOwn}
use Rattle.pg_run.specs.Laws.{HoldsWhatItTook, NamesMerge}
use Rattle.pg_run.specs.Ruled.{EventsKeepTheRule, WhatGoesIsOver}
use Rattle.pg_run.specs.Run.{run}
use Rattle.pg_run.specs.Views.{ViewsArePrefixes, ViewsGrow}

-- edges are to other servers
abbrev pub RunsStayWhole : ℕ → Type 0
RunsStayWhole servers =
    (events : List Event) (s : ℕ) → IsWhole servers s ((run servers events).stores s)

-- known: each birth that is named was given out
-- alone: of each thing a server has one at a time
-- on: and they move one way
-- gone: what is said to be gone is not there
-- linked: who accepts a message lists its sender
pub record BirthsAreCited (servers : ℕ) : Type 0 where
  pub known : BirthsAreKnown servers
  pub alone : BirthsAreAlone servers
  pub on : BirthsMoveOn servers
  pub gone : GoneSays servers
  pub linked : LinksNameTheSender servers

-- of each event
-- acts: each event keeps the rule of the edges
-- edges: edges go to greater births, and where a peer says that its replica is not there, or went
-- ends, over: replicas go by leave, and their births are over
-- made: flags are made where the thing is held
-- begin, told, answered: Byes begin where a replica goes, for each of its edges, and end by answers
pub record EventsAreCited (servers : ℕ) : Type 0 where
  pub acts : EventsKeepTheRule servers
  pub edges : EdgesGoByWord servers
  pub ends : BirthsEndByLeave servers
  pub over : WhatGoesIsOver servers
  pub made : FlagsAreMadeWhereHeld servers
  pub begin : ByesBeginWhereOneGoes servers
  pub told : EachPeerIsTold servers
  pub answered : ByesEndByAnswers servers

-- whole: edges are to other servers
-- intents: a Leave is of what is held, to a gold peer
-- grow: what is held is held on, and holds no less
-- views, lasting: who is removed in a server's view was removed, and stays so
-- carried, own: flags are those that were made, and each is its server's own
pub record StandOn (servers : ℕ) : Type 0 where
  pub whole : RunsStayWhole servers
  pub intents : IntentionsAreInOrder servers
  pub grow : EventsGrow servers
  pub views : ViewsArePrefixes servers
  pub lasting : ViewsGrow servers
  pub carried : CarriedIsKnown servers
  pub own : FlagsAreOwn servers
  pub births : BirthsAreCited servers
  pub events : EventsAreCited servers

-- what servers hold is the state of what their replicas took, and versions are histories
pub record StatesAreCited (servers : ℕ) : Type 0 where
  pub merge : NamesMerge servers
  pub held : HoldsWhatItTook servers
  pub heads : StateIsItsHeads servers
  pub made : MakesHistories servers
