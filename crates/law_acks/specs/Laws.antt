-- What edges and messages keep in every run: statements.
use Rattle.std.specs.Prelude.{ℕ, List}
use Rattle.pg_run.specs.pg_event.declared.event.Event.{Event}
use Rattle.pg_run.specs.theory_flood.Protocol.{KeepsEdges}
use Rattle.pg_run.specs.theory_flood_pieces.Seen.{cells}
use Rattle.pg_run.specs.theory_flood_pieces.Whole.{IsWhole}
use Rattle.pg_run.specs.Away.{DirectoriesAreTold, WhatBeginsIsAway}
use Rattle.pg_run.specs.Births.{BirthsAreAlone, BirthsAreKnown, BirthsMoveInEvents}
use Rattle.pg_run.specs.Journal.{mail}
use Rattle.pg_run.specs.Noted.{SourcesAnnounced}
use Rattle.pg_run.specs.Run.{run}
use Rattle.law_acks.specs.Histories.{HaveHistories}

-- contents: what servers hold of contents, and messages bring of them, is of histories
-- away: what begins at a server was not held there
-- directories: what is told of children is told of directories
-- announced: who is asked for a version announced it
-- known, alone, moves: births that are named were given out, of each thing a server has one, and
--   births move one way
pub record StandOn (servers : ℕ) : Type 0 where
  pub contents : HaveHistories servers
  pub away : WhatBeginsIsAway servers
  pub directories : DirectoriesAreTold servers
  pub announced : SourcesAnnounced servers
  pub known : BirthsAreKnown servers
  pub alone : BirthsAreAlone servers
  pub moves : BirthsMoveInEvents servers

-- where a key is acknowledged the peer covers its cell or its birth is over, and each message that
-- was ever sent keeps its promise
abbrev pub RunsKeepEdges : ℕ → Type 0
RunsKeepEdges servers = (events : List Event)
    → KeepsEdges cells (run servers events).stores (mail (run servers events).journal)

-- edges are to other servers, just what is held has a replica, and names are as the house rules ask
abbrev pub RunsStayWhole : ℕ → Type 0
RunsStayWhole servers =
    (events : List Event) (s : ℕ) → IsWhole servers s ((run servers events).stores s)
