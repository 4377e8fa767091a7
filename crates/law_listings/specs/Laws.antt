-- What directories list in a run: statements.
use Rattle.std.specs.Prelude.{ℕ, ◌≡◌, Contains, List, None}
use Rattle.pg_run.specs.pg_base.declared.id.FileId.{FileId}
use Rattle.pg_run.specs.pg_base.declared.stamp.Stamp.{Stamp}
use Rattle.pg_run.specs.pg_event.declared.event.Event.{Event}
use Rattle.pg_run.specs.pg_house.Facts.{AreByServer, AreOrdered, IsLast, IsOfDirs}
use Rattle.theory_listing.specs.Promises.{Kept}
use Rattle.theory_listing.specs.World.{Among}
use Rattle.pg_run.specs.pg_msg.declared.message.Message.TheVariants as message
use Rattle.pg_run.specs.pg_msg.declared.message.Ends.{Ends}
use Rattle.pg_run.specs.pg_msg.declared.message.Sent.{Sent}
use Rattle.pg_run.specs.pg_names.Names.{NamesValue, cell_at}
use Rattle.law_places.specs.Laws.{OnePlaceAStamp, PlacesWereMade}
use Rattle.pg_run.specs.pg_register.Place.{root}
use Rattle.pg_run.specs.pg_server.declared.input.Input.{Input}
use Rattle.pg_run.specs.pg_server.Local.{first_effect}
use Rattle.pg_run.specs.pg_store.declared.store.Store.{Store}
use Rattle.pg_run.specs.Away.{WhatBeginsIsAway}
use Rattle.pg_run.specs.Births.{BirthsMoveInEvents, ReplicasStayOrGo}
use Rattle.pg_run.specs.Going.{BirthsEndByLeave}
use Rattle.pg_run.specs.Intending.{IntentionsAreInOrder}
use Rattle.pg_run.specs.Journal.{mail}
use Rattle.pg_run.specs.Known.{IsPlaceOf, PlacesHaveOwnStamps}
use Rattle.pg_run.specs.Laws.{AtEach, HouseIsInOrder, TakesIn, names_after}
use Rattle.pg_run.specs.Leaving.{GiversHaveEachCell}
use Rattle.pg_run.specs.Run.{World, run}
use Rattle.pg_run.specs.Ticks.{TicksSendWhatIsOwed}
use Rattle.pg_run.specs.Views.{MessagesAreOfViews, MessagesAreSentInView, ViewsArePrefixes}
use Rattle.law_listings.specs.Letters.{Letter, letter, letters, listings, of_stores, place_of}

-- ---- what is asked for

-- what the house rules ask for
pub record MaySettle (names : NamesValue) : Type 0 where
  pub of_dirs : IsOfDirs names
  pub by_server : AreByServer names
  pub last : IsLast names
  pub ordered : AreOrdered names

-- it holds behind the first effect of each event
abbrev pub FirstEffectsAreSound : ℕ → Type 0
FirstEffectsAreSound servers = (events : List Event) (event : Event) (s : ℕ) (asked : Input)
    → TakesIn servers (run servers events) event s asked
    → MaySettle (first_effect ((run servers events).stores s) asked).store.names

-- no directory has a cell for the root
abbrev pub RootIsUnlisted : ℕ → Type 0
RootIsUnlisted servers = (events : List Event) → AtEach servers (λ s. (dir : FileId)
    → cell_at (names_after servers events s) dir root ≡ None)

-- order, house, away, ticks: servers are in order, begin only what is away, and send what is owed
-- one, made, own: places come from the journal, and two of a thing with one stamp are one place
-- sound, unlisted: what the house rules ask for moves, stay, ends: births move one way, and what is
-- held stays, or goes by leave givers: who gives leave to go has all cells of what goes views,
-- mailed, sent: servers enter removals in their order, and messages are of the views of those that
--   send them
pub record ListingsStandOn (servers : ℕ) : Type 0 where
  pub order : IntentionsAreInOrder servers
  pub house : HouseIsInOrder servers
  pub one : OnePlaceAStamp servers
  pub made : PlacesWereMade servers
  pub own : PlacesHaveOwnStamps servers
  pub sound : FirstEffectsAreSound servers
  pub unlisted : RootIsUnlisted servers
  pub away : WhatBeginsIsAway servers
  pub ticks : TicksSendWhatIsOwed servers
  pub moves : BirthsMoveInEvents servers
  pub stay : ReplicasStayOrGo servers
  pub ends : BirthsEndByLeave servers
  pub givers : GiversHaveEachCell servers
  pub views : ViewsArePrefixes servers
  pub mailed : MessagesAreOfViews servers
  pub sent : MessagesAreSentInView servers

-- ---- listings

-- LISTED: a child that a directory of a current server lists, and that is not held beside it, is
-- asked after, or known with that place at a current server; and all letters of the last view keep
-- their promises
abbrev pub ListingsAreKept : ℕ → Type 0
ListingsAreKept servers = (events : List Event)
    → Kept of_stores (listings servers (run servers events) (letters servers events))

-- among: a message has a letter among these, by what its sender held before the event in which it
-- was
--   sent
-- place: of a LeaveOk the letter has a place that was made, with the stamp that the message tells
pub record HasLetter (w : World) (sent : List Letter) (m : Sent) : Type 0 where
  pub store : Store
  pub among : Among (letter store m) sent
  pub place : (ends : Ends) (stamp : Stamp) → m.packet.message ≡ message.LeaveOk ends stamp
      → ((place_of store ends.file).stamp ≡ stamp)
      × IsPlaceOf w ends.file (place_of store ends.file)

-- EACH MESSAGE HAS A LETTER: be it under way, delivered or lost
abbrev pub MessagesHaveLetters : ℕ → Type 0
MessagesHaveLetters servers = (events : List Event) (m : Sent)
    → Contains (mail (run servers events).journal) m
    → HasLetter (run servers events) (letters servers events) m
