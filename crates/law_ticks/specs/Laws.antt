-- What a run waits for, and what stands on edges: statements.
use Rattle.std.specs.Prelude.{ℕ, ◌≡◌, ◌≢◌, ◌<◌, ◌↔◌, [], true, List, Some, length, slice_get}
use Rattle.law_frame.specs.pg_run.pg_base.declared.id.FileId.{FileId}
use Rattle.law_frame.specs.pg_run.pg_edges.declared.key.Key.{Key}
use Rattle.law_frame.specs.pg_run.pg_edges.Edges.{tag_at}
use Rattle.law_frame.specs.pg_run.pg_entries.declared.cell.Cell.{Cell}
use Rattle.law_frame.specs.pg_run.pg_event.declared.event.Event.{Event}
use Rattle.law_frame.specs.pg_run.pg_event.declared.quiet.Cause.{Cause}
use Rattle.law_frame.specs.pg_run.pg_event.declared.quiet.Cause.TheVariants.{Message, Owed, View}
use Rattle.law_frame.specs.pg_run.pg_event.declared.quiet.Owing.{Owing}
use Rattle.law_frame.specs.pg_run.pg_event.declared.quiet.Quiet.TheVariants.{Waits}
use Rattle.law_frame.specs.pg_run.pg_house.House.{house}
use Rattle.law_frame.specs.pg_run.pg_house.Work.{state_of}
use Rattle.law_frame.specs.pg_run.pg_msg.declared.message.Sent.{Sent}
use Rattle.law_frame.specs.pg_run.pg_msg.declared.summary.Summary.{Summary}
use Rattle.law_frame.specs.pg_run.pg_msg.declared.work.Work.{Work}
use Rattle.law_frame.specs.pg_run.pg_msg.Sent.{summary}
use Rattle.law_frame.specs.pg_run.pg_store.Cells.{cell_at}
use Rattle.law_frame.specs.pg_run.pg_replica.declared.replica.Replica.{Replica}
use Rattle.law_frame.specs.pg_run.pg_store.Seen.{view_of}
use Rattle.law_frame.specs.pg_run.pg_store.Store.{replica_at}
use Rattle.law_frame.specs.pg_run.pg_pieces.Done.{idle}
use Rattle.law_frame.specs.pg_run.pg_cells.Settling.{settle}
use Rattle.law_frame.specs.pg_run.pg_server.Owing.{owed}
use Rattle.law_frame.specs.pg_run.Journal.{bag, removals}
use Rattle.law_frame.specs.pg_run.Laws.{AtEach, AtLive, names_after, store_after}
use Rattle.law_frame.specs.pg_run.Quiet.{quiet_of}
use Rattle.law_frame.specs.pg_run.Run.{World, is_live}

-- ---- keys on edges

-- each key that is unacknowledged on an edge has a cell
abbrev pub KeysHaveCells : ℕ → Type 0
KeysHaveCells servers = (events : List Event) → AtEach servers (λ s.
    (file : FileId) (x : Replica) (peer birth : ℕ) (key : Key) (tag : ℕ)
    → replica_at (store_after servers events s) file ≡ Some x
    → tag_at x.edges peer birth key ≡ Some tag
    → (c : Cell) × (cell_at (store_after servers events s) file key ≡ Some c))

-- ---- what a run waits for

-- a server has entered the last removal
abbrev pub HasEnteredLast : World → ℕ → Type 0
HasEnteredLast w s = view_of (w.stores s) ≡ length (removals w.journal)

-- of all messages under way the first
pub record IsFirstMessage (w : World) (told : Summary) : Type 0 where
  pub message : Sent
  pub first : slice_get (bag w.journal) 0 ≡ Some message
  pub is : summary message ≡ told

-- the least live server that has not entered the last removal, with its view
pub record IsFirstView (servers : ℕ) (w : World) (server view : ℕ) : Type 0 where
  pub live : is_live servers w server ≡ true
  pub is : view_of (w.stores server) ≡ view
  pub behind : view ≢ length (removals w.journal)
  pub before : AtLive servers w (λ s. s < server → HasEnteredLast w s)

-- of all that live servers owe the first, by server: no lesser one owes anything
pub record IsFirstOwed (servers : ℕ) (w : World) (o : Owing) : Type 0 where
  pub server : ℕ
  pub live : is_live servers w server ≡ true
  pub first : slice_get (owed (w.stores server)) 0 ≡ Some o
  pub before : AtLive servers w (λ s. s < server → owed (w.stores s) ≡ [])

-- messages come first, then views, then what is owed
abbrev pub IsFirstCause : ℕ → World → Cause → Type 0
IsFirstCause servers w (Message told) = IsFirstMessage w told
IsFirstCause servers w (View server view) =
    (bag w.journal ≡ []) × IsFirstView servers w server view
IsFirstCause servers w (Owed o) = (bag w.journal ≡ [])
    × AtLive servers w (HasEnteredLast w) × IsFirstOwed servers w o

-- a world is told to wait for this exactly where it is the first
abbrev pub FirstCauseIsTold : Type 0
FirstCauseIsTold = (servers : ℕ) (w : World) (cause : Cause)
    → (quiet_of servers w ≡ Waits cause) ↔ IsFirstCause servers w cause

-- ---- the house rules

-- after all events no house rule applies at any server, at whichever moment: run again they change
-- nothing, touch nothing and make nothing
abbrev pub NoRuleApplies : ℕ → Type 0
NoRuleApplies servers = (events : List Event) → AtEach servers (λ s. (moment : ℕ) (work : Work)
    → house moment (state_of (names_after servers events s) work)
    ≡ state_of (names_after servers events s) work)

-- nor is a flag to be raised: the end of a further event leaves all as it is
abbrev pub NoFlagIsRaised : ℕ → Type 0
NoFlagIsRaised servers = (events : List Event) → AtEach servers (λ s. (work : Work)
    → settle (store_after servers events s) work ≡ idle (store_after servers events s) work)
