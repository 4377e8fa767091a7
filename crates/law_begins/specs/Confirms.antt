-- When a Confirm may begin.
use Rattle.std.specs.Prelude.{ℕ, ◌≡◌, ◌⊎◌, true, false, List, Some, Ok}
use Rattle.law_frame.specs.pg_run.pg_base.declared.id.FileId.{FileId}
use Rattle.law_frame.specs.pg_run.pg_base.Stamp.{is_before}
use Rattle.law_frame.specs.pg_run.pg_call.declared.call.Call.TheVariants.{Giveup}
use Rattle.law_frame.specs.pg_run.pg_calls.GivingUp.{removal_at}
use Rattle.law_frame.specs.pg_run.pg_entries.declared.cell.Cell.TheVariants as cells
use Rattle.law_frame.specs.pg_run.pg_entries.declared.entry.Entry.{Entry}
use Rattle.law_frame.specs.pg_run.pg_event.declared.event.Event.{Event}
use Rattle.law_frame.specs.pg_run.pg_intent.declared.key.IntentKey.TheVariants as key
use Rattle.law_frame.specs.pg_run.pg_intent.Intents.{stands}
use Rattle.law_frame.specs.pg_run.pg_msg.declared.message.Message.{Message}
use Rattle.law_frame.specs.pg_run.pg_msg.declared.message.Message.TheVariants as message
use Rattle.law_frame.specs.pg_run.pg_names.Names.{cell_at}
use Rattle.law_frame.specs.pg_run.pg_server.declared.input.Input.{Input}
use Rattle.law_frame.specs.pg_run.pg_server.declared.input.Input.TheVariants as input
use Rattle.law_frame.specs.pg_run.pg_store.declared.store.Store.{Store}
use Rattle.law_frame.specs.pg_run.Laws.{TakesIn}
use Rattle.law_frame.specs.pg_run.Run.{next, run}

-- where the directory has a place of the child, this one is later
abbrev pub IsLater : Store → FileId → Entry → Type 0
IsLater a dir e = (old : Entry) → cell_at a.names dir e.child ≡ Some old
    → is_before old.place.stamp e.place.stamp ≡ true

-- a cell of this directory, with an entry of this child, of which its sender is not sure; and its
-- place is news
abbrev pub IsDoubted : Store → FileId → FileId → Message → Type 0
IsDoubted a dir child (message.Cell ends tag (cells.Entry e false)) =
    (ends.file ≡ dir) × (e.child ≡ child) × IsLater a dir e
IsDoubted a dir child _ = ⊥

-- the event brings such a message
abbrev pub BringsDoubt : Store → Input → FileId → FileId → Type 0
BringsDoubt a (input.Arrival packet) dir child = IsDoubted a dir child packet.message
BringsDoubt a _ dir child = ⊥

-- a client's call gives a server up, and is not refused: the next view is entered
abbrev pub EntersView : Store → Input → Type 0
EntersView a (input.Call moment (Giveup view server)) =
    (u : Unit {0}) × (removal_at a view server ≡ Ok u)
EntersView a _ = ⊥

-- NOTHING ELSE BEGINS A CONFIRM: where one stands behind an event that did not stand before it, the
-- event entered a view, or brought the directory a later place of the child of which its sender was
-- not sure
abbrev pub ConfirmsBeginOnly : ℕ → Type 0
ConfirmsBeginOnly servers = (events : List Event) (event : Event) (s : ℕ) (asked : Input)
    (dir child : FileId) → let w = run servers events in TakesIn servers w event s asked
    → stands (w.stores s).intents (key.Confirm dir child) ≡ false
    → stands ((next servers w event).stores s).intents (key.Confirm dir child) ≡ true
    → EntersView (w.stores s) asked ⊎ BringsDoubt (w.stores s) asked dir child
