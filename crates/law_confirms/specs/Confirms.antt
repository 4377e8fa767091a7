-- When a Confirm begins, and how long it stands.
use Rattle.std.specs.Prelude.{ℕ, ◌≡◌, ◌<◌, ◌⊎◌, true, false, List, Some}
use Rattle.pg_run.specs.pg_base.declared.id.FileId.{FileId}
use Rattle.pg_run.specs.pg_base.Id.{is_same_file}
use Rattle.pg_run.specs.pg_entries.declared.cell.Cell.TheVariants as cells
use Rattle.pg_run.specs.pg_entries.declared.entry.Entry.{Entry}
use Rattle.pg_run.specs.pg_entries.Entry.{is_listed}
use Rattle.pg_run.specs.pg_event.declared.event.Event.{Event}
use Rattle.pg_run.specs.pg_intent.declared.key.IntentKey.TheVariants as key
use Rattle.pg_run.specs.pg_intent.Intents.{stands}
use Rattle.pg_run.specs.pg_names.Names.{cell_at, is_dir}
use Rattle.pg_run.specs.pg_register.declared.place.Place.{Place}
use Rattle.pg_run.specs.pg_register.Place.{root}
use Rattle.pg_run.specs.pg_server.declared.input.Input.{Input}
use Rattle.pg_run.specs.pg_server.declared.input.Input.TheVariants as input
use Rattle.pg_run.specs.pg_store.declared.store.Store.{Store}
use Rattle.pg_run.specs.pg_store.Seen.{view_of}
use Rattle.pg_run.specs.pg_store.Store.{is_held}
use Rattle.pg_run.specs.pg_msg.declared.message.Message.{Message}
use Rattle.pg_run.specs.pg_msg.declared.message.Message.TheVariants as message
use Rattle.pg_run.specs.Laws.{TakesIn}
use Rattle.pg_run.specs.Run.{next, run}

-- a directory lists a child by this cell, and the child is not held beside it
pub record IsListedAway (b : Store) (dir child : FileId) (e : Entry) : Type 0 where
  pub directory : is_dir dir ≡ true
  pub cell : cell_at b.names dir child ≡ Some e
  pub listed : is_listed dir e ≡ true
  pub inner : is_same_file child root ≡ false
  pub away : is_held b child ≡ false

-- a message tells that the child has this place, and its sender is sure of it: a cell, or the word
-- of a holder
abbrev pub TellsPlace : FileId → FileId → Place → Message → Type 0
TellsPlace dir child place (message.Cell ends tag (cells.Entry e true)) =
    (ends.file ≡ dir) × (e.child ≡ child) × (e.place ≡ place)
TellsPlace dir child place (message.PlaceIs to e) =
    (to ≡ dir) × (e.child ≡ child) × (e.place ≡ place)
TellsPlace dir child place (message.Tell to e) =
    (to ≡ dir) × (e.child ≡ child) × (e.place ≡ place)
TellsPlace dir child place _ = ⊥

-- the event brought such a message
abbrev pub WasTold : Input → FileId → FileId → Place → Type 0
WasTold (input.Arrival packet) dir child place = TellsPlace dir child place packet.message
WasTold _ dir child place = ⊥

-- the directory had a cell for the child with this place
abbrev pub HadPlace : Store → FileId → FileId → Place → Type 0
HadPlace a dir child place =
    (x : Entry) × (cell_at a.names dir child ≡ Some x) × (x.place ≡ place)

abbrev pub Confirms : Store → FileId → FileId → Type 0
Confirms a dir child = stands a.intents (key.Confirm dir child) ≡ true

-- A server held a before an event, and holds b behind it, by which a child is listed and not held
-- begins: a Confirm of it stands, unless the place is as it was, or was told for sure
-- stays: one that stood stands, unless the place was told for sure
-- enters: where a further view was entered, one stands
pub record ConfirmsFollow (a b : Store) (asked : Input) (dir child : FileId) (e : Entry)
    : Type 0 where
  pub begins : HadPlace a dir child e.place ⊎ Confirms b dir child ⊎ WasTold asked dir child e.place
  pub stays : Confirms a dir child → Confirms b dir child ⊎ WasTold asked dir child e.place
  pub enters : view_of a < view_of b → Confirms b dir child

-- CONFIRMS BEGIN AND STAY, in every event of every run
abbrev pub ConfirmsBeginAndStay : ℕ → Type 0
ConfirmsBeginAndStay servers = (events : List Event) (event : Event) (s : ℕ) (asked : Input)
    (dir child : FileId) (e : Entry) → let w = run servers events in
    let b = (next servers w event).stores s in
    TakesIn servers w event s asked → IsListedAway b dir child e
    → ConfirmsFollow (w.stores s) b asked dir child e
