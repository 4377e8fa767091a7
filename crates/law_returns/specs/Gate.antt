-- The gate: a server that knows the removal of a directory knows all that its remover knew of its
-- children. Statements and invariants.
use Rattle.std.specs.Prelude.{ℕ, ◌≡◌, ◌≢◌, ◌<◌, ◌≤◌, ◌⊎◌, ◌++◌, ◌∷◌, true, false, All, Contains, List, Some, length}
use Rattle.pg_run.specs.pg_base.declared.id.FileId.{FileId}
use Rattle.pg_run.specs.pg_register.declared.place.Place.{Place}
use Rattle.pg_run.specs.pg_register.Flag.{is_removed}
use Rattle.pg_run.specs.pg_register.Place.{blank_place}
use Rattle.pg_run.specs.pg_entries.declared.cell.Cell.TheVariants as cell
use Rattle.pg_run.specs.pg_entries.declared.entry.Entry.{Entry}
use Rattle.pg_run.specs.pg_entries.Entry.{is_listed}
use Rattle.pg_run.specs.pg_event.declared.event.Event.{Event}
use Rattle.pg_run.specs.pg_msg.declared.message.Ends.{Ends}
use Rattle.pg_run.specs.pg_msg.declared.message.Granted.{Granted}
use Rattle.pg_run.specs.pg_msg.declared.message.Message.{Message}
use Rattle.pg_run.specs.pg_msg.declared.message.Message.TheVariants as message
use Rattle.pg_run.specs.pg_msg.declared.message.Sent.{Sent}
use Rattle.pg_run.specs.pg_msg.declared.update.Update.TheVariants as update
use Rattle.pg_run.specs.pg_names.Names.{NamesValue, cell_at, is_dir, own_or_blank}
use Rattle.pg_run.specs.pg_server.declared.input.Input.{Input}
use Rattle.pg_run.specs.pg_server.Local.{first_effect}
use Rattle.pg_run.specs.pg_store.declared.store.Store.{Store}
use Rattle.pg_run.specs.pg_store.Seen.{removed_of}
use Rattle.pg_run.specs.pg_store.Together.{IsOver, birth_at}
use Rattle.pg_run.specs.theory_flood_pieces.Names.{AreNamesUpTo, IsEntryKnownBy}
use Rattle.pg_run.specs.theory_flood_pieces.UpTo.{IsPlaceUpTo}
use Rattle.pg_run.specs.theory_flood_pieces.Whole.{IsWhole}
use Rattle.pg_run.specs.Acknowledged.{AcknowledgedKeysAreHad}
use Rattle.pg_run.specs.Births.{BirthsMoveInEvents, ReplicasStayOrGo}
use Rattle.pg_run.specs.Grown.{EventsGrow}
use Rattle.pg_run.specs.Intending.{IntentionsAreInOrder}
use Rattle.pg_run.specs.Journal.{mail, removals}
use Rattle.pg_run.specs.Known.{PlacesMadeArePast}
use Rattle.pg_run.specs.Laws.{AtEach, TakesIn, names_after}
use Rattle.pg_run.specs.Run.{World, next, removed_then, run}
use Rattle.pg_run.specs.Views.{ViewsArePrefixes, removed_by}

-- ---- what it stands on

-- peers have what they acknowledged, servers lose nothing that they hold unless a replica goes,
-- births move one way, each server is as it should be, Confirms stand only where the child is
-- listed, the time of what was made is past, and views are fronts of the removals
pub record EdgesAreKept (servers : ℕ) : Type 0 where
  pub acknowledged : AcknowledgedKeysAreHad servers
  pub grow : EventsGrow servers
  pub whole : (events : List Event) (s : ℕ) → IsWhole servers s ((run servers events).stores s)
  pub moves : BirthsMoveInEvents servers
  pub stay : ReplicasStayOrGo servers
  pub intentions : IntentionsAreInOrder servers
  pub made : PlacesMadeArePast servers
  pub views : ViewsArePrefixes servers

-- ---- messages

-- what messages say of directories that are dead
-- grant: a directory is granted with a live place, or with the blank one: its removal comes as a
--   cell, behind its entries
-- confirm: only a place that the directory lists is to be confirmed
pub record IsMindful (m : Message) : Type 0 where
  pub grant : (ends : Ends) (granted : Granted) → m ≡ message.Grant ends granted
      → is_dir ends.file ≡ true
      → (granted.place.live ≡ true) ⊎ (granted.place ≡ blank_place ends.file)
  pub confirm : (dir : FileId) (e : Entry) → m ≡ message.Confirm dir e → is_listed dir e ≡ true

-- so are all messages that are ever sent
abbrev pub MessagesAreMindful : ℕ → Type 0
MessagesAreMindful servers = (events : List Event)
    → All (λ m. IsMindful m.packet.message) (mail (run servers events).journal)

-- ---- what is said

abbrev pub place_at : NamesValue → FileId → Place
place_at names file = (own_or_blank names file).place

-- each entry that was known of a directory's children is known, or a newer one
abbrev pub KnowsChildren : FileId → NamesValue → NamesValue → Type 0
KnowsChildren dir before after =
    (child : FileId) → IsEntryKnownBy (cell_at before dir child) (cell_at after dir child)

-- of each of these entries the replica of this birth knows as much, or the birth is over
abbrev pub KnowsOrOver : FileId → NamesValue → Store → ℕ → Type 0
KnowsOrOver dir known a birth = (child : FileId) (e : Entry) → cell_at known dir child ≡ Some e
    → ((birth_at a dir ≡ Some birth) × IsEntryKnownBy (Some e) (cell_at a.names dir child))
    ⊎ IsOver a dir birth

-- behind these events the next one removes a directory
pub record Removes (servers : ℕ) (before : List Event) (removing : Event) (dir : FileId)
    (removal : Place) : Type 0 where
  pub directory : is_dir dir ≡ true
  pub dead : removal.live ≡ false
  pub made : Contains (next servers (run servers before) removing).entry.made
      (update.Place dir removal)

-- the place is of a server that is not removed among these
abbrev pub IsStillThere : List ℕ → Place → Type 0
IsStillThere removed place = is_removed removed place.stamp.server ≡ false

-- THE GATE: wherever a directory has this dead place later on, all is known that its remover knew
-- of its children, unless the remover is removed in the server's view
abbrev pub GateStands : ℕ → Type 0
GateStands servers = (before : List Event) (removing : Event) (between : List Event)
    (dir : FileId) (removal : Place) → Removes servers before removing dir removal
    → let after = before ++ removing ∷ between in
    AtEach servers (λ s. IsStillThere (names_after servers after s).removed removal
    → place_at (names_after servers after s) dir ≡ removal
    → KnowsChildren dir (names_after servers before removal.stamp.server)
    (names_after servers after s))

-- and the remover listed none of them
abbrev pub RemovedAreEmpty : ℕ → Type 0
RemovedAreEmpty servers = (before : List Event) (removing : Event) (dir : FileId)
    (removal : Place) → Removes servers before removing dir removal
    → (child : FileId) (e : Entry)
    → cell_at (names_after servers before removal.stamp.server) dir child ≡ Some e
    → is_listed dir e ≡ false

-- ---- return

-- JUSTIFIED RETURN: where the house rules find a directory removed, by a server that is not removed
-- in the view behind the first effect, each child that it lists, in whatever its entries have grown
-- to by then, has another place than the remover knew, and no earlier one
abbrev pub ReturnsFindNewPlaces : ℕ → Type 0
ReturnsFindNewPlaces servers = (before : List Event) (removing : Event) (between : List Event)
    (last : Event) (dir : FileId) (removal : Place) → Removes servers before removing dir removal
    → let w = run servers (before ++ removing ∷ between) in
    (s : ℕ) (asked : Input) → TakesIn servers w last s asked
    → IsStillThere (removed_then (w.stores s) asked) removal
    → place_at (first_effect (w.stores s) asked).store.names dir ≡ removal
    → (found : NamesValue)
    → AreNamesUpTo (first_effect (w.stores s) asked).store.names found
    → (child : FileId) (e c : Entry)
    → cell_at (names_after servers before removal.stamp.server) dir child ≡ Some e
    → cell_at found dir child ≡ Some c → is_listed dir c ≡ true
    → IsPlaceUpTo e.place c.place × (c.place ≢ e.place)

-- ---- the invariants behind it

-- a message brings the directory this place
pub record Brings (dir : FileId) (removal : Place) (m : Message) : Type 0 where
  pub ends : Ends
  pub tag : ℕ
  pub is : m ≡ message.Cell ends tag (cell.Place removal)
  pub here : ends.file ≡ dir

-- what a message was sent with is a front of the removals
abbrev pub IsDated : World → Sent → Type 0
IsDated w m = m.packet.view ≤ length (removals w.journal)

-- known: what the remover knew of names before it removed the directory
-- passed: its time is past there
-- there: a server in whose view the remover is not removed has the removal only with what was known
-- brought: where a message of such a view brings the removal, the replica to which it goes knows as
--   much, or is gone
pub record IsGated (servers : ℕ) (known : NamesValue) (dir : FileId) (removal : Place) (w : World)
    : Type 0 where
  pub passed : removal.stamp.time ≤ (w.stores removal.stamp.server).names.last
  pub there : AtEach servers (λ s. IsStillThere (removed_of (w.stores s)) removal
      → place_at (w.stores s).names dir ≡ removal
      → KnowsChildren dir known (w.stores s).names)
  pub brought : All (λ m. (b : Brings dir removal m.packet.message) → IsDated w m
      × (IsStillThere (removed_by w m.packet.view) removal → 1 ≤ m.to → m.to ≤ servers
      → KnowsOrOver dir known (w.stores m.to) b.ends.receiver)) (mail w.journal)

-- no server knows this place of the directory, and no message ever brought it; unless its maker is
-- removed in the view
pub record IsUnknown (servers : ℕ) (dir : FileId) (place : Place) (w : World) : Type 0 where
  pub there : AtEach servers (λ s. IsStillThere (removed_of (w.stores s)) place
      → place_at (w.stores s).names dir ≢ place)
  pub brought : All (λ m. Brings dir place m.packet.message → IsDated w m
      × ¬ (IsStillThere (removed_by w m.packet.view) place)) (mail w.journal)

-- and so it is until its maker has come to its time
abbrev pub IsUnknownAtFirst : ℕ → FileId → Place → World → Type 0
IsUnknownAtFirst servers dir place w =
    (w.stores place.stamp.server).names.last < place.stamp.time → IsUnknown servers dir place w
