-- What servers intend, and what of the parents of things: behind each event.
use Rattle.std.specs.Prelude.{ℕ, ◌≡◌, ◌≢◌, ◌⊎◌, ◌↔◌, true, false, List, Some}
use Rattle.std.specs.List.{IsAmong}
use Rattle.pg_base.specs.declared.id.FileId.{FileId}
use Rattle.pg_base.specs.Id.{is_same_file}
use Rattle.pg_base.specs.Stamp.{UpTo}
use Rattle.pg_entries.specs.declared.entry.Entry.{Entry}
use Rattle.pg_entries.specs.Entry.{is_listed}
use Rattle.pg_event.specs.declared.event.Event.{Event}
use Rattle.pg_server.specs.pg_pieces.pg_intent.declared.intent.Intent.{Intent}
use Rattle.pg_server.specs.pg_pieces.pg_intent.declared.intent.Intent.TheVariants as intent
use Rattle.pg_server.specs.pg_pieces.pg_intent.declared.key.IntentKey.TheVariants as key
use Rattle.pg_server.specs.pg_pieces.pg_intent.Intent.{target_of}
use Rattle.pg_server.specs.pg_pieces.pg_intent.Intents.{HaveOwnKeys, intent_at, stands}
use Rattle.pg_server.specs.pg_pieces.pg_names.declared.attributes.Attributes.{Attributes}
use Rattle.pg_server.specs.pg_pieces.pg_names.Names.{InodeValue, cell_at, known, own_at}
use Rattle.pg_register.specs.Place.{root}
use Rattle.pg_server.specs.pg_pieces.pg_store.declared.store.Store.{Store}
use Rattle.pg_server.specs.pg_pieces.pg_store.Servers.{is_live_other}
use Rattle.pg_server.specs.pg_pieces.pg_store.Store.{is_full, is_held}
use Rattle.pg_server.specs.pg_pieces.pg_store.Together.{AreBirths, AreTogether}
use Rattle.pg_server.specs.pg_graph.Leaving.{may_still_leave}
use Rattle.pg_server.specs.pg_intentions.Seeks.{is_seeking}
use Rattle.pg_run.specs.Laws.{AtEach, store_after}

-- ---- what is held

-- names and replicas are of the same things, the births of these and of what is to come were given
-- out, and the root is held, full
pub record HoldsBoth (a : Store) : Type 0 where
  pub together : AreTogether a
  pub births : AreBirths a
  pub root : is_full a root ≡ true

-- ---- Fills

-- what is held and filling
abbrev pub IsFilling : Store → FileId → Type 0
IsFilling a file = (x : InodeValue) × (known a.names file ≡ Some x) × (x.full ≡ false)

-- what is not held, and is the parent in the live place of something held that is not the root
pub record IsLackedParent (a : Store) (file : FileId) : Type 0 where
  pub away : is_held a file ≡ false
  pub child : FileId
  pub own : Attributes
  pub held : own_at a.names child ≡ Some own
  pub inner : is_same_file child root ≡ false
  pub live : own.place.live ≡ true
  pub parent : own.place.parent ≡ file

abbrev pub IsToFill : Store → FileId → Type 0
IsToFill a file = IsFilling a file ⊎ IsLackedParent a file

-- a Fill stands of just these
abbrev pub FillsStand : Store → Type 0
FillsStand a = (file : FileId) → stands a.intents (key.Fill file) ≡ true ↔ IsToFill a file

-- CONTAINMENT: the parent in a held live place is held, or a Fill of it stands
abbrev pub ParentsAreHeldOrFilled : Store → Type 0
ParentsAreHeldOrFilled a = (file : FileId) (own : Attributes) → own_at a.names file ≡ Some own
    → is_same_file file root ≡ false → own.place.live ≡ true
    → (is_held a own.place.parent ≡ true)
    ⊎ (stands a.intents (key.Fill own.place.parent) ≡ true)

-- ---- Confirms and Patches

-- a Confirm is of a child that the directory lists, and that is not held
abbrev pub ConfirmsStand : Store → Type 0
ConfirmsStand a = (dir child : FileId) → stands a.intents (key.Confirm dir child) ≡ true
    → (cell : Entry) × (cell_at a.names dir child ≡ Some cell) × (is_listed dir cell ≡ true)
    × (is_held a child ≡ false)

-- A Patch is of a held child, for a directory that is not held. The child's own place is that of
-- the Patch or a later one; it is just that where the Patch's place is live in the directory
pub record IsPatchOf (a : Store) (dir : FileId) (entry : Entry) : Type 0 where
  pub away : is_held a dir ≡ false
  pub own : Attributes
  pub held : own_at a.names entry.child ≡ Some own
  pub upto : UpTo entry.place.stamp own.place.stamp
  pub same : entry.place.live ≡ true → entry.place.parent ≡ dir → own.place ≡ entry.place

abbrev pub PatchesStand : Store → Type 0
PatchesStand a = (dir child : FileId) (entry : Entry) (target : ℕ)
    → intent_at a.intents (key.Patch dir child) ≡ Some (intent.Patch dir entry target)
    → IsPatchOf a dir entry

-- ---- Seeks

-- a Seek stands of just what seeks: a gold replica that sees a live gold of another server to which
-- it has no edge, and a bronze one that has no edge to a live gold which it sees
abbrev pub SeeksStand : Store → Type 0
SeeksStand a = (file : FileId) → stands a.intents (key.Seek file) ≡ is_seeking a file

-- ---- Leaves

-- a Leave is of what is held, and is not the root, to a peer that is listed with the birth, and
-- whose flag of that birth is raised
abbrev pub LeavesStand : Store → Type 0
LeavesStand a = (file : FileId) (peer birth : ℕ)
    → intent_at a.intents (key.Leave file) ≡ Some (intent.Leave file peer birth)
    → (is_held a file ≡ true) × (is_same_file file root ≡ false)
    × (may_still_leave a file peer birth ≡ true)

-- ---- all

-- targets: another live server is asked, or nobody where there is none
pub record IntendsInOrder (a : Store) : Type 0 where
  pub held : HoldsBoth a
  pub keys : HaveOwnKeys a.intents
  pub fills : FillsStand a
  pub contained : ParentsAreHeldOrFilled a
  pub confirms : ConfirmsStand a
  pub patches : PatchesStand a
  pub seeks : SeeksStand a
  pub leaves : LeavesStand a
  pub targets : (i : Intent) → IsAmong a.intents i → target_of i ≢ 0
      → is_live_other a (target_of i) ≡ true

-- what each server intends is decided by what it holds, behind each event
abbrev pub IntentionsAreInOrder : ℕ → Type 0
IntentionsAreInOrder servers = (events : List Event)
    → AtEach servers (λ s. IntendsInOrder (store_after servers events s))
