-- What other laws say of every run, on which those of quiet runs rest.
use Rattle.std.specs.Prelude.{ℕ, ◌≡◌, true, List, Some}
use Rattle.pg_run.specs.pg_base.declared.id.FileId.{FileId}
use Rattle.pg_run.specs.pg_entries.declared.entry.Entry.{Entry}
use Rattle.pg_run.specs.pg_event.declared.event.Event.{Event}
use Rattle.pg_run.specs.pg_names.declared.attributes.Attributes.{Attributes}
use Rattle.pg_run.specs.pg_names.Names.{InodeValue, NamesValue, cell_at, directories, is_dir, known, own_at, own_or_blank}
use Rattle.pg_run.specs.pg_base.Id.{is_same_file}
use Rattle.pg_run.specs.pg_base.Stamp.{is_before}
use Rattle.pg_run.specs.pg_register.Place.{first_stamp, root, root_place}
use Rattle.pg_run.specs.pg_house.Cycles.{is_lost}
use Rattle.pg_run.specs.pg_house.Facts.{is_among}
use Rattle.pg_run.specs.pg_store.declared.store.Store.{Store}
use Rattle.pg_run.specs.pg_store.Store.{is_full}
use Rattle.pg_run.specs.theory_flood_pieces.Whole.{IsWhole}
use Rattle.std.specs.Prelude.{false, length}
use Rattle.pg_run.specs.Acknowledged.{AcknowledgedKeysAreHad}
use Rattle.pg_run.specs.Histories.{MakesHistories, StateIsItsHeads}
use Rattle.pg_run.specs.Intending.{IntentionsAreInOrder}
use Rattle.pg_run.specs.Known.{CarriedIsKnown, FlagsHaveOwnNumbers, PlacesHaveOwnStamps}
use Rattle.pg_run.specs.Laws.{AtEach, HoldsWhatItTook, HouseIsInOrder, ShowsDistinctNames, names_after, store_after}
use Rattle.pg_run.specs.Views.{ViewsArePrefixes}
use Rattle.law_listings.specs.Laws.{ListingsAreKept}

-- each server of a run is whole
abbrev pub ServersAreWhole : ℕ → Type 0
ServersAreWhole servers = (events : List Event)
    → AtEach servers (λ s. IsWhole servers s (store_after servers events s))

-- for agreement: what is acknowledged is there, one stamp is one place, one birth and number of a
-- server is one flag, and contents are what was taken; and edges lead to servers that are not
-- removed in the view of who has them
pub record AgreementIsGiven (servers : ℕ) : Type 0 where
  pub acknowledged : AcknowledgedKeysAreHad servers
  pub known : CarriedIsKnown servers
  pub stamps : PlacesHaveOwnStamps servers
  pub flags : FlagsHaveOwnNumbers servers
  pub whole : ServersAreWhole servers
  pub histories : MakesHistories servers
  pub heads : StateIsItsHeads servers
  pub took : HoldsWhatItTook servers
  pub views : ViewsArePrefixes servers

-- ---- names

-- what is said of the places that a server knows
-- dirs: whatever is held stands in a directory; first: the root in itself
-- inner: no directory has a cell for the root
-- found: from each held directory the steps up come out of the live directories
-- distinct: no directory shows two children by one name
pub record AreNamedWell (names : NamesValue) : Type 0 where
  pub dirs : (file : FileId) (own : Attributes) → own_at names file ≡ Some own
      → is_dir own.place.parent ≡ true
  pub first : (own : Attributes) → own_at names root ≡ Some own → own.place ≡ root_place
  pub inner : (dir : FileId) (e : Entry) → cell_at names dir root ≡ Some e → ⊥
  pub found : (dir : FileId) → is_among dir (directories names) ≡ true
      → is_lost names (length (directories names)) dir ≡ false
  pub distinct : (dir : FileId) (x : InodeValue) → known names dir ≡ Some x
      → ShowsDistinctNames dir x

abbrev pub NamesAreWell : ℕ → Type 0
NamesAreWell servers = (events : List Event)
    → AtEach servers (λ s. AreNamedWell (names_after servers events s))

-- whatever is full, but the root, has a place that some server made
abbrev pub ArePlaced : Store → Type 0
ArePlaced a = (file : FileId) → is_full a file ≡ true → is_same_file file root ≡ false
    → is_before first_stamp (own_or_blank a.names file).place.stamp ≡ true

abbrev pub FullThingsArePlaced : ℕ → Type 0
FullThingsArePlaced servers = (events : List Event)
    → AtEach servers (λ s. ArePlaced (store_after servers events s))

-- for the tree: what the house rules and the intentions leave, and that listings are kept
pub record TreeIsGiven (servers : ℕ) : Type 0 where
  pub agree : AgreementIsGiven servers
  pub order : HouseIsInOrder servers
  pub intends : IntentionsAreInOrder servers
  pub names : NamesAreWell servers
  pub placed : FullThingsArePlaced servers
  pub listed : ListingsAreKept servers
