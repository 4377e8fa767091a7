-- All servers of a run: each knows just what its replicas took, and that was made in the run or was
-- there at the start.
use Rattle.std.specs.Prelude.{ℕ, ◌≡◌, false, List, []}
use Rattle.pg_run.specs.pg_base.declared.id.FileId.{FileId}
use Rattle.pg_run.specs.pg_base.declared.id.Kind.{Kind}
use Rattle.pg_run.specs.pg_content.Content.{Among}
use Rattle.pg_run.specs.pg_register.declared.flag.Flag.{Flag}
use Rattle.pg_run.specs.pg_register.declared.place.Place.{Place}
use Rattle.pg_run.specs.pg_event.declared.event.Event.{Event}
use Rattle.pg_run.specs.pg_store.declared.store.Store.{Store}
use Rattle.pg_run.specs.pg_store.Beginning.{patches_of}
use Rattle.pg_run.specs.pg_store.Seen.{removed_of}
use Rattle.pg_run.specs.pg_store.Store.{is_held}
use Rattle.pg_run.specs.pg_calls.Naming.{next_id}
use Rattle.pg_run.specs.Intending.{IntendsInOrder, IntentionsAreInOrder}
use Rattle.pg_run.specs.Known.{CarriedIsKnown, FlagsHaveOwnNumbers, IsAllKnown, IsFlagOf, IsPlaceOf, PlacesHaveOwnStamps, Told, of_run}
use Rattle.pg_run.specs.Laws.{AtEach, store_after}
use Rattle.pg_run.specs.Run.{World}
use Rattle.pg_run.specs.Took.{Take}
use Rattle.pg_run.specs.Took.Take.{Began, TookFlag, TookPlace, TookVersion}
use Rattle.law_names.specs.Goes.{Goes}

-- ---- what it stands on, besides what `pg_run` has words for

-- a server knows nothing of the id that it gives out next: it does not hold the thing, and is not
-- to tell anyone of a child of it
pub record IsNewId (a : Store) (file : FileId) : Type 0 where
  pub away : is_held a file ≡ false
  pub untold : patches_of file a.intents ≡ []

abbrev pub NewIdsAreNew : ℕ → Type 0
NewIdsAreNew servers = (events : List Event) → AtEach servers (λ s. (kind : Kind)
    → IsNewId (store_after servers events s) (next_id (store_after servers events s) kind))

-- of one world
pub record StandsOn (servers : ℕ) (w : World) : Type 0 where
  pub known : IsAllKnown servers w
  pub stamps : (file : FileId) (p q : Place) → IsPlaceOf w file p → IsPlaceOf w file q
      → p.stamp ≡ q.stamp → p ≡ q
  pub flags : (file : FileId) (a b : Flag) → IsFlagOf servers w file a → IsFlagOf servers w file b
      → a.server ≡ b.server → a.birth ≡ b.birth → a.number ≡ b.number → a ≡ b
  pub intends : AtEach servers (λ s. IntendsInOrder (w.stores s))
  pub ids : AtEach servers (λ s. (kind : Kind) → IsNewId (w.stores s) (next_id (w.stores s) kind))

-- ---- what holds of each server

-- a place or a flag that a replica took is one of these
abbrev pub IsTakeTold : Told → Take → Type 0
IsTakeTold p (TookVersion file stamp) = Unit {0}
IsTakeTold p (TookPlace by thing place) = p.IsPlace thing place
IsTakeTold p (TookFlag by thing flag) = p.IsFlag thing flag
IsTakeTold p (Began file) = Unit {0}

abbrev pub AreTakesTold : Told → List Take → Type 0
AreTakesTold p takes = (x : Take) → Among x takes → IsTakeTold p x

pub record IsMerged (servers : ℕ) (w : World) (s : ℕ) : Type 0 where
  pub goes : Goes (removed_of (w.stores s)) (w.stores s).names (w.took s)
  pub told : AreTakesTold (of_run servers w) (w.took s)

abbrev pub AreMerged : ℕ → World → Type 0
AreMerged servers w = AtEach servers (IsMerged servers w)

-- ---- of all runs

-- the laws that the merge of names stands on
pub record NamesStandOn (servers : ℕ) : Type 0 where
  pub known : CarriedIsKnown servers
  pub stamps : PlacesHaveOwnStamps servers
  pub flags : FlagsHaveOwnNumbers servers
  pub intends : IntentionsAreInOrder servers
  pub ids : NewIdsAreNew servers
