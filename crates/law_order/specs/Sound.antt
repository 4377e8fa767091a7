-- What holds of each server of a run, besides what the house rules keep.
use Rattle.std.specs.Prelude.{ℕ, ◌≡◌, true, false, length}
use Rattle.std.specs.List.Sorted.{IsStrictlySortedBy}
use Rattle.std.specs.Map.{keys_of}
use Rattle.law_frame.specs.pg_run.pg_base.declared.id.FileId.{FileId}
use Rattle.law_frame.specs.pg_run.pg_base.Id.{file_cmp}
use Rattle.law_frame.specs.pg_run.pg_register.Place.{root}
use Rattle.law_frame.specs.pg_run.pg_names.Names.{NamesValue, directories, is_full}
use Rattle.law_frame.specs.pg_run.pg_house.Cycles.{is_lost}
use Rattle.law_frame.specs.pg_run.pg_house.Facts.{AreOrdered, is_among}
use Rattle.law_frame.specs.pg_run.theory_flood_pieces.Whole.{IsWhole}
use Rattle.law_frame.specs.pg_run.pg_intent.Intents.{HaveOwnKeys}
use Rattle.law_frame.specs.pg_run.pg_store.declared.store.Store.{Store}
use Rattle.law_frame.specs.pg_run.pg_store.Together.{AreBirths}
use Rattle.law_frame.specs.pg_run.Laws.{IsInOrder}
use Rattle.law_order.specs.Saying.{AreIntended, IsSaidOf, Saying}

-- things and the entries of each directory are by id, and the root is held, full
pub record AreTidy (names : NamesValue) : Type 0 where
  pub ordered : AreOrdered names
  pub keys : IsStrictlySortedBy file_cmp (keys_of names.held)
  pub top : is_full names root ≡ true

-- and it is said of all that is known and intended
pub record IsNamed (p : Saying) (a : Store) : Type 0 where
  pub tidy : AreTidy a.names
  pub said : IsSaidOf p a.names
  pub intents : AreIntended p a.intents

-- server s of n
pub record IsSound (p : Saying) (n s : ℕ) (a : Store) : Type 0 where
  pub whole : IsWhole n s a
  pub births : AreBirths a
  pub keys : HaveOwnKeys a.intents
  pub named : IsNamed p a

-- from each held directory the steps up, as many as there are held directories and as many again,
-- come out of the live directories
abbrev pub NoneLost : NamesValue → Type 0
NoneLost names = (dir : FileId) → is_among dir (directories names) ≡ true
    → is_lost names (length (directories names)) dir ≡ false

-- what the house rules leave
pub record IsSettled (names : NamesValue) : Type 0 where
  pub order : IsInOrder names
  pub found : NoneLost names
