-- A server in the midst of an event: what it knows of names is what its replicas took.
use Rattle.std.specs.Prelude.{ℕ, ◌≡◌, List}
use Rattle.pg_run.specs.pg_names.Names.{NamesValue}
use Rattle.pg_run.specs.pg_house.Facts.{IsLast, IsOfDirs}
use Rattle.pg_run.specs.Took.{Take}
use Rattle.law_passing.specs.Tells.{Tells}

-- with what the house rules ask for besides
pub record Goes (removed : List ℕ) (names : NamesValue) (takes : List Take) : Type 0 where
  pub tells : Tells names takes
  pub dirs : IsOfDirs names
  pub last : IsLast names
  pub same_removed : names.removed ≡ removed
