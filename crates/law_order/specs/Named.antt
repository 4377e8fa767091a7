-- What holds of all ids, names, parents and flags that are known anywhere in a run.
use Rattle.std.specs.Prelude.{ℕ, ◌≡◌, ◌≢◌, ◌≤◌, ◌<◌, ◌^◌, ◌⊎◌, true, false, All}
use Rattle.law_frame.specs.pg_run.pg_base.declared.id.FileId.{FileId}
use Rattle.law_frame.specs.pg_run.pg_base.Id.{is_same_file}
use Rattle.law_frame.specs.pg_run.pg_register.declared.flag.Flag.{Flag}
use Rattle.law_frame.specs.pg_run.pg_register.declared.place.Place.{Place}
use Rattle.law_frame.specs.pg_run.pg_register.Place.{root, root_place, tilde_name}
use Rattle.law_frame.specs.pg_run.pg_names.Names.{is_dir}
use Rattle.law_order.specs.Saying.{Saying}

-- one of the servers gave the id out, where each gave out so many
pub record IsBorn (servers : ℕ) (files : ℕ → ℕ) (file : FileId) : Type 0 where
  pub least : 1 ≤ file.server
  pub most : file.server ≤ servers
  pub number : file.number < 2 ^ 64
  pub given : file.number ≤ files file.server

abbrev pub IsMade : ℕ → (ℕ → ℕ) → FileId → Type 0
IsMade servers files file = (file ≡ root) ⊎ IsBorn servers files file

-- a place of a thing: its parent was made, and is a directory; the root has its first place, and
-- any other thing a client's name or the one that is made of its id
pub record IsWell (servers : ℕ) (files : ℕ → ℕ) (file : FileId) (place : Place) : Type 0 where
  pub parent : IsMade servers files place.parent
  pub dir : is_dir place.parent ≡ true
  pub first : is_same_file file root ≡ true → place ≡ root_place
  pub name : is_same_file file root ≡ false
      → (All (λ byte. byte ≢ 126) place.name) ⊎ (place.name ≡ tilde_name file)

-- one of the run's servers
abbrev pub IsServerOf : ℕ → ℕ → Type 0
IsServerOf servers server = (1 ≤ server) × (server ≤ servers)

-- a flag is one of the run's servers
pub record IsOfServer (servers : ℕ) (flag : Flag) : Type 0 where
  pub least : 1 ≤ flag.server
  pub most : flag.server ≤ servers

-- and no directory has a cell for the root
abbrev pub naming : ℕ → (ℕ → ℕ) → Saying
naming servers files = record {
  IsThing = IsMade servers files;
  IsPlace = IsWell servers files;
  IsFlag = IsOfServer servers;
  IsChild = λ file. is_same_file file root ≡ false;
  IsServer = IsServerOf servers;
}
