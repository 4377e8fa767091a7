-- The latest of some places, and of each server the newest of some flags: of sets, in no order.
use Rattle.std.specs.Prelude.{ℕ, ◌≡◌, ◌⊎◌, List, Some}
use Rattle.pg_run.specs.pg_base.declared.id.FileId.{FileId}
use Rattle.pg_run.specs.pg_register.declared.flag.Flag.{Flag}
use Rattle.pg_run.specs.pg_register.declared.place.Place.{Place}
use Rattle.pg_run.specs.pg_register.Flag.{IsByServer, flag_of}
use Rattle.pg_run.specs.theory_flood_pieces.UpTo.{IsFlagKnownBy, IsPlaceUpTo}
use Rattle.pg_run.specs.Took.{first_place}

-- ---- places of a thing

-- one of these, or the place of a thing of which none came
abbrev pub IsAnyOf : FileId → (Place → Type 0) → Place → Type 0
IsAnyOf file P place = (place ≡ first_place file) ⊎ P place

-- no two of them have one stamp
abbrev pub HaveOwnStamps : FileId → (Place → Type 0) → Type 0
HaveOwnStamps file P =
    (a b : Place) → IsAnyOf file P a → IsAnyOf file P b → a.stamp ≡ b.stamp → a ≡ b

pub record IsLatest (file : FileId) (P : Place → Type 0) (place : Place) : Type 0 where
  pub there : IsAnyOf file P place
  pub up : (other : Place) → P other → IsPlaceUpTo other place

-- ---- flags of a thing

-- no two flags of a server have one birth and number
abbrev pub HaveOwnNumbers : (Flag → Type 0) → Type 0
HaveOwnNumbers P = (a b : Flag) → P a → P b
    → a.server ≡ b.server → a.birth ≡ b.birth → a.number ≡ b.number → a ≡ b

pub record AreNewest (P : Flag → Type 0) (flags : List Flag) : Type 0 where
  pub sorted : IsByServer flags
  pub there : (server : ℕ) (flag : Flag) → flag_of flags server ≡ Some flag → P flag
  pub up : (flag : Flag) → P flag → IsFlagKnownBy (Some flag) (flag_of flags flag.server)
