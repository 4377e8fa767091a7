-- Which cells are up to others: whoever holds the second covers the first.
use Rattle.std.specs.Prelude.{ℕ, ◌≡◌, false, List, Option, None, Some}
use Rattle.pg_base.specs.Stamp.{UpTo}
use Rattle.pg_base.specs.Version.{VersionValue}
use Rattle.pg_content.specs.Covering.{IsVectorUpTo}
use Rattle.pg_register.specs.declared.flag.Flag.{Flag}
use Rattle.pg_register.specs.declared.place.Place.{Place}
use Rattle.pg_register.specs.Flag.{flag_of, is_older}
use Rattle.pg_entries.specs.declared.cell.Cell.{Cell}
use Rattle.pg_entries.specs.declared.cell.Cell.TheVariants as cell
use Rattle.pg_entries.specs.declared.entry.Entry.{Entry}

-- a place is up to one whose stamp is not before its own
abbrev pub IsPlaceUpTo : Place → Place → Type 0
IsPlaceUpTo a b = UpTo a.stamp b.stamp

-- a flag is up to one of its server that is not older
abbrev pub IsFlagUpTo : Flag → Flag → Type 0
IsFlagUpTo a b = (a.server ≡ b.server) × (is_older b a ≡ false)

-- what one knows of a flag is up to what another does
abbrev pub IsFlagKnownBy : Option Flag → Option Flag → Type 0
IsFlagKnownBy None b = Unit {0}
IsFlagKnownBy (Some a) None = ⊥
IsFlagKnownBy (Some a) (Some b) = IsFlagUpTo a b

-- and so of each server
abbrev pub AreFlagsUpTo : List Flag → List Flag → Type 0
AreFlagsUpTo a b = (server : ℕ) → IsFlagKnownBy (flag_of a server) (flag_of b server)

-- an entry is up to one of its child, with its place and each flag
pub record IsEntryUpTo (a b : Entry) : Type 0 where
  pub child : a.child ≡ b.child
  pub place : IsPlaceUpTo a.place b.place
  pub flags : AreFlagsUpTo a.flags b.flags

-- a version is up to one that knows what it knows
abbrev pub IsVersionUpTo : VersionValue → VersionValue → Type 0
IsVersionUpTo a b = IsVectorUpTo a.head.vector b.head.vector

-- cells of two kinds say nothing of each other
abbrev pub IsUpTo : Cell → Cell → Type 0
IsUpTo (cell.Place a) (cell.Place b) = IsPlaceUpTo a b
IsUpTo (cell.Flag a) (cell.Flag b) = IsFlagUpTo a b
IsUpTo (cell.Entry a sure) (cell.Entry b known) = IsEntryUpTo a b
IsUpTo (cell.Version a) (cell.Version b) = IsVersionUpTo a b
IsUpTo _ _ = ⊥
