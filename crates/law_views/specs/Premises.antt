-- What the laws of views stand on.
use Rattle.std.specs.Prelude.{ℕ, ◌≡◌, ◌≤◌, All, List, Some}
use Rattle.law_frame.specs.pg_run.pg_base.declared.id.FileId.{FileId}
use Rattle.law_frame.specs.pg_run.pg_entries.declared.entry.Entry.{Entry}
use Rattle.law_frame.specs.pg_run.pg_event.declared.event.Event.{Event}
use Rattle.law_frame.specs.pg_run.pg_names.Names.{NamesValue, cell_at}
use Rattle.law_frame.specs.pg_run.theory_flood_pieces.Whole.{IsWhole}
use Rattle.law_frame.specs.pg_run.pg_register.declared.flag.Flag.{Flag}
use Rattle.law_frame.specs.pg_run.Laws.{AtEach, names_after, store_after}

-- a flag is one of the run's servers
pub record IsFlagOf (servers : ℕ) (flag : Flag) : Type 0 where
  pub least : 1 ≤ flag.server
  pub most : flag.server ≤ servers

-- and so are all that are in the cells of directories
abbrev pub FlagsAreOf : ℕ → NamesValue → Type 0
FlagsAreOf servers names = (dir child : FileId) (e : Entry) → cell_at names dir child ≡ Some e
    → All (IsFlagOf servers) e.flags

-- whole: each server is whole
-- flags: all flags in cells are of the run's servers
pub record StandOn (servers : ℕ) : Type 0 where
  pub whole : (events : List Event)
      → AtEach servers (λ s. IsWhole servers s (store_after servers events s))
  pub flags : (events : List Event)
      → AtEach servers (λ s. FlagsAreOf servers (names_after servers events s))
