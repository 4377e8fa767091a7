-- Stamps are drawn once: statements on all runs.
use Rattle.std.specs.Prelude.{ℕ, ◌≢◌, Contains, List}
use Rattle.pg_run.specs.pg_base.declared.id.FileId.{FileId}
use Rattle.pg_run.specs.pg_event.declared.event.Event.{Event}
use Rattle.pg_run.specs.pg_register.declared.place.Place.{Place}
use Rattle.pg_run.specs.Histories.{OneVersionAStamp}
use Rattle.pg_run.specs.Journal.{Born}
use Rattle.pg_run.specs.Known.{WasMade}
use Rattle.pg_run.specs.Run.{run}
use Rattle.law_places.specs.Laws.{OneMadePlaceAStamp}

-- no version that was made has the stamp of a place that was made, be it of another thing
abbrev pub VersionsAreNoPlaces : ℕ → Type 0
VersionsAreNoPlaces servers = (events : List Event) (u : Born) (file : FileId) (place : Place)
    → Contains (run servers events).history u → WasMade (run servers events).journal file place
    → u.made.stamp ≢ place.stamp

-- ONE STAMP: no two versions or places that were made have one stamp, be they of two things
pub record OneStampEach (servers : ℕ) : Type 0 where
  pub versions : OneVersionAStamp servers
  pub places : OneMadePlaceAStamp servers
  pub apart : VersionsAreNoPlaces servers
