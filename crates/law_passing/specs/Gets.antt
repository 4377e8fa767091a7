-- Which replicas take all that is known of a thing when it passes.
use Rattle.std.specs.Prelude.{ℕ, ◌≡◌, true, false, List}
use Rattle.pg_run.specs.pg_base.declared.id.FileId.{FileId}
use Rattle.pg_run.specs.pg_house.Returning.{is_root}
use Rattle.pg_run.specs.Took.{Take, Taker, is_held}
use Rattle.pg_run.specs.Took.Take.{Began, TookFlag, TookPlace, TookVersion}
use Rattle.pg_run.specs.Took.Taker.{InDir, Itself}
use Rattle.pg_run.specs.Passed.{is_back, takes_part}
use Rattle.law_passing.specs.Tells.{KnowsFlag, KnowsPlace}

-- of directories those that are held and take part
pub record IsParty (removed : List ℕ) (takes : List Take) (dir file : FileId) : Type 0 where
  pub moves : is_root file ≡ false
  pub held : is_held dir takes ≡ true
  pub part : takes_part removed file takes dir ≡ true

-- the places
abbrev pub GetsPlaces : List ℕ → List Take → Taker → FileId → Type 0
GetsPlaces removed takes Itself file =
    (is_root file ≡ false) × (is_back removed file takes ≡ false)
GetsPlaces removed takes (InDir dir) file = IsParty removed takes dir file

-- and the flags
abbrev pub GetsFlags : List ℕ → List Take → Taker → FileId → Type 0
GetsFlags removed takes Itself file = is_root file ≡ false
GetsFlags removed takes (InDir dir) file = IsParty removed takes dir file

-- a take that passing brings: all that is held passes, and nothing begins
abbrev pub IsBrought : List ℕ → List Take → Take → Type 0
IsBrought removed takes (TookVersion file stamp) = ⊥
IsBrought removed takes (TookPlace by file place) =
    (is_held file takes ≡ true) × KnowsPlace takes file place × GetsPlaces removed takes by file
IsBrought removed takes (TookFlag by file flag) =
    (is_held file takes ≡ true) × KnowsFlag takes file flag × GetsFlags removed takes by file
IsBrought removed takes (Began file) = ⊥
