-- What the indexes of names hold.
use Rattle.std.specs.Prelude.{◌≡◌, Bool, ◌&&◌, if◌then◌else◌, List}
use Rattle.pg_base.specs.declared.id.FileId.{FileId}
use Rattle.pg_base.specs.Id.{is_same_file}
use Rattle.pg_index.specs.Ids.{ListsValue, has, is_one_of}
use Rattle.pg_names.specs.declared.spots.Spot.{Spot}
use Rattle.pg_names.specs.declared.spots.Spots.{Spots}
use Rattle.pg_names.specs.Names.{NamesValue, is_dir, is_held}
use Rattle.pg_names.specs.Same.{is_same_truth}
use Rattle.pg_names.specs.Calm.{AllCome, AreCalm, is_holder, is_placed}

-- in which of the two lists, and where there
abbrev pub has_spot : Spots → Bool → FileId → FileId → Bool
has_spot spots live dir file = has (if live then spots.live else spots.dead) dir file

abbrev pub is_same_spot : Spot → Spot → Bool
is_same_spot a b = is_same_truth a.live b.live && is_same_file a.dir b.dir

-- calm, come: what is not marked is calm, and stands in no cycle
-- dirs_are: the held directories
-- spots_are: what stands where
-- holders_are: what has a cell for what
pub record IsIndexed (names : NamesValue) (dirty dirs : List FileId) (spots : Spots)
    (holders : ListsValue) : Type 0 where
  pub calm : AreCalm names dirty
  pub come : AllCome names dirty
  pub dirs_are : (q : FileId) → is_one_of q dirs ≡ (is_dir q && is_held names q)
  pub spots_are : (live : Bool) (dir q : FileId)
      → has_spot spots live dir q ≡ is_placed names live dir q
  pub holders_are : (child dir : FileId) → has holders child dir ≡ is_holder names child dir
