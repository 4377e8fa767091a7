-- Passing, on the updates that a server's replicas took: what a thing's replica and the directories
-- that know of it took comes to all of them.
use Rattle.std.specs.Prelude.{ℕ, Bool, false, ◌&&◌, ◌||◌, not, if◌then◌else◌, List, [], ◌∷◌, ◌++◌, map}
use Rattle.std.specs.List.{filter, flat_map, list_any}
use Rattle.pg_base.specs.declared.id.FileId.{FileId}
use Rattle.pg_base.specs.Id.{is_same_file}
use Rattle.pg_base.specs.Stamp.{is_before}
use Rattle.pg_register.specs.declared.flag.Flag.{Flag}
use Rattle.pg_register.specs.declared.place.Place.{Place}
use Rattle.pg_register.specs.Flag.{is_removed}
use Rattle.pg_server.specs.pg_pieces.pg_names.Names.{is_dir}
use Rattle.pg_server.specs.pg_pieces.pg_msg.declared.update.Update.{Update}
use Rattle.pg_server.specs.pg_pieces.pg_house.Passing.{is_in, is_update}
use Rattle.pg_server.specs.pg_pieces.pg_house.Returning.{is_root}
use Rattle.pg_run.specs.Took.{Take, Taker, held, is_same_taker, latest_place, own_place, take_of}
use Rattle.pg_run.specs.Took.Take.{Began, TookFlag, TookPlace, TookVersion}
use Rattle.pg_run.specs.Took.Taker.{InDir, Itself}

-- ---- what is known of a thing at a server, by whichever replica

abbrev pub place_known_by : FileId → Take → List Place
place_known_by thing (TookVersion file stamp) = []
place_known_by thing (TookPlace by t place) = if is_same_file t thing then place ∷ [] else []
place_known_by thing (TookFlag by t flag) = []
place_known_by thing (Began file) = []

abbrev pub places_known : FileId → List Take → List Place
places_known thing takes = flat_map (place_known_by thing) takes

abbrev pub flag_known_by : FileId → Take → List Flag
flag_known_by thing (TookVersion file stamp) = []
flag_known_by thing (TookPlace by t place) = []
flag_known_by thing (TookFlag by t flag) = if is_same_file t thing then flag ∷ [] else []
flag_known_by thing (Began file) = []

abbrev pub flags_known : FileId → List Take → List Flag
flags_known thing takes = flat_map (flag_known_by thing) takes

-- the greatest place
abbrev pub top : FileId → List Take → Place
top thing takes = latest_place thing (places_known thing takes)

-- it is held back: of a directory, dead, later than the own place, and its maker is not removed
abbrev pub is_back : List ℕ → FileId → List Take → Bool
is_back removed thing takes = is_dir thing && (not (top thing takes).live
    && (is_before (own_place thing takes).stamp (top thing takes).stamp
    && not (is_removed removed (top thing takes).stamp.server)))

-- ---- which directories take part

abbrev pub has_taken : FileId → FileId → Take → Bool
has_taken dir thing (TookVersion file stamp) = false
has_taken dir thing (TookPlace by t place) =
    is_same_taker by (InDir dir) && is_same_file t thing
has_taken dir thing (TookFlag by t flag) = is_same_taker by (InDir dir) && is_same_file t thing
has_taken dir thing (Began file) = false

-- a directory has a cell for the thing, where it took an update of it
abbrev pub has_cell : FileId → FileId → List Take → Bool
has_cell dir thing takes = list_any (has_taken dir thing) takes

-- and the parent in the greatest place gets one; and where that is held back, the parent in the
-- thing's own live place
abbrev pub takes_part : List ℕ → FileId → List Take → FileId → Bool
takes_part removed thing takes dir = is_dir dir && (has_cell dir thing takes
    || ((is_update (top thing takes) && is_in dir (top thing takes))
    || (is_back removed thing takes
    && ((own_place thing takes).live && is_in dir (own_place thing takes)))))

-- of the directories that are held
abbrev pub parties : List ℕ → FileId → List Take → List FileId
parties removed thing takes = filter (takes_part removed thing takes) (held takes)

-- ---- what passes

-- all that is known of a thing, as taken by a replica
abbrev pub places_to : FileId → List Take → Taker → List Take
places_to thing takes by = map (TookPlace by thing) (places_known thing takes)

abbrev pub flags_to : FileId → List Take → Taker → List Take
flags_to thing takes by = map (TookFlag by thing) (flags_known thing takes)

abbrev pub all_to : FileId → List Take → Taker → List Take
all_to thing takes by = places_to thing takes by ++ flags_to thing takes by

-- as taken by that of a directory
abbrev pub all_to_dir : FileId → List Take → FileId → List Take
all_to_dir thing takes dir = all_to thing takes (InDir dir)

-- the thing takes all, or of a place that is held back the flags only
abbrev pub own_takes : List ℕ → FileId → List Take → List Take
own_takes removed thing takes =
    if is_back removed thing takes then flags_to thing takes Itself else all_to thing takes Itself

abbrev pub passes : List ℕ → List Take → FileId → List Take
passes removed takes thing =
    if is_root thing then []
    else own_takes removed thing takes
    ++ flat_map (all_to_dir thing takes) (parties removed thing takes)

-- what the replicas took behind passing: all that is held passes
abbrev pub passed : List ℕ → List Take → List Take
passed removed takes = flat_map (passes removed takes) (held takes) ++ takes

-- and behind each update that a house rule made
abbrev pub passed_with : List ℕ → List Take → List Update → List Take
passed_with removed takes [] = takes
passed_with removed takes (u ∷ us) =
    passed_with removed (passed removed (take_of u ∷ takes)) us
