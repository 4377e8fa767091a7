-- The house rules, run until none applies.
use Rattle.std.specs.Prelude.{ℕ, Bool, ◌&&◌, List, length, not}
use Rattle.std.specs.List.{filter}
use Rattle.std.specs.Map.{keys_of}
use Rattle.pg_base.specs.declared.id.FileId.{FileId}
use Rattle.pg_names.specs.Names.{NamesValue, directories, is_held}
use Rattle.pg_house.specs.Work.{State, is_root}
use Rattle.pg_house.specs.Passing.{pass_all}
use Rattle.pg_house.specs.Placing.{repeated}
use Rattle.pg_house.specs.Returning.{return_first}
use Rattle.pg_house.specs.Cycles.{break_first}

-- all that is held but the root
abbrev pub movable : NamesValue → List FileId
movable names = filter (λ file. not (is_root file)) (keys_of names.held)

-- a thing is held, and not the root
abbrev pub is_movable : NamesValue → FileId → Bool
is_movable names file = not (is_root file) && is_held names file

-- these things pass, then directories come back, and then cycles break: each at most once for each
-- directory. A new place passes at once
abbrev pub house_with : ℕ → List FileId → List FileId → State → State
house_with moment dirs files st =
    repeated (length dirs) (break_first moment dirs)
    (repeated (length dirs) (return_first moment dirs) (pass_all st dirs files))

-- all that is held passes
abbrev pub house : ℕ → State → State
house moment st = house_with moment (directories st.names) (movable st.names) st
