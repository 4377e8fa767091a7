use Rattle.std.proofs.Common.{◌≡◌, drop}
use Rattle.std.specs.List.{filter, slice_get}
use Rattle.pg_names.specs.Names.{is_dir}
use Rattle.pg_house.specs.Holding.{held_back, is_dir_back}
use Rattle.pg_house.proofs.holding.first_held_back.Given as goal

abbrev pub invariant-loop-file : goal.invariant-loop-file
invariant-loop-file l =
    slice_get (filter (is_dir_back l.names) (filter is_dir (drop l.file-index l.file-items))) 0 ≡ slice_get (held_back l.names) 0
