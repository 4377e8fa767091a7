use Rattle.std.proofs.Common.{◌≡◌, drop}
use Rattle.std.specs.List.{filter, find}
use Rattle.pg_names.specs.Names.{directories, is_dir}
use Rattle.pg_house.specs.Returning.{first_returning, is_returning}
use Rattle.pg_house.proofs.returning.first_returning.Given as goal

abbrev pub invariant-loop-dir : goal.invariant-loop-dir
invariant-loop-dir l = find (is_returning l.names) (filter is_dir (drop l.dir-index l.dir-items)) ≡ first_returning l.names (directories l.names)
