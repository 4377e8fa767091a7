use Rattle.std.proofs.Common.{◌≡◌, drop}
use Rattle.std.specs.List.{filter}
use Rattle.pg_names.specs.Names.{directories, is_dir}
use Rattle.pg_house.specs.Holding.{latest}
use Rattle.pg_house.proofs.holding.latest.Given as goal

abbrev pub invariant-loop-dir : goal.invariant-loop-dir
invariant-loop-dir l =
    latest l.names l.file l.top (filter is_dir (drop l.dir-index l.dir-items)) ≡ latest l.names l.file l.own (directories l.names)
