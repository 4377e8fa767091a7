use Rattle.std.proofs.Common.{rules, ◌≡◌}
use Rattle.std.specs.List.{filter}
use Rattle.pg_house.specs.House.{is_movable}
use Rattle.pg_house.proofs.Dirty.{dirty_pass}
use Rattle.pg_house.proofs.rules.to_pass.Goals as goal

pub returns : goal.returns
returns c =
    let s = c.args.names.now in
    let ids = c.dirty_things.result.now in
    let d = c.dirty_things.ensures in
    let are : c.from_vec.result ≡ filter (is_movable s) ids = search rules in
    dirty_pass s ids d.sorted d.ordered d.calm c.from_vec.result are
