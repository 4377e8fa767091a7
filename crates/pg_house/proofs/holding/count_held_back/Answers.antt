use Rattle.std.proofs.Common.{rules, ◌≡◌, ◌&&◌, ◌∙◌}
use Rattle.std.specs.List.{count_by}
use Rattle.pg_names.specs.Names.{is_dir}
use Rattle.pg_house.specs.Holding.{is_dir_back}
use Rattle.pg_house.proofs.Dirty.{dirty_count}
use Rattle.pg_house.proofs.holding.count_held_back.Goals as goal

pub returns : goal.returns
returns c =
    let s = c.args.names.now in
    let ids = c.dirty_things.result.now in
    let d = c.dirty_things.ensures in
    let by : c.count.result ≡ count_by (λ q. is_dir q && is_dir_back s q) ids = search rules in
    by ∙ dirty_count s ids d.sorted d.ordered d.calm
