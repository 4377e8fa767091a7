use Rattle.std.proofs.Common.{ap, ◌∙◌, List}
use Rattle.std.specs.List.{filter}
use Rattle.pg_base.specs.declared.id.FileId.{FileId}
use Rattle.pg_names.specs.Names.{is_dir}
use Rattle.pg_house.specs.Holding.{latest}
use Rattle.pg_house.proofs.Takers.{near_latest}
use Rattle.pg_house.proofs.holding.latest.Goals as goal

pub loop-dir-init : goal.loop-dir-init
loop-dir-init c =
    let s = c.args.names.now in
    let f = c.args.file.now in
    let own = c.args.own.now in
    ap (λ (xs : List FileId). latest s f own (filter is_dir xs)) (c.as_slice-dir-items.ensures.ids ∙ c.holders.ensures) ∙ near_latest s f own
