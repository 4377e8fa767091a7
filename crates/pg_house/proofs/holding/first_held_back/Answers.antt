use Rattle.std.proofs.Common.{ap, ◌∙◌, List}
use Rattle.std.specs.List.{filter, slice_get}
use Rattle.pg_base.specs.declared.id.FileId.{FileId}
use Rattle.pg_names.specs.Names.{is_dir}
use Rattle.pg_house.specs.Holding.{is_dir_back}
use Rattle.pg_house.proofs.Dirty.{dirty_back}
use Rattle.pg_house.proofs.holding.first_held_back.Goals as goal

pub loop-file-init : goal.loop-file-init
loop-file-init c =
    let s = c.args.names.now in
    let d = c.dirty_things.ensures in
    ap (λ (xs : List FileId). slice_get (filter (is_dir_back s) (filter is_dir xs)) 0)
    c.as_slice-file-items.ensures.ids
    ∙ ap (λ (xs : List FileId). slice_get xs 0) (dirty_back s c.dirty_things.result.now d.sorted d.ordered d.calm)
