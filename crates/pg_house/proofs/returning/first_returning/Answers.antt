use Rattle.std.proofs.Common.{ap, ◌∙◌, List}
use Rattle.std.specs.List.{filter, find}
use Rattle.pg_base.specs.declared.id.FileId.{FileId}
use Rattle.pg_names.specs.Names.{is_dir}
use Rattle.pg_house.specs.Returning.{is_returning}
use Rattle.pg_house.proofs.Dirty.{dirty_returns}
use Rattle.pg_house.proofs.returning.first_returning.Goals as goal

pub loop-dir-init : goal.loop-dir-init
loop-dir-init c =
    let s = c.args.names.now in
    let d = c.dirty_things.ensures in
    ap (λ (xs : List FileId). find (is_returning s) (filter is_dir xs)) c.as_slice-dir-items.ensures.ids
    ∙ dirty_returns s c.dirty_things.result.now d.sorted d.ordered d.calm
