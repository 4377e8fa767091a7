use Rattle.std.proofs.Common.{List, subst, ◌+◌, drop}
use Rattle.std.proofs.lemmas.List.{drop_more}
use Rattle.pg_base.specs.declared.id.FileId.{FileId}
use Rattle.pg_walkers.specs.Walkers.{AreListed}
use Rattle.pg_walkers.proofs.Relisted.{one_listed}
use Rattle.pg_walkers.proofs.walkers.relist_each.Goals as goal

pub loop-file-preserved : goal.loop-file-preserved
loop-file-preserved c =
    let fs = c.args.files.now in
    let i = c.loop-file.file-index in
    let P : List FileId → Type 0 = AreListed c.args.names.now c.args.replicas.now c.loop-file.walkers in
    one_listed c.args.names.now c.args.replicas.now _ c.loop-file.walkers c.relist.new.walkers (drop (i + 1) fs) c.in_ok-relist.ensures
    (subst P (drop_more fs i _ c.loop-file-test.true) c.loop-file.invariant)
