use Rattle.std.proofs.Common.{ap, sym, ◌∙◌, ◌+◌, drop, Option}
use Rattle.std.proofs.lemmas.List.{at_drop_more}
use Rattle.pg_base.specs.declared.id.FileId.{FileId}
use Rattle.pg_checks.specs.Asking.{latest}
use Rattle.pg_checks.proofs.listing.last_cell.Goals as goal

pub loop-dir-preserved : goal.loop-dir-preserved
loop-dir-preserved c =
    let names = c.args.names.now in
    let ds = c.args.dirs.now in
    let i = c.loop-dir.dir-index in
    ap (λ (o : Option FileId). latest names c.args.id o (drop (i + 1) ds)) c.later-latest.ensures
    ∙ sym (at_drop_more (latest names c.args.id c.loop-dir.latest) ds i _ c.loop-dir-test.true) ∙ c.loop-dir.invariant
