use Rattle.std.proofs.Common.{rules, ap, sym, ◌∙◌, drop, ◌+◌, length, Option}
use Rattle.std.proofs.lemmas.List.{at_drop_more}
use Rattle.pg_base.specs.declared.id.FileId.{FileId}
use Rattle.pg_house.specs.Cycles.{first_moving}
use Rattle.pg_house.proofs.cycles.first_of.Goals as goal

pub loop-dir-preserved : goal.loop-dir-preserved
loop-dir-preserved c =
    let s = c.args.names.now in
    let ds = c.args.dirs.now in
    let i = c.loop-dir.dir-index in
    ap (λ (o : Option FileId). first_moving s (length ds) o (drop (i + 1) ds)) c.least_moving-first.ensures
    ∙ sym (at_drop_more (first_moving s (length ds) c.loop-dir.first) ds i _ (search rules)) ∙ c.loop-dir.invariant
