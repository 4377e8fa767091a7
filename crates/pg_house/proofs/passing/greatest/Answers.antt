use Rattle.std.proofs.Common.{rules, ap, sym, ◌∙◌, drop, ◌+◌}
use Rattle.std.proofs.lemmas.List.{at_drop_more}
use Rattle.pg_names.specs.declared.attributes.Attributes.{Attributes}
use Rattle.pg_house.specs.Passing.{greatest}
use Rattle.pg_house.proofs.passing.greatest.Goals as goal

pub loop-dir-preserved : goal.loop-dir-preserved
loop-dir-preserved c =
    let s = c.args.names.now in
    let f = c.args.file.now in
    let ds = c.args.dirs.now in
    let i = c.loop-dir.dir-index in
    ap (λ (t : Attributes). greatest s f t (drop (i + 1) ds)) c.in_ok-raise_by.ensures
    ∙ sym (at_drop_more (greatest s f c.loop-dir.top) ds i _ (search rules)) ∙ c.loop-dir.invariant
