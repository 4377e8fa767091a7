use Rattle.std.proofs.Common.{ap, sym, ◌∙◌, ◌+◌, drop, filter, List, Option}
use Rattle.std.proofs.lemmas.List.{at_drop_more}
use Rattle.pg_base.specs.declared.id.FileId.{FileId}
use Rattle.pg_checks.specs.Asking.{latest}
use Rattle.pg_checks.specs.Listing.{lists_in}
use Rattle.pg_checks.proofs.Holders.{one_listing}
use Rattle.pg_checks.proofs.listing.last_listing.Goals as goal

pub loop-dir-preserved : goal.loop-dir-preserved
loop-dir-preserved c =
    let names = c.args.names.now in
    let ds = c.args.dirs.now in
    let i = c.loop-dir.dir-index in
    ap (λ (o : Option FileId). latest names c.args.id o (filter (lists_in names c.args.id) (drop (i + 1) ds))) c.later_listing-latest.ensures
    ∙ one_listing names c.args.id c.loop-dir.latest _ (drop (i + 1) ds)
    ∙ sym (at_drop_more (λ (rest : List FileId). latest names c.args.id c.loop-dir.latest (filter (lists_in names c.args.id) rest)) ds i _ c.loop-dir-test.true)
    ∙ c.loop-dir.invariant
