use Rattle.std.proofs.Common.{ap, sym, ◌∙◌, ◌+◌, drop}
use Rattle.std.proofs.lemmas.List.{at_drop_more}
use Rattle.pg_store.specs.declared.store.Store.{Store}
use Rattle.pg_store.specs.Views.{cut_each}
use Rattle.pg_store.proofs.store.Store.cut_each.Goals as goal

pub loop-file-preserved : goal.loop-file-preserved
loop-file-preserved c =
    let fs = c.args.files.now in
    let i = c.loop-file.file-index in
    ap (λ (s : Store). cut_each c.args.server s (drop (i + 1) fs)) c.cut.ensures
    ∙ sym (at_drop_more (cut_each c.args.server c.loop-file.self) fs i _ c.loop-file-test.true) ∙ c.loop-file.invariant
