use Rattle.std.proofs.Common.{ap, sym, ◌∙◌, ◌+◌, drop, List}
use Rattle.std.proofs.lemmas.List.{at_drop_more}
use Rattle.pg_base.specs.declared.id.FileId.{FileId}
use Rattle.pg_store.specs.Wishes.{WishesValue, aim_each}
use Rattle.pg_store.proofs.wishes.Wishes.aim_each.Goals as goal

pub loop-file-preserved : goal.loop-file-preserved
loop-file-preserved c =
    let fs = c.args.files.now in
    let i = c.loop-file.file-index in
    ap (λ (ws : WishesValue). aim_each ws (drop (i + 1) fs) c.args.to) c.aim.ensures
    ∙ sym (at_drop_more (λ (rest : List FileId). aim_each c.loop-file.self rest c.args.to) fs i _ c.loop-file-test.true)
    ∙ c.loop-file.invariant
