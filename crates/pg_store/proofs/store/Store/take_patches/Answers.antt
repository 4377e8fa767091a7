use Rattle.std.proofs.Common.{ap, sym, ◌∙◌, ◌+◌, drop}
use Rattle.std.proofs.lemmas.List.{at_drop_more}
use Rattle.pg_store.specs.declared.store.Store.{Store}
use Rattle.pg_store.specs.Beginning.{take_patches}
use Rattle.pg_store.proofs.store.Store.take_patches.Goals as goal

pub loop-key-preserved : goal.loop-key-preserved
loop-key-preserved c =
    let ks = c.as_slice-key-items.result.now in
    let i = c.loop-key.key-index in
    ap (λ (s : Store). take_patches s c.args.dir (drop (i + 1) ks)) c.in_ok-take_patch.ensures
    ∙ sym (at_drop_more (take_patches c.loop-key.self c.args.dir) ks i _ c.loop-key-test.true) ∙ c.loop-key.invariant
