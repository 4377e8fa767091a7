use Rattle.std.proofs.Common.{ap, sym, ◌∙◌, ◌||◌, ◌+◌, drop}
use Rattle.std.proofs.lemmas.Bool.{or_parts}
use Rattle.std.proofs.lemmas.List.{drop_more}
use Rattle.pg_index.specs.Ids.{is_one_of}
use Rattle.pg_names.proofs.Lookups.{apart_back}
use Rattle.pg_store.proofs.settling.set_of.Goals as goal

pub loop-file-preserved : goal.loop-file-preserved
loop-file-preserved c q free rest =
    let fs = c.args.files.now in
    let i = c.loop-file.file-index in
    let both = or_parts _ _ (sym (c.in_ok-insert.ensures.ok q) ∙ free) in
    c.loop-file.invariant q both.1
    (ap (is_one_of q) (drop_more fs i _ c.loop-file-test.true)
    ∙ ap (λ b. b || is_one_of q (drop (i + 1) fs)) (apart_back _ q both.0) ∙ rest)
