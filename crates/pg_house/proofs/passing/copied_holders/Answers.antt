use Rattle.std.proofs.Common.{◌||◌, ◌+◌, drop, sym, ap, ◌∙◌, List}
use Rattle.std.proofs.lemmas.List.{at_drop_all, at_drop_more}
use Rattle.pg_base.specs.declared.id.FileId.{FileId}
use Rattle.pg_index.specs.Ids.{is_one_of}
use Rattle.pg_house.proofs.Takers.{alone, one_more}
use Rattle.pg_house.proofs.passing.copied_holders.Goals as goal

pub loop-dir-init : goal.loop-dir-init
loop-dir-init c =
    λ q.
    ap (λ (xs : List FileId). is_one_of q xs || is_one_of q c.as_slice-dir-items.result.now) c.new-ids.ensures
    ∙ ap (λ (xs : List FileId). is_one_of q xs) (c.as_slice-dir-items.ensures.ids ∙ c.holders.ensures)

pub loop-dir-preserved : goal.loop-dir-preserved
loop-dir-preserved c =
    λ q.
    let ds = c.as_slice-dir-items.result.now in
    let i = c.loop-dir.dir-index in
    one_more _ q c.loop-dir.ids c.insert.new.self (is_one_of q (drop (i + 1) ds)) (c.in_ok-insert.ensures.ok q)
    ∙ sym (at_drop_more (λ (xs : List FileId). is_one_of q c.loop-dir.ids || is_one_of q xs) ds i _ c.loop-dir-test.true) ∙ c.loop-dir.invariant q

pub returns : goal.returns
returns c =
    λ q.
    let ds = c.as_slice-dir-items.result.now in
    alone (is_one_of q c.loop-dir.ids)
    ∙ sym (at_drop_all (λ (xs : List FileId). is_one_of q c.loop-dir.ids || is_one_of q xs) ds c.loop-dir.dir-index c.loop-dir-test.false) ∙ c.loop-dir.invariant q
