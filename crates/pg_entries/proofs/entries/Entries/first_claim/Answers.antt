use Rattle.std.proofs.Common.{◌+◌, sym, ap, ◌∙◌, drop}
use Rattle.std.specs.List.{fold}
use Rattle.std.proofs.lemmas.List.{drop_all, drop_more}
use Rattle.pg_entries.specs.Slots.{take_listed}
use Rattle.pg_entries.proofs.Finding.{first_listed}
use Rattle.pg_entries.proofs.entries.Entries.first_claim.Goals as goal

pub loop-child-preserved : goal.loop-child-preserved
loop-child-preserved c =
    let f = take_listed c.args.self.now c.args.dir c.args.name.now in
    let ids = c.listed-child-items.result.now in
    let i = c.loop-child.child-index in
    ap (λ o. fold f o (drop (i + 1) ids)) c.earlier-first.ensures ∙ sym (ap (fold f c.loop-child.first) (drop_more ids i _ c.loop-child-test.true)) ∙ c.loop-child.invariant

pub returns : goal.returns
returns c =
    let f = take_listed c.args.self.now c.args.dir c.args.name.now in
    let ids = c.listed-child-items.result.now in
    let i = c.loop-child.child-index in
    sym (ap (fold f c.loop-child.first) (drop_all i ids c.loop-child-test.false)) ∙ c.loop-child.invariant
    ∙ first_listed c.args.self.now c.args.dir c.args.name.now c.keeps.ensures.by_child.rising ids c.listed-child-items.ensures
