use Rattle.std.proofs.Common.{ap, sym, ◌∙◌, ◌+◌, ◌-◌}
use Rattle.pg_base.specs.declared.id.FileId.{FileId}
use Rattle.pg_house.specs.Cycles.{latest}
use Rattle.pg_house.proofs.Climbing.{latest_next}
use Rattle.pg_house.proofs.cycles.latest_member.Goals as goal

pub loop-i-preserved : goal.loop-i-preserved
loop-i-preserved c =
    let s = c.args.names.now in
    let n = c.args.count - (c.loop-i.i + 1) in
    ap (λ (b : FileId). latest s n b c.above-at.result) c.later-best.ensures ∙ ap (latest s n _) c.above-at.ensures
    ∙ sym (latest_next s c.args.count c.loop-i.i c.loop-i.best c.loop-i.at c.loop-i-test.true) ∙ c.loop-i.invariant
