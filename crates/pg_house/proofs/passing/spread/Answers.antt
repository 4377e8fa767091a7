use Rattle.std.proofs.Common.{rules, ap, sym, ◌∙◌, drop, ◌+◌}
use Rattle.std.proofs.lemmas.List.{at_drop_more}
use Rattle.pg_house.specs.Work.{State, state_of}
use Rattle.pg_house.specs.Passing.{spread}
use Rattle.pg_house.proofs.passing.spread.Goals as goal

pub loop-dir-preserved : goal.loop-dir-preserved
loop-dir-preserved c =
    let f = c.args.file.now in
    let own = c.args.own.now in
    let top = c.args.top.now in
    let ds = c.args.dirs.now in
    let i = c.loop-dir.dir-index in
    ap (λ (st : State). spread st f own top c.args.back (drop (i + 1) ds)) c.in_ok-offer.ensures
    ∙ sym (at_drop_more (spread (state_of c.loop-dir.names c.loop-dir.work) f own top c.args.back) ds i _ (search rules)) ∙ c.loop-dir.invariant
