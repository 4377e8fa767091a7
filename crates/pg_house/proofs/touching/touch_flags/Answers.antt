use Rattle.std.proofs.Common.{rules, ap, sym, ◌∙◌, drop, ◌+◌}
use Rattle.std.proofs.lemmas.List.{at_drop_more}
use Rattle.pg_msg.specs.declared.work.Work.{Work}
use Rattle.pg_house.specs.Passing.{flags_touched}
use Rattle.pg_house.proofs.touching.touch_flags.Goals as goal

pub loop-flag-preserved : goal.loop-flag-preserved
loop-flag-preserved c =
    let f = c.args.file in
    let held = c.args.held.now in
    let flags = c.args.flags.now in
    let i = c.loop-flag.flag-index in
    ap (λ (w : Work). flags_touched w f held (drop (i + 1) flags)) c.in_ok-touch_flag.ensures
    ∙ sym (at_drop_more (flags_touched c.loop-flag.work f held) flags i _ (search rules)) ∙ c.loop-flag.invariant
