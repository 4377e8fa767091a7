use Rattle.std.proofs.Common.{rules, ap, ◌∙◌}
use Rattle.pg_house.specs.Holding.{waits}
use Rattle.pg_house.proofs.HeldBack.{back_is}
use Rattle.pg_house.proofs.holding.is_dir_back.Goals as goal

pub returns-then-not-is_root : goal.returns-then-not-is_root
returns-then-not-is_root c =
    let s = c.args.names.now in
    let d = c.args.dir.now in
    let own = c.in-Some.own.now in
    c.waits.ensures ∙ ap (waits s.removed d own.place) c.latest.ensures ∙ back_is s d own (search rules) (search rules)
