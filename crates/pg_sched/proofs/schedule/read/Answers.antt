use Rattle.std.proofs.Common.{◌≡◌, sym, ◌∙◌, ap, ◌++◌}
use Rattle.std.proofs.lemmas.Result.{err_from_is_err_and}
use Rattle.pg_sched.specs.Schedule.{spelling, header}
use Rattle.pg_sched.specs.Schedule.{IsFirstBad}
use Rattle.pg_sched.proofs.OneReading.{header_bad, stops_there, none_bad_in, one_bad, one_schedule}
use Rattle.pg_sched.proofs.Refusals.{refused_there, refused_never}
use Rattle.pg_sched.proofs.schedule.read.Goals as goal

pub returns-in-Err-clause-bad : goal.returns-in-Err-clause-bad
returns-in-Err-clause-bad c = header_bad c.args.text.now c.in-Err.fault c.in-Err.ensures.none c.in-Err.ensures.cause

pub returns-in_err-lines-clause-complete : goal.returns-in_err-lines-clause-complete
returns-in_err-lines-clause-complete c n lines count each same =
    let p = err_from_is_err_and c.from_residual.result c.from_residual.ensures.1 in
    let h = c.in-Ok.ensures.found in
    rw (p.1, p.2) (refused_never (IsFirstBad c.args.text.now) (λ m g. none_bad_in c.args.text.now n lines m g count each same) c.in_err-lines.field-0.0 (stops_there c.args.text.now c.in-Ok.found.1.now c.in-Ok.found.0 c.in_err-lines.field-0.0 h.0 h.1 c.in_err-lines.ensures.bad))

pub returns-in_err-lines-clause-first : goal.returns-in_err-lines-clause-first
returns-in_err-lines-clause-first c n f bad =
    let p = err_from_is_err_and c.from_residual.result c.from_residual.ensures.1 in
    let h = c.in-Ok.ensures.found in
    rw (p.1, p.2) (refused_there (IsFirstBad c.args.text.now) (one_bad c.args.text.now) c.in_err-lines.field-0.0 (stops_there c.args.text.now c.in-Ok.found.1.now c.in-Ok.found.0 c.in_err-lines.field-0.0 h.0 h.1 c.in_err-lines.ensures.bad) n f bad)

pub returns-clause-complete : goal.returns-clause-complete
returns-clause-complete c n lines count each same =
    let h = c.in-Ok.ensures.found in
    let k = c.in_ok-lines.ensures.found in
    let whole : c.args.text.now ≡ spelling c.in-Ok.found.0 c.in_ok-lines.lines.items = h.1 ∙ ap (λ z. header c.in-Ok.found.0 ++ z) k.1 in
    let one = one_schedule c.in-Ok.found.0 n c.in_ok-lines.lines.items lines h.0 count k.0 each (sym whole ∙ same) in
    (one.0, c.from_vec.ensures ∙ one.1)

pub returns-clause-first : goal.returns-clause-first
returns-clause-first c n f bad =
    let h = c.in-Ok.ensures.found in
    let k = c.in_ok-lines.ensures.found in
    let whole : c.args.text.now ≡ spelling c.in-Ok.found.0 c.in_ok-lines.lines.items = h.1 ∙ ap (λ z. header c.in-Ok.found.0 ++ z) k.1 in
    none_bad_in c.args.text.now c.in-Ok.found.0 c.in_ok-lines.lines.items n f h.0 k.0 whole bad
