use Rattle.std.proofs.lemmas.Result.{err_from_is_err_and}
use Rattle.pg_sched.proofs.Causes.{check_cause, end_cause, first_of, first_whole}
use Rattle.pg_sched.proofs.schedule.cut_line.Goals as goal

pub returns-in_err-check-in-Some-clause-bad : goal.returns-in_err-check-in-Some-clause-bad
returns-in_err-check-in-Some-clause-bad c =
    let p = err_from_is_err_and c.from_residual.result c.from_residual.ensures.1 in
    rw (p.1, p.2) (check_cause c.args.text.now c.in-Some.line.now c.in_err-check-in-Some.field-0.0
    (first_of c.args.text.now c.in-Some.line.now c.in-Some.rest.now c.in-Some.ensures.whole c.in-Some.ensures.first) c.in_err-check-in-Some.ensures.bad)

pub returns-in_err-check-in-None-clause-bad : goal.returns-in_err-check-in-None-clause-bad
returns-in_err-check-in-None-clause-bad c =
    let p = err_from_is_err_and c.from_residual-in_err-check-in-None.result c.from_residual-in_err-check-in-None.ensures.1 in
    rw (p.1, p.2) (check_cause c.args.text.now c.args.text.now c.in_err-check-in-None.field-0.0
    (first_whole c.args.text.now c.in-None.ensures.none) c.in_err-check-in-None.ensures.bad)

pub returns-in_ok-check-in-None-clause-bad : goal.returns-in_ok-check-in-None-clause-bad
returns-in_ok-check-in-None-clause-bad c =
    end_cause c.args.text.now c.requires.some c.in-None.ensures.none c.in_ok-check-in-None.ensures.printable c.in_ok-check-in-None.ensures.short
