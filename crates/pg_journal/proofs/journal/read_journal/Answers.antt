use Rattle.std.proofs.Common.{sym, ◌∙◌}
use Rattle.std.proofs.lemmas.Result.{err_from_is_err_and}
use Rattle.pg_journal.specs.Journal.{IsFirstOther}
use Rattle.pg_journal.proofs.OneJournal.{none_other_in, one_journal, one_other}
use Rattle.pg_sched.proofs.Refusals.{refused_there, refused_never}
use Rattle.pg_journal.proofs.journal.read_journal.Goals as goal

pub returns-in_err-lines-clause-complete : goal.returns-in_err-lines-clause-complete
returns-in_err-lines-clause-complete c lines each same =
    let p = err_from_is_err_and c.from_residual.result c.from_residual.ensures.1 in
    rw (p.1, p.2) (refused_never (IsFirstOther c.args.text.now) (λ m g. none_other_in c.args.text.now lines m g each same) c.in_err-lines.field-0.0 c.in_err-lines.ensures.bad)

pub returns-in_err-lines-clause-first : goal.returns-in_err-lines-clause-first
returns-in_err-lines-clause-first c n f other =
    let p = err_from_is_err_and c.from_residual.result c.from_residual.ensures.1 in
    rw (p.1, p.2) (refused_there (IsFirstOther c.args.text.now) (one_other c.args.text.now) c.in_err-lines.field-0.0 c.in_err-lines.ensures.bad n f other)

pub returns-clause-complete : goal.returns-clause-complete
returns-clause-complete c lines each same =
    let k = c.in_ok-lines.ensures.found in
    c.from_vec.ensures ∙ one_journal c.in_ok-lines.lines.items lines k.0 each (sym k.1 ∙ same)

pub returns-clause-first : goal.returns-clause-first
returns-clause-first c n f other =
    let k = c.in_ok-lines.ensures.found in
    absurd (none_other_in c.args.text.now c.in_ok-lines.lines.items n f k.0 k.1 other)
