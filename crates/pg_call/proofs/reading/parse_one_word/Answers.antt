use Rattle.std.proofs.Common.{inl}
use Rattle.std.proofs.lemmas.Result.{err_from_is_err_and}
use Rattle.pg_call.proofs.reading.parse_one_word.Goals as goal

pub returns-in_err-target_of-in-Stat-clause-bad : goal.returns-in_err-target_of-in-Stat-clause-bad
returns-in_err-target_of-in-Stat-clause-bad c =
    let p = err_from_is_err_and c.from_residual-in_err-target_of-in-Stat.result c.from_residual-in_err-target_of-in-Stat.ensures.1 in
    rw (c.in-Stat.is, p.1, p.2) (λ f q. inl (c.in_err-target_of-in-Stat.ensures.none f q, c.in_err-target_of-in-Stat.ensures.bad f q))

pub returns-in_err-target_of-in-Demote-clause-bad : goal.returns-in_err-target_of-in-Demote-clause-bad
returns-in_err-target_of-in-Demote-clause-bad c =
    let p = err_from_is_err_and c.from_residual-in_err-target_of-in-Demote.result c.from_residual-in_err-target_of-in-Demote.ensures.1 in
    rw (c.in-Demote.is, p.1, p.2) (λ f q. inl (c.in_err-target_of-in-Demote.ensures.none f q, c.in_err-target_of-in-Demote.ensures.bad f q))

pub returns-in_err-target_of-in-Drop-clause-bad : goal.returns-in_err-target_of-in-Drop-clause-bad
returns-in_err-target_of-in-Drop-clause-bad c =
    let p = err_from_is_err_and c.from_residual-in_err-target_of-in-Drop.result c.from_residual-in_err-target_of-in-Drop.ensures.1 in
    rw (c.in-Drop.is, p.1, p.2) (λ f q. inl (c.in_err-target_of-in-Drop.ensures.none f q, c.in_err-target_of-in-Drop.ensures.bad f q))
