use Rattle.std.proofs.Common.{◌≡◌, Result, Err, ap}
use Rattle.std.proofs.lemmas.Result.{err_from_is_err_and}
use Rattle.pg_path.proofs.Paths.{only_memory}
use Rattle.pg_path.proofs.path.Path.read.Goals as goal

-- an error is the same at another type of values
moved : {A B E : Type 0} (x y : E) → ◌≡◌ {A = Result A E} (Err x) (Err y) → ◌≡◌ {A = Result B E} (Err x) (Err y)
moved x y h = let same : x ≡ y = cc in ap Err same

pub returns-in_err-check-clause-spelled : goal.returns-in_err-check-clause-spelled
returns-in_err-check-clause-spelled c p fits same =
    let r = err_from_is_err_and c.from_residual.result c.from_residual.ensures.1 in
    let h = c.in_err-check.ensures in
    rw (r.1, r.2) (only_memory c.args.bytes.now p c.in_err-check.field-0.0 fits same h.no_slash.0 h.long.0 h.deep.0 (λ k. (h.bad k).0))

pub returns-in_err-check-clause-bad : goal.returns-in_err-check-clause-bad
returns-in_err-check-clause-bad c component =
    let r = err_from_is_err_and c.from_residual.result c.from_residual.ensures.1 in
    let h = c.in_err-check.ensures.bad component in
    rw (r.1, r.2) (λ e. h.0 (moved _ _ e), λ k. moved _ _ (h.1 k))
