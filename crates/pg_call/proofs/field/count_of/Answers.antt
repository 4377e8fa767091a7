use Rattle.std.proofs.Common.{◌≡◌, ◌<◌, ◌∙◌, refl, sym, arith}
use Rattle.std.proofs.lemmas.Fmt.{decimal_injective}
use Rattle.pg_call.proofs.field.count_of.Goals as goal

pub returns-in-None-clause-none : goal.returns-in-None-clause-none
returns-in-None-clause-none c h =
    let few = h.1 in
    let many : 32768 < c.in_ok-count.count = c.new.ensures.none.0 (rw c.in-None.is refl) in
    let same : c.in_ok-count.count ≡ h.0 = decimal_injective c.in_ok-count.count h.0 (omega arith) (omega arith) (sym c.in_ok-count.ensures.found ∙ h.2) in
    omega arith
