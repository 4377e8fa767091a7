use Rattle.std.proofs.Common.{ap, arith, length, ◌+◌, ◌-◌, ◌≡◌, ◌∙◌, sym}
use Rattle.std.proofs.lemmas.List.{get_or_default}
use Rattle.pg_unacked.specs.declared.due.Due.{Due}
use Rattle.pg_unacked.specs.Due.{due_cmp}
use Rattle.pg_unacked.proofs.Places.{lt_is_less, past_last, past_none}
use Rattle.pg_unacked.proofs.list.is_past.Goals as goal

pub returns-then-count-eq0 : goal.returns-then-count-eq0
returns-then-count-eq0 c = λ t. past_none c.args.dues.now c.args.due.now c.requires c.if-count-eq0.true

pub returns : goal.returns
returns c = λ t.
    let dues = c.args.dues.now in
    let due = c.args.due.now in
    let last = length dues - 1 in
    let some : last + 1 ≡ length dues = (let n = c.if-count-eq0.false in omega arith) in
    past_last dues due last c.requires some
    (λ d. ap (λ (x : Due). due_cmp x due) (get_or_default dues last d _ (omega arith)) ∙ lt_is_less _ (sym c.is_below.ensures ∙ t))
