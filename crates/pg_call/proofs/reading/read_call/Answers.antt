use Rattle.std.proofs.Common.{◌∷◌, ◌∙◌, sym, ap}
use Rattle.std.proofs.lemmas.Bool.{iff_false}
use Rattle.pg_call.proofs.CallTable.{not_counted, no_bad_call}
use Rattle.pg_call.proofs.reading.read_call.Goals as goal
use Rattle.pg_words.proofs.ListWords.{texts}

pub returns-then-not-are_counted-clause-none : goal.returns-then-not-are_counted-clause-none
returns-then-not-are_counted-clause-none c x fits e =
    let rest = texts c.in-Some.rest.now in
    let spelled = c.in-Some.ensures.found ∙ ap (λ w. w ∷ rest) c.in-Some-read.ensures.found in
    not_counted c.in-Some-read.kind rest (iff_false c.are_counted.ensures c.if-not-are_counted.true) x fits (sym spelled ∙ e)

pub returns-in-Bad-clause-none : goal.returns-in-Bad-clause-none
returns-in-Bad-clause-none c x fits e =
    let rest = texts c.in-Some.rest.now in
    let spelled = c.in-Some.ensures.found ∙ ap (λ w. w ∷ rest) c.in-Some-read.ensures.found in
    no_bad_call c.in-Some-read.kind rest c.in-Bad.field-0 (c.in-Err.ensures.bad c.in-Bad.field-0 c.in-Bad.is) x fits (sym spelled ∙ e)
