use Rattle.std.proofs.Common.{◌≡◌, ◌∙◌, ap, sym, arith}
use Rattle.std.proofs.lemmas.Fmt.{decimal_injective}
use Rattle.pg_words.proofs.Splitting.{word_at}
use Rattle.pg_journal_lines.proofs.refusal.component_of.Goals as goal

pub returns-then-n-gt255-clause-none : goal.returns-then-n-gt255-clause-none
returns-then-n-gt255-clause-none c h =
    let few = h.1 in
    let many = c.if-n-gt255.true in
    let same : c.in_ok-n.n ≡ h.0 = decimal_injective c.in_ok-n.n h.0 (omega arith) (omega arith)
    (sym c.in_ok-n.ensures.found ∙ ap (word_at 0) (sym c.in_ok-only_word.ensures.found ∙ h.2)) in
    omega arith
