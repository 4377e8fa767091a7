use Rattle.std.proofs.Common.{rules, ◌≡◌, ◌≤◌, ℕ, List, length, inl, inr, ap, arith}
use Rattle.pg_trace.specs.JournalLine.{journal_spelling}
use Rattle.pg_draw.proofs.Texts.{lines_few}
use Rattle.pg_draw.proofs.command.text_of.Goals as goal

pub returns-in-BadLine-clause-first_bad : goal.returns-in-BadLine-clause-first_bad
returns-in-BadLine-clause-first_bad c = λ n f bad.
    let is = c.in-BadLine.is in
    elim (c.in-Err.ensures.first n f bad) [
      | inl e ↦ inl (cc)
      | inr e ↦ absurd (cc)
    ]

pub svg_of-requires : goal.svg_of-requires
svg_of-requires c =
    let lines = c.as_slice.result.now in
    let few = lines_few lines in
    let same : c.args.input.now ≡ journal_spelling lines = search rules in
    let long : length c.args.input.now ≡ length (journal_spelling lines) = ap length same in
    let most : length c.args.input.now ≤ 67108864 = search rules in
    omega arith

pub returns-in-Lacks-clause-first_bad : goal.returns-in-Lacks-clause-first_bad
returns-in-Lacks-clause-first_bad c = λ n f bad. absurd (c.in-Ok.ensures.first n f bad)
