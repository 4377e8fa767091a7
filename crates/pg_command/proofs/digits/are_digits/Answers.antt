use Rattle.std.proofs.lemmas.Bool.{iff_false}
use Rattle.pg_command.proofs.Pairs.{are_pairs, each_digit, spells_bytes}
use Rattle.pg_command.proofs.digits.are_digits.Goals as goal

pub returns-then-are_pairs : goal.returns-then-are_pairs
returns-then-are_pairs c =
    let pairs = c.are_pairs.ensures.0 c.if-are_pairs.true in
    let word = c.args.word.now in (
      λ all. spells_bytes word pairs (c.all_digits.ensures.0 all),
      λ spells. c.all_digits.ensures.1 (each_digit word spells),
    )

pub returns-else-are_pairs : goal.returns-else-are_pairs
returns-else-are_pairs c = (
  λ true. absurd cc,
  λ spells. absurd (iff_false c.are_pairs.ensures c.if-are_pairs.false (are_pairs c.args.word.now spells)),
)
