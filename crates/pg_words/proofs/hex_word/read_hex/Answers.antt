use Rattle.std.proofs.Common.{rules, arith, ◌≡◌, ◌<◌, length}
use Rattle.pg_words.proofs.HexWords.{few_pairs, some_digits, encoded_bytes}
use Rattle.pg_words.proofs.hex_word.read_hex.Goals as goal
use Rattle.pg_words.proofs.hex_word.read_hex.Goals.{then-is_empty-via-then-is_empty, then-is_empty-via-else-is_empty+then-word-most}

pub returns-then-is_empty-clause-none : goal.returns-then-is_empty-clause-none
returns-then-is_empty-clause-none c b are e = elim c.then-is_empty.branch [
  | then-is_empty-via-then-is_empty w ↦ (let none : length c.args.word.now ≡ 0 = search rules in some_digits c.args.word.now b c.args.most are e none)
  | then-is_empty-via-else-is_empty+then-word-most w ↦ omega (arith, few_pairs c.args.word.now b c.args.most are e)
]

pub returns-in_ok-from_vec-in-Some-clause-found : goal.returns-in_ok-from_vec-in-Some-clause-found
returns-in_ok-from_vec-in-Some-clause-found c =
    let found = rw c.in-Some.is at c.in_ok-items.ensures.found in
    let some : 0 < length c.args.word.now = search rules in
    rw c.in_ok-from_vec-in-Some.ensures (encoded_bytes c.args.word.now c.in-Some.items.items c.args.most found some (omega arith))
