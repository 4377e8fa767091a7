use Rattle.pg_words.proofs.HexWords.{byte_digits}
use Rattle.pg_words.proofs.hex_word.byte_of.Goals as goal

pub returns-clause-found : goal.returns-clause-found
returns-clause-found c =
    let high = c.in_ok-high.ensures.found in
    let low = c.in_ok-low.ensures.found in
    byte_digits c.in_ok-high.high c.in_ok-low.low c.args.high c.args.low low.0 high.1 low.1
