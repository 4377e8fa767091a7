use Rattle.std.proofs.lemmas.Bool.{iff_false}
use Rattle.pg_words.proofs.HexWords.{word_found, word_none}
use Rattle.pg_words.proofs.hex_word.read_hex_word.Goals as goal

pub returns-clause-found : goal.returns-clause-found
returns-clause-found c = word_found c.args.most c.args.word.now c.in_ok-found.found c.in_ok-found.ensures.found

pub returns-clause-none : goal.returns-clause-none
returns-clause-none c = word_none c.args.most c.args.word.now c.in_ok-found.found (iff_false c.is_same.ensures c.if-is_same.false) c.in_ok-found.ensures.none
