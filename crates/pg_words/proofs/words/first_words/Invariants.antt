use Rattle.std.proofs.Common.{◌≡◌, ◌++◌, take}
use Rattle.pg_words.specs.Words.{words_in}
use Rattle.pg_words.proofs.FirstWords.{left}
use Rattle.pg_words.proofs.ListWords.{texts}
use Rattle.pg_words.proofs.words.first_words.Given as goal

abbrev pub invariant-loop-index : goal.invariant-loop-index
invariant-loop-index l = words_in l.line ≡ texts (take l.index l.room) ++ left l.rest
