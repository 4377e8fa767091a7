use Rattle.pg_words.proofs.Places.{same_place}
use Rattle.pg_words.proofs.place_word.one_place_spelling.Goals as goal

pub returns : goal.returns
returns c = same_place
