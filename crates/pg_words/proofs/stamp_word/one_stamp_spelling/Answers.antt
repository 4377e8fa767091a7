use Rattle.pg_words.proofs.Stamps.{same_stamp, same_stamps}
use Rattle.pg_words.proofs.stamp_word.one_stamp_spelling.Goals as goal

pub returns-clause-one : goal.returns-clause-one
returns-clause-one c = same_stamp

pub returns-clause-list : goal.returns-clause-list
returns-clause-list c = same_stamps
