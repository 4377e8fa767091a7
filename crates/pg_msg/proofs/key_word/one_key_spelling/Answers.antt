use Rattle.pg_msg.proofs.Keys.{same_key}
use Rattle.pg_msg.proofs.key_word.one_key_spelling.Goals as goal

pub returns : goal.returns
returns c = same_key
