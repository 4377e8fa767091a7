use Rattle.pg_path.proofs.Paths.{one_text}
use Rattle.pg_path.proofs.path.one_spelling.Goals as goal

pub returns : goal.returns
returns c = one_text
