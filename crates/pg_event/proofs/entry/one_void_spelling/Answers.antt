use Rattle.pg_event.proofs.Voids.{same_void}
use Rattle.pg_event.proofs.entry.one_void_spelling.Goals as goal

pub returns : goal.returns
returns c = same_void
