use Rattle.pg_entries.proofs.Differ.{differ}
use Rattle.pg_entries.proofs.laws.shown_names_differ.Goals as goal

pub returns : goal.returns
returns c = differ
