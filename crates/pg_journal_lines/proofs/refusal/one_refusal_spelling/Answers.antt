use Rattle.pg_journal_lines.proofs.RefusalSpelling.{one_refusal}
use Rattle.pg_journal_lines.proofs.refusal.one_refusal_spelling.Goals as goal

pub returns : goal.returns
returns c = one_refusal
