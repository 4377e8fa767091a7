use Rattle.pg_journal_lines.proofs.RefusalSpelling.{same_intent}
use Rattle.pg_journal_lines.proofs.refusal.one_intent_spelling.Goals as goal

pub returns : goal.returns
returns c = same_intent
