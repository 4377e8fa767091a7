use Rattle.pg_journal_lines.proofs.RefusalSpelling.{no_reason}
use Rattle.pg_journal_lines.proofs.refusal.refused_of.Goals as goal

pub returns-in_default-read_reason-clause-none : goal.returns-in_default-read_reason-clause-none
returns-in_default-read_reason-clause-none c r fits e = no_reason c.args.words.now _ c.in-len2-up.len_at_least c.in_default-read_reason.ensures.none r e
