use Rattle.pg_journal_lines.proofs.Behinds.{uncut}
use Rattle.pg_journal_lines.proofs.reading.event_parts.Goals as goal

pub returns-clause-none : goal.returns-clause-none
returns-clause-none c = uncut c.cut_at.result c.args.text.now c.in_ok-rest.rest.now c.in_ok-rest.ensures.found c.cut_at.ensures.none
