use Rattle.pg_journal_lines.proofs.Behinds.{no_verb}
use Rattle.pg_words.proofs.ListWords.{texts}
use Rattle.pg_journal_lines.proofs.reading.line_of.Goals as goal

pub returns-in_default-read-clause-none : goal.returns-in_default-read-clause-none
returns-in_default-read-clause-none c p fits other e =
    no_verb (texts c.args.words.now) c.in-Some.word.now (texts c.in-Some.rest.now) c.in-Some.ensures.found c.in_default-read.ensures.none p e
