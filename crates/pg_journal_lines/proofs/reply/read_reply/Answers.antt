use Rattle.std.proofs.Common.{◌∙◌, sym}
use Rattle.pg_journal_lines.proofs.ReplySpelling.{no_kind}
use Rattle.pg_words.proofs.ListWords.{texts}
use Rattle.pg_journal_lines.proofs.reply.read_reply.Goals as goal

pub returns-in_default-read_kind-clause-none : goal.returns-in_default-read_kind-clause-none
returns-in_default-read_kind-clause-none c r h e = no_kind c.in-Some.word.now (texts c.in-Some.rest.now) c.in_default-read_kind.ensures.none r (sym c.in-Some.ensures.found ∙ e)
