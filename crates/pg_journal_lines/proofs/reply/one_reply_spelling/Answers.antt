use Rattle.pg_journal_lines.proofs.ReplySpelling.{one_reply}
use Rattle.pg_journal_lines.proofs.reply.one_reply_spelling.Goals as goal

pub returns : goal.returns
returns c = one_reply
