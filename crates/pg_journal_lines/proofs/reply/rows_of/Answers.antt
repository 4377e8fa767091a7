use Rattle.std.proofs.Common.{[]}
use Rattle.pg_journal_lines.proofs.ReplyWords.{no_rows}
use Rattle.pg_journal_lines.proofs.reply.rows_of.Goals as goal

pub returns-in_default-clause-none : goal.returns-in_default-clause-none
returns-in_default-clause-none c v each few e =
    no_rows c.args.words.now c.loop-word.word-index (record { ref_ptr = (0, 0); now = [] }) c.loop-word-test.true (rw c.in_default.is at c.in_ok-row.ensures.none) v each e
