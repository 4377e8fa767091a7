use Rattle.law_written.proofs.Lists.{rows_chain}
use Rattle.law_written.proofs.replies.rows_are_whole.Goals as goal

pub returns : goal.returns
returns c = record { few = c.requires.few; chain = rows_chain c.args.rows.now c.each_row_is_whole.ensures }
