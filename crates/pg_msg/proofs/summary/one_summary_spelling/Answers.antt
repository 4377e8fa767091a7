use Rattle.pg_msg.proofs.Summaries.{same_summary}
use Rattle.pg_msg.proofs.summary.one_summary_spelling.Goals as goal

pub returns : goal.returns
returns c = same_summary
