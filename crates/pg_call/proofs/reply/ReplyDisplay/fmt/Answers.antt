use Rattle.std.proofs.Common.{◌++◌, ◌∙◌, ap, sym, codes, decimal}
use Rattle.std.proofs.Output.{has_written_of_eq}
use Rattle.pg_call.specs.Reply.{reply_body, rows_text}
use Rattle.pg_call.proofs.RowWords.{names_text}
use Rattle.pg_call.proofs.reply.ReplyDisplay.fmt.Goals as goal

pub returns-in-Names-clause-writes : goal.returns-in-Names-clause-writes
returns-in-Names-clause-writes g c plain ok =
    let total = c.in-Names.total in
    has_written_of_eq _ _ _ _ _ (ap (λ r. codes "names " ++ decimal total ++ rows_text r) c.as_slice-in-Names.ensures ∙ names_text total c.in-Names.rows ∙ ap reply_body (sym c.in-Names.is))
    (c.write-in-Names.ensures.writes plain ok)
