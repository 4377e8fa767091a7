use Rattle.std.proofs.Common.{arith, []}
use Rattle.pg_msg.specs.Text.{summary_words}
use Rattle.pg_msg.proofs.Summaries.{no_about, no_detail}
use Rattle.pg_words.proofs.WordIndexes.{at_index}
use Rattle.pg_msg.proofs.summary.read_summary.Goals as goal

pub returns-in_err-file-clause-none : goal.returns-in_err-file-clause-none
returns-in_err-file-clause-none c =
    let ws = c.args.words.now in
    rw c.from_residual-in_err-file.ensures (λ s fits e. no_about c.in_ok-kind.kind _ _ c.in_ok-kind.ensures.found c.in_err-file.ensures.none s fits
    (at_index ws (record { ref_ptr = (0, 0); now = [] }) 2 (summary_words s) (omega arith) e)
    (at_index ws (record { ref_ptr = (0, 0); now = [] }) 3 (summary_words s) (omega arith) e))

pub returns-in_err-detail-clause-none : goal.returns-in_err-detail-clause-none
returns-in_err-detail-clause-none c =
    let ws = c.args.words.now in
    rw c.from_residual-in_err-detail.ensures (λ s fits e. no_detail c.in_ok-kind.kind _ _ c.in_ok-kind.ensures.found c.in_err-detail.ensures.none s fits
    (at_index ws (record { ref_ptr = (0, 0); now = [] }) 2 (summary_words s) (omega arith) e)
    (at_index ws (record { ref_ptr = (0, 0); now = [] }) 4 (summary_words s) (omega arith) e))
