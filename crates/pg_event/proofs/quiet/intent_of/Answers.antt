use Rattle.std.proofs.Common.{ap, arith, []}
use Rattle.pg_event.specs.Quiet.{intent_words}
use Rattle.pg_event.proofs.quiet.intent_of.Goals as goal
use Rattle.pg_words.proofs.Splitting.{behind}
use Rattle.pg_words.proofs.WordIndexes.{at_index}

pub returns-in_err-target-clause-none : goal.returns-in_err-target-clause-none
returns-in_err-target-clause-none c =
    let ws = c.args.words.now in
    rw c.from_residual-in_err-target.ensures (λ o fits e. c.in_err-target.ensures.none o.target fits.target
    (at_index ws (record { ref_ptr = (0, 0); now = [] }) 4 (behind (intent_words o)) (omega arith) (ap behind e)))
