use Rattle.pg_msg.specs.Sent.{summary}
use Rattle.pg_msg.specs.Text.{IsSummary}
use Rattle.pg_msg.specs.UpdateText.{IsUpdate}
use Rattle.pg_trace.specs.Suited.{SuitsKind, SuitsUpdate}
use Rattle.pg_trace.proofs.Lines.{done}
use Rattle.pg_trace.proofs.Suiting.{all_suit}
use Rattle.pg_trace.proofs.writing.write_done.Goals as goal

pub returns-in_ok-write_sent-in-Full-clause-spelled :
    goal.returns-in_ok-write_sent-in-Full-clause-spelled
returns-in_ok-write_sent-in-Full-clause-spelled c = λ made sent.
    done c.args.form c.args.made.now c.args.sent.now
    (all_suit SuitsUpdate IsUpdate c.args.made.now c.in_ok-write_made-in-Full.ensures.fit made)
    (all_suit (λ m. SuitsKind (summary m)) (λ m. IsSummary (summary m)) c.args.sent.now
    c.in_ok-write_sent-in-Full.ensures.fit sent)
