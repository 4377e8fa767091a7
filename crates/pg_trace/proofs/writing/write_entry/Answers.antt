use Rattle.pg_trace.specs.Text.{done_lines, told_lines}
use Rattle.pg_trace.proofs.Lines.{joined}
use Rattle.pg_trace.proofs.Suiting.{done_there}
use Rattle.pg_trace.proofs.writing.write_entry.Goals as goal

pub returns-in_ok-write_done-in-None-clause-spelled :
    goal.returns-in_ok-write_done-in-None-clause-spelled
returns-in_ok-write_done-in-None-clause-spelled c =
    let entry = c.args.entry.now in
    let form = c.args.form in
    let done = done_there form c.as_slice.result.now entry.made c.as_slice-in-None.result.now entry.sent
    c.as_slice.ensures c.as_slice-in-None.ensures c.in_ok-write_done-in-None.ensures.spelled in
    rw c.in-None.is (λ h. joined (told_lines form entry.event entry.reply)
    (done_lines form entry.made entry.sent)
    (c.write_told.ensures.spelled h.told) (done h.made h.sent))
