use Rattle.std.proofs.Common.{rules}
use Rattle.pg_msg.specs.UpdateText.{IsUpdate}
use Rattle.pg_trace.specs.declared.journal_line.JournalLine.TheVariants as printed
use Rattle.pg_trace.specs.JournalLine.{printed_text}
use Rattle.pg_trace.specs.Suited.{SuitsUpdate}
use Rattle.pg_trace.proofs.Suiting.{one_fits, one_more}
use Rattle.pg_trace.proofs.writing.write_made.Goals as goal

pub loop-update-preserved : goal.loop-update-preserved
loop-update-preserved c =
    let all = c.args.made.now in
    let i = c.loop-update.update-index in
    let here = c.update-item.result in
    record {
      text = one_more printed_text printed.Made c.args.out.now c.loop-update.out c.write_update.new.out all i here
          (search rules) (search rules) c.loop-update.invariant.text c.in_ok-write_update.ensures.text;
      fit = one_fits (λ u. SuitsUpdate u → IsUpdate u) all i here (search rules) (search rules)
          c.loop-update.invariant.fit c.write_update.ensures.fits;
    }
