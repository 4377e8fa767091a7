use Rattle.std.proofs.Common.{rules, ap, subst, sym, ◌∙◌}
use Rattle.pg_event.specs.declared.entry.Entry.{Entry}
use Rattle.pg_trace.specs.JournalLine.{ArePrinted}
use Rattle.pg_trace.specs.Suited.{IsSuited}
use Rattle.pg_trace.specs.Text.{entry_lines}
use Rattle.pg_world.specs.Played.{final}
use Rattle.pg_run.specs.Run.{start}
use Rattle.pg_run.proofs.Frame.{run_more}
use Rattle.pg_replay.proofs.journal.Replay.happen.Goals as goal

pub returns-in_ok-write_entry-in-Ok : goal.returns-in_ok-write_entry-in-Ok
returns-in_ok-write_entry-in-Ok c =
    let a = c.args.self.now in
    let p = a.world in
    let P : Entry → Type 0 = (λ e. ArePrinted (entry_lines a.number a.form e)) in
    let is = c.in-Ok.ensures.entry in
    let suits = c.entries_suit.ensures.entries p.servers p.events c.args.event c.requires.event in
    record {
      world = ap final c.in-Ok.ensures.state ∙ run_more p.servers (start p.servers) p.events c.args.event;
      going = search rules;
      servers = search rules;
      number = search rules;
      form = search rules;
      marks = search rules;
      text = search rules;
      printed = subst P is (c.in_ok-write_entry-in-Ok.ensures.spelled (subst IsSuited (sym is) suits));
    }
