use Rattle.pg_journal_lines.proofs.Behinds.{event_is}
use Rattle.pg_journal_lines.proofs.reading.event_of.Goals as goal

pub returns-in_default-clause-none : goal.returns-in_default-clause-none
returns-in_default-clause-none c p fits e =
    let t = event_is c.args.number_text.now c.args.line.now p c.requires fits e in c.in_default.ensures.none t.0 t.2 t.4

pub returns-in_default-2-clause-none : goal.returns-in_default-2-clause-none
returns-in_default-2-clause-none c p fits e =
    let t = event_is c.args.number_text.now c.args.line.now p c.requires fits e in
    let none = rw c.in_default-2.is at c.in_ok-what.ensures.none in
    none t.1 t.3 t.5
