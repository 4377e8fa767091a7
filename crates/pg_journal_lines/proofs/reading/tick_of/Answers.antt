use Rattle.pg_journal_lines.proofs.Behinds.{tick_told}
use Rattle.pg_words.proofs.ListWords.{texts}
use Rattle.pg_journal_lines.proofs.reading.tick_of.Goals as goal

pub returns-in_default-clause-none : goal.returns-in_default-clause-none
returns-in_default-clause-none c p h =
    let t = tick_told (texts c.args.words.now) p h in
    let none = rw c.in_default.is at c.in_ok-server.ensures.none in
    none t.0 t.1 t.2 t.3 t.4
