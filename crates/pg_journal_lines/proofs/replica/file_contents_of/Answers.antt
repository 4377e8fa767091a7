use Rattle.std.proofs.Common.{arith, []}
use Rattle.pg_trace.specs.JournalLine.{contents_words}
use Rattle.pg_trace.specs.declared.replica.ShownContent.TheVariants.{File}
use Rattle.pg_journal_lines.proofs.Held.{file_shown, five}
use Rattle.pg_journal_lines.proofs.replica.file_contents_of.Goals as goal
use Rattle.pg_words.proofs.ListWords.{texts}
use Rattle.pg_words.proofs.WordIndexes.{at_index}

pub returns-in_default-3-clause-none : goal.returns-in_default-3-clause-none
returns-in_default-3-clause-none c x fits e =
    let t = file_shown (texts c.args.words.now) x fits e in
    let none = rw c.in_default-3.is at c.in_ok-first.ensures.none in
    none t.2 t.5 (at_index c.args.words.now (record { ref_ptr = (0, 0); now = [] }) 4 (contents_words (File t.0 t.1 t.2)) (omega arith) t.6)

pub returns-clause-found : goal.returns-clause-found
returns-clause-found c =
    let words = five c.args.words.now (record { ref_ptr = (0, 0); now = [] }) (omega arith) (c.is_same.ensures.0 c.if-not-is_same.false) (c.is_same-2.ensures.0 c.if-not-is_same-2.false) in
    let heads = rw c.in-Some.is at c.in_ok-heads.ensures.found in
    let count = c.in-Some-number.ensures.found in
    let front = rw c.in-Some-2.is at c.in_ok-first.ensures.found in
    let e1 = heads.1 in
    let e2 = front.1 in
    ((heads.0, omega arith, front.0), cc)
