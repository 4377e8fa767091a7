use Rattle.std.proofs.Common.{sym, subst}
use Rattle.std.proofs.lemmas.Bool.{iff_false}
use Rattle.pg_path.specs.Path.{IsComponent}
use Rattle.pg_journal_lines.proofs.ReplySpelling.{no_row, row_parts}
use Rattle.pg_journal_lines.proofs.reply.row_of.Goals as goal

pub returns-in_default-clause-none : goal.returns-in_default-clause-none
returns-in_default-clause-none c r h e = no_row c.args.word.now r c.in_default.ensures.none e

pub returns-in_default-read_id-clause-none : goal.returns-in_default-read_id-clause-none
returns-in_default-read_id-clause-none c r h e =
    let parts = row_parts c.args.word.now c.in-Some.name.now c.in-Some.child.now r h c.in-Some.ensures.last c.in-Some.ensures.whole e in
    c.in_default-read_id.ensures.none r.child h.child parts.1

pub returns-then-not-is_component-clause-none : goal.returns-then-not-is_component-clause-none
returns-then-not-is_component-clause-none c r h e =
    let parts = row_parts c.args.word.now c.in-Some.name.now c.in-Some.child.now r h c.in-Some.ensures.last c.in-Some.ensures.whole e in
    iff_false c.is_component.ensures c.if-not-is_component.true (subst IsComponent (sym parts.0) h.name)
