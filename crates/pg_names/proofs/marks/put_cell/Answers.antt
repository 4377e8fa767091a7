use Rattle.std.proofs.Common.{◌≡◌, false, true, is_some, Option, sym, ap, ◌∙◌}
use Rattle.pg_entries.specs.declared.entry.Entry.{Entry}
use Rattle.pg_names.specs.Calm.{is_holder}
use Rattle.pg_names.proofs.Marking.{cell_some, lent_some, taken_back, was_holder}
use Rattle.pg_names.proofs.marks.put_cell.Goals as goal

pub returns-then-not-had-clause-holders_err : goal.returns-then-not-had-clause-holders_err
returns-then-not-had-clause-holders_err c = λ child q had.
    let none : is_holder c.args.held.now c.args.entry.child c.args.dir.now ≡ false =
    sym (cell_some _) ∙ sym (ap (λ (o : Option Entry). is_some o) c.entry.ensures) ∙ lent_some c.entry.result ∙ sym c.is_some-had.ensures ∙ c.if-not-had.true in
    taken_back c.args.holders.now c.insert.new.self c.args.entry.child c.args.dir.now c.in_ok-insert.ensures.ok c.remove.new.self c.remove.ensures (had ∙ none) child q

pub returns-else-not-had-clause-holders_err : goal.returns-else-not-had-clause-holders_err
returns-else-not-had-clause-holders_err c = λ child q had.
    let there : is_holder c.args.held.now c.args.entry.child c.args.dir.now ≡ true =
    sym (cell_some _) ∙ sym (ap (λ (o : Option Entry). is_some o) c.entry.ensures) ∙ lent_some c.entry.result ∙ sym c.is_some-had.ensures ∙ c.if-not-had.false in
    was_holder c.args.holders.now c.insert.new.self c.args.entry.child c.args.dir.now c.in_ok-insert.ensures.ok (had ∙ there) child q
