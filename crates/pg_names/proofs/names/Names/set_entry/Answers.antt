use Rattle.std.proofs.Common.{◌≡◌, true, not, Option, is_some, sym, ap, ◌∙◌}
use Rattle.pg_names.specs.Names.{InodeValue, is_held}
use Rattle.pg_names.proofs.Frames.{grown_insert, grown_same}
use Rattle.pg_names.proofs.Marking.{lent_some}
use Rattle.pg_names.proofs.Moves.{entry_step, not_written, two_more}
use Rattle.pg_names.proofs.Steps.{marks_more}
use Rattle.pg_names.proofs.names.Names.set_entry.Goals as goal

pub invariant_of-self-in_err-insert-2 : goal.invariant_of-self-in_err-insert-2
invariant_of-self-in_err-insert-2 c =
    let i = c.self.inside in
    marks_more i.held i.dirty c.insert-2.new.self i.dirs i.spots i.holders
    (λ q h. grown_same c.insert.new.self c.insert-2.new.self c.in_err-insert-2.ensures.err q (grown_insert i.dirty c.insert.new.self c.args.dir.now c.in_ok-insert.ensures.ok q h)) c.self.invariant

pub invariant_of-self-in_err-put_cell : goal.invariant_of-self-in_err-put_cell
invariant_of-self-in_err-put_cell c =
    let i = c.self.inside in
    not_written i.held c.put_cell.new.held c.args.dir.now c.args.entry.child c.in_err-put_cell.ensures.err i.dirty c.insert-2.new.self i.dirs i.spots i.holders c.put_cell.new.holders c.self.invariant
    (two_more i.dirty c.insert.new.self c.insert-2.new.self c.args.dir.now c.args.entry.child c.in_ok-insert.ensures.ok c.in_ok-insert-2.ensures.ok) c.in_err-put_cell.ensures.holders_err

pub invariant_of-self-2 : goal.invariant_of-self-2
invariant_of-self-2 c =
    let i = c.self.inside in
    let held : is_held i.held c.args.dir.now ≡ true = ap (λ (o : Option InodeValue). is_some o) (sym c.get.ensures) ∙ lent_some c.get.result ∙ c.is_none.ensures ∙ ap not c.if-is_none.false in
    entry_step i.held c.put_cell.new.held c.args.dir.now c.args.entry c.in_ok-put_cell.ensures.held i.dirty c.insert.new.self c.insert-2.new.self i.dirs i.spots i.holders c.put_cell.new.holders
    c.in_ok-insert.ensures.ok c.in_ok-insert-2.ensures.ok c.self.invariant held c.in_ok-put_cell.ensures.holders
