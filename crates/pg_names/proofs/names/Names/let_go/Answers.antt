use Rattle.pg_names.proofs.Moves.{gone_step}
use Rattle.pg_names.proofs.Steps.{marks_more}
use Rattle.pg_names.proofs.names.Names.let_go.Goals as goal

pub invariant_of-self : goal.invariant_of-self
invariant_of-self c = let i = c.self.inside in marks_more i.held i.dirty c.mark_each.new.marks i.dirs i.spots i.holders c.mark_each.ensures.stays c.self.invariant

pub invariant_of-self-2 : goal.invariant_of-self-2
invariant_of-self-2 c =
    let i = c.self.inside in
    gone_step i.held c.let_go.new.self c.args.file.now c.let_go.ensures i.dirty c.mark_each.new.marks i.dirs c.remove.new.self c.at.result.now i.spots c.leave.new.spots i.holders c.leave.new.holders c.self.invariant
    c.at.ensures c.mark_each.ensures.stays c.in_ok-mark_each.ensures.all c.remove.ensures c.leave.ensures.spots c.leave.ensures.holders
