use Rattle.std.proofs.Common.{sym, ap, ◌∙◌}
use Rattle.pg_unacked.specs.declared.due.Due.{Due}
use Rattle.pg_unacked.specs.Due.{has_due, is_same_due}
use Rattle.pg_unacked.proofs.Peers.{less_gone, less_there}
use Rattle.pg_unacked.proofs.unacked.Unacked.remove.Goals as goal
use Rattle.pg_unacked.proofs.unacked.Unacked.remove.Goals.{in-Some-1, in-None-1}

pub returns-then-is_empty : goal.returns-then-is_empty
returns-then-is_empty c =
    let w = c.remove.new.self in
    let gone =
    less_gone (λ (d : Due). is_same_due c.args.due.now d) _ (c.get_mut.follows.lender w).entries _ c.args.peer c.in-Some.dues.now w (sym c.in-Some.ensures.value) (c.get_mut.follows.holds w).0 c.self.view_is c.remove.ensures
    (c.is_empty.ensures.0 c.if-is_empty.true) c.remove-then-is_empty.new.self.entries c.remove-then-is_empty.ensures.updates.0 in
    elim c.match-remove.branch [
      | in-Some-1 w ↦ λ p d. ap (λ u. has_due u p d) w.self-is ∙ gone p d
      | in-None-1 w ↦ λ p d. ap (λ u. has_due u p d) w.self-is ∙ gone p d
    ]

pub returns-else-is_empty : goal.returns-else-is_empty
returns-else-is_empty c =
    let w = c.remove.new.self in
    less_there (λ (d : Due). is_same_due c.args.due.now d) _ _ _ c.args.peer c.in-Some.dues.now w (sym c.in-Some.ensures.value) (c.get_mut.follows.holds w).0 c.self.view_is c.remove.ensures
