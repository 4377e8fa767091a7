use Rattle.std.proofs.Common.{sym, ap, ◌∙◌}
use Rattle.pg_unacked.specs.declared.due.Due.{Due}
use Rattle.pg_base.specs.Id.{is_same_file}
use Rattle.pg_unacked.specs.Due.{has_due}
use Rattle.pg_unacked.proofs.Peers.{less_gone, less_there}
use Rattle.pg_unacked.proofs.unacked.Unacked.remove_file.Goals as goal
use Rattle.pg_unacked.proofs.unacked.Unacked.remove_file.Goals.{in-Some-1, in-None-1}

pub returns-then-is_empty : goal.returns-then-is_empty
returns-then-is_empty c =
    let w = c.remove_file.new.self in
    let gone =
    less_gone (λ (d : Due). is_same_file c.args.file.now d.file) _ (c.get_mut.follows.lender w).entries _ c.args.peer c.in-Some.dues.now w (sym c.in-Some.ensures.value) (c.get_mut.follows.holds w).0 c.self.view_is c.remove_file.ensures
    (c.is_empty.ensures.0 c.if-is_empty.true) c.remove.new.self.entries c.remove.ensures.updates.0 in
    elim c.match-remove.branch [
      | in-Some-1 w ↦ λ p d. ap (λ u. has_due u p d) w.self-is ∙ gone p d
      | in-None-1 w ↦ λ p d. ap (λ u. has_due u p d) w.self-is ∙ gone p d
    ]

pub returns-else-is_empty : goal.returns-else-is_empty
returns-else-is_empty c =
    let w = c.remove_file.new.self in
    less_there (λ (d : Due). is_same_file c.args.file.now d.file) _ _ _ c.args.peer c.in-Some.dues.now w (sym c.in-Some.ensures.value) (c.get_mut.follows.holds w).0 c.self.view_is c.remove_file.ensures
