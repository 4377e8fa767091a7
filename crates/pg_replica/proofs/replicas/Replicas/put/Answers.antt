use Rattle.std.proofs.Common.{refl, ◌∙◌, sym, ap, subst}
use Rattle.pg_base.specs.Id.{file_cmp}
use Rattle.pg_unacked.specs.Due.{UnackedValue}
use Rattle.pg_replica.specs.InOrder.{in_order}
use Rattle.pg_replica.specs.Replicas.{ByFile, put_replica}
use Rattle.pg_replica.specs.Unacked.{AreDue}
use Rattle.pg_replica.proofs.InOrder.{lookup-in_order, in_order-same, in_order-set}
use Rattle.pg_replica.proofs.Putting.{come_due, come_index, err_then, index_of_more, relists_replaced}
use Rattle.pg_replica.proofs.Redues.{due_there}
use Rattle.pg_replica.proofs.Relisting.{index_there}
use Rattle.pg_replica.proofs.Takings.{ok_more, put_there, same_there}
use Rattle.pg_replica.proofs.replicas.Replicas.put.Goals as goal

pub invariant_of-self : goal.invariant_of-self
invariant_of-self c =
    let es = in_order c.self.inside.by_file.entries in
    record {
      unacknowledged = index_of_more _ _ es c.list_replica.ensures.more c.self.invariant.unacknowledged;
      ended = index_of_more _ _ es c.list_replica.ensures.more_ended c.self.invariant.ended;
      due = subst (λ (u : UnackedValue). AreDue u es) (sym c.list_replica.ensures.unacked) c.self.invariant.due;
    }

pub invariant_of-self-in_default : goal.invariant_of-self-in_default
invariant_of-self-in_default c =
    let es = in_order c.self.inside.by_file.entries in
    let r = c.put_first.result in
    let ds = in_order c.put_first.new.by_file.entries in
    let gap = lookup-in_order c.args.file c.self.inside.by_file.entries ∙ sym c.in_default.ensures.value in
    let same = in_order-same _ _ c.get_mut.follows.holds-at-none in
    record {
      unacknowledged = come_index _ _ es _ ds c.args.file c.args.replica r same c.put_first.ensures.ok c.put_first.ensures.err
          c.list_replica.ensures.more c.in_ok-list_replica.ensures.unacknowledged c.self.invariant.unacknowledged;
      ended = come_index _ _ es _ ds c.args.file c.args.replica r same c.put_first.ensures.ok c.put_first.ensures.err
          c.list_replica.ensures.more_ended c.in_ok-list_replica.ensures.ended c.self.invariant.ended;
      due = come_due es _ ds c.args.file c.args.replica r same c.put_first.ensures.ok c.put_first.ensures.err gap c.put_first.ensures.due c.put_first.ensures.none
          (subst (λ (u : UnackedValue). AreDue u es) (sym c.list_replica.ensures.unacked) c.self.invariant.due);
    }

pub returns-in_default-clause-ok : goal.returns-in_default-clause-ok
returns-in_default-clause-ok c =
    let same = in_order-same _ _ c.get_mut.follows.holds-at-none in
    ok_more c.put_first.result _ _ c.put_first.ensures.ok (λ is.
    is ∙ ap (λ (rs : ByFile). put_replica rs c.args.file c.args.replica) (same ∙ c.self.view_is))

pub returns-in_default-clause-err : goal.returns-in_default-clause-err
returns-in_default-clause-err c =
    let same = in_order-same _ _ c.get_mut.follows.holds-at-none in
    err_then c.put_first.result _ _ c.put_first.ensures.err (λ is. is ∙ same ∙ c.self.view_is)

pub invariant_of-self-2 : goal.invariant_of-self-2
invariant_of-self-2 c =
    let es = in_order c.self.inside.by_file.entries in
    let x = c.in-Some.held.now in
    let w = c.replace.new.held in
    let r = c.replace.result in
    let found = lookup-in_order c.args.file c.self.inside.by_file.entries ∙ sym c.in-Some.ensures.value in
    let set = in_order-set c.self.inside.by_file (c.get_mut.follows.lender w) c.args.file _ w (sym c.in-Some.ensures.value) (c.get_mut.follows.holds w).3 in
    record {
      unacknowledged = index_there es c.self.invariant.unacknowledged
          (relists_replaced _ _ c.args.file x w c.args.replica r c.replace.ensures.ok c.replace.ensures.err c.list_replica.ensures.more c.in_ok-list_replica.ensures.unacknowledged)
          file_cmp refl _ found set;
      ended = index_there es c.self.invariant.ended
          (relists_replaced _ _ c.args.file x w c.args.replica r c.replace.ensures.ok c.replace.ensures.err c.list_replica.ensures.more_ended c.in_ok-list_replica.ensures.ended)
          file_cmp refl _ found set;
      due = due_there es (subst (λ (u : UnackedValue). AreDue u es) (sym c.list_replica.ensures.unacked) c.self.invariant.due) x w c.self.invariant.unacknowledged.by_file
          c.replace.ensures.due _ found set;
    }

pub returns-clause-ok : goal.returns-clause-ok
returns-clause-ok c =
    let es = in_order c.self.inside.by_file.entries in
    let w = c.replace.new.held in
    let found = lookup-in_order c.args.file c.self.inside.by_file.entries ∙ sym c.in-Some.ensures.value in
    let set = in_order-set c.self.inside.by_file (c.get_mut.follows.lender w) c.args.file _ w (sym c.in-Some.ensures.value) (c.get_mut.follows.holds w).3 in
    ok_more c.replace.result _ _ c.replace.ensures.ok (λ is.
    put_there es _ c.args.file c.in-Some.held.now w c.self.invariant.unacknowledged.by_file found set ∙ ap (put_replica es c.args.file) is
    ∙ ap (λ (rs : ByFile). put_replica rs c.args.file c.args.replica) c.self.view_is)

pub returns-clause-err : goal.returns-clause-err
returns-clause-err c =
    let es = in_order c.self.inside.by_file.entries in
    let w = c.replace.new.held in
    let found = lookup-in_order c.args.file c.self.inside.by_file.entries ∙ sym c.in-Some.ensures.value in
    let set = in_order-set c.self.inside.by_file (c.get_mut.follows.lender w) c.args.file _ w (sym c.in-Some.ensures.value) (c.get_mut.follows.holds w).3 in
    err_then c.replace.result _ _ c.replace.ensures.err (λ is.
    same_there es _ c.args.file c.in-Some.held.now w c.self.invariant.unacknowledged.by_file found set is ∙ c.self.view_is)
