use Rattle.std.proofs.Common.{refl, ◌≡◌, ◌∙◌, cond, sym, subst}
use Rattle.pg_base.specs.Id.{file_cmp}
use Rattle.pg_replica.specs.InOrder.{in_order}
use Rattle.pg_replica.proofs.InOrder.{lookup-in_order, in_order-same, in_order-set}
use Rattle.pg_replica.specs.Replica.{with_unlink}
use Rattle.pg_replica.specs.Replicas.{ByFile, replica_in, lists_peer, replicas_unlinked}
use Rattle.pg_replica.proofs.Redues.{due_there}
use Rattle.pg_replica.proofs.Relisting.{index_there}
use Rattle.pg_replica.proofs.Takings.{chosen_nowhere, chosen_there, old_unlink}
use Rattle.pg_replica.proofs.replicas.Replicas.unlink.Goals as goal

pub invariant_of-self-2 : goal.invariant_of-self-2
invariant_of-self-2 c =
    let w = c.unlink_listed.new.replica in
    let found = lookup-in_order c.args.file c.self.inside.by_file.entries ∙ sym c.in-Some.ensures.value in
    let set = in_order-set c.self.inside.by_file (c.get_mut.follows.lender w) c.args.file _ w (sym c.in-Some.ensures.value) (c.get_mut.follows.holds w).3 in
    record {
      unacknowledged = index_there (in_order c.self.inside.by_file.entries) c.self.invariant.unacknowledged c.unlink_listed.ensures.listed file_cmp refl _ found set;
      ended = index_there (in_order c.self.inside.by_file.entries) c.self.invariant.ended c.unlink_listed.ensures.ended file_cmp refl _ found set;
      due = due_there (in_order c.self.inside.by_file.entries) c.self.invariant.due _ w c.self.invariant.unacknowledged.by_file c.unlink_listed.ensures.due _ found set;
    }

pub returns : goal.returns
returns c =
    let es = in_order c.self.inside.by_file.entries in
    let w = c.unlink_listed.new.replica in
    let ds = in_order (c.get_mut.follows.lender w).entries in
    let found = lookup-in_order c.args.file c.self.inside.by_file.entries ∙ sym c.in-Some.ensures.value in
    let set = in_order-set c.self.inside.by_file (c.get_mut.follows.lender w) c.args.file _ w (sym c.in-Some.ensures.value) (c.get_mut.follows.holds w).3 in
    let P : ByFile → Type 0 = λ rs. ds ≡ cond (lists_peer (replica_in rs c.args.file) c.args.peer c.args.birth) (replicas_unlinked rs c.args.file c.args.peer c.args.birth (replica_in rs c.args.file)) rs in
    subst P c.self.view_is
    (chosen_there es ds c.args.file c.in-Some.replica.now w c.self.invariant.unacknowledged.by_file found set (λ o. lists_peer o c.args.peer c.args.birth) (λ o. replicas_unlinked es c.args.file c.args.peer c.args.birth o)
    (with_unlink c.in-Some.replica.now c.args.peer c.args.birth) refl (λ listed. c.unlink_listed.ensures.replica)
    (λ none. c.unlink_listed.ensures.replica ∙ old_unlink c.in-Some.replica.now c.args.peer c.args.birth none))

pub returns-in_default : goal.returns-in_default
returns-in_default c =
    let es = in_order c.self.inside.by_file.entries in
    let ds = in_order c.get_mut.follows.lender-at-none.entries in
    let gap = lookup-in_order c.args.file c.self.inside.by_file.entries ∙ sym c.in_default.ensures.value in
    let same = in_order-same _ _ c.get_mut.follows.holds-at-none in
    let P : ByFile → Type 0 = λ rs. ds ≡ cond (lists_peer (replica_in rs c.args.file) c.args.peer c.args.birth) (replicas_unlinked rs c.args.file c.args.peer c.args.birth (replica_in rs c.args.file)) rs in
    subst P c.self.view_is (chosen_nowhere es ds c.args.file gap same (λ o. lists_peer o c.args.peer c.args.birth) (λ o. replicas_unlinked es c.args.file c.args.peer c.args.birth o) refl)
