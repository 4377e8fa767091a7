use Rattle.std.proofs.Common.{refl, ◌≡◌, ◌∙◌, All, ap, false, sym, subst}
use Rattle.pg_base.specs.Id.{file_cmp}
use Rattle.pg_edges.specs.Edges.{are_clean}
use Rattle.pg_replica.specs.InOrder.{in_order}
use Rattle.pg_replica.specs.Index.{IsAllClean, IsIndex, IsIndexBy, KnowsNoEnd}
use Rattle.pg_replica.specs.Unacked.{AreDue}
use Rattle.pg_replica.proofs.InOrder.{lookup-in_order, in_order-same, in_order-set}
use Rattle.pg_replica.specs.Replica.{has_end, with_kept}
use Rattle.pg_content.specs.Content.{ContentValue}
use Rattle.pg_replica.specs.Replicas.{ByFile, replica_in, replicas_keeping}
use Rattle.pg_unacked.proofs.Redues.{redues_same}
use Rattle.pg_replica.proofs.Redues.{due_there}
use Rattle.pg_replica.proofs.Relisting.{index_there, relists_same}
use Rattle.pg_replica.proofs.Takings.{made_nowhere, made_there, ok_more}
use Rattle.pg_replica.proofs.replicas.Replicas.keep_delta.Goals as goal

pub invariant_of-self-2 : goal.invariant_of-self-2
invariant_of-self-2 c =
    let x = c.in-Some.replica.now in
    let w = c.keep.new.self in
    let found = lookup-in_order c.args.file c.self.inside.by_file.entries ∙ sym c.in-Some.ensures.value in
    let set = in_order-set c.self.inside.by_file (c.get_mut.follows.lender w) c.args.file _ w (sym c.in-Some.ensures.value) (c.get_mut.follows.holds w).3 in
    let keys = c.self.inside.lists.unacknowledged.entries in
    let ends = c.self.inside.lists.ended.entries in
    let heads : ContentValue → Type 0 = λ k. All (λ v. has_end v.head.vector ≡ false) k.heads in
    record {
      unacknowledged = index_there (in_order c.self.inside.by_file.entries) c.self.invariant.unacknowledged
          (relists_same {P = IsAllClean} keys keys c.args.file x w refl (λ clean. ap are_clean c.keep.ensures.edges ∙ clean)) file_cmp refl _ found set;
      ended = index_there (in_order c.self.inside.by_file.entries) c.self.invariant.ended
          (relists_same {P = KnowsNoEnd} ends ends c.args.file x w refl (λ none. subst heads (sym c.keep.ensures.content) none)) file_cmp refl _ found set;
      due = due_there (in_order c.self.inside.by_file.entries) c.self.invariant.due x w c.self.invariant.unacknowledged.by_file
          (redues_same c.args.file (λ p d. refl) c.keep.ensures.edges) _ found set;
    }

pub returns : goal.returns
returns c =
    let es = in_order c.self.inside.by_file.entries in
    let w = c.keep.new.self in
    let ds = in_order (c.get_mut.follows.lender w).entries in
    let found = lookup-in_order c.args.file c.self.inside.by_file.entries ∙ sym c.in-Some.ensures.value in
    let set = in_order-set c.self.inside.by_file (c.get_mut.follows.lender w) c.args.file _ w (sym c.in-Some.ensures.value) (c.get_mut.follows.holds w).3 in
    let P : ByFile → Type 0 = λ rs. ds ≡ replicas_keeping rs c.args.file c.args.delta (replica_in rs c.args.file) in
    ok_more c.keep.result _ _ c.keep.ensures.replica (λ is.
    subst P c.self.view_is
    (made_there es ds c.args.file c.in-Some.replica.now w c.self.invariant.unacknowledged.by_file found set (λ o. replicas_keeping es c.args.file c.args.delta o)
    (with_kept c.in-Some.replica.now c.args.delta) refl is))

pub returns-in_default : goal.returns-in_default
returns-in_default c =
    let es = in_order c.self.inside.by_file.entries in
    let ds = in_order c.get_mut.follows.lender-at-none.entries in
    let gap = lookup-in_order c.args.file c.self.inside.by_file.entries ∙ sym c.in_default.ensures.value in
    let same = in_order-same _ _ c.get_mut.follows.holds-at-none in
    let P : ByFile → Type 0 = λ rs. ds ≡ replicas_keeping rs c.args.file c.args.delta (replica_in rs c.args.file) in
    subst P c.self.view_is (made_nowhere es ds c.args.file gap same (λ o. replicas_keeping es c.args.file c.args.delta o) refl)

pub invariant_of-self : goal.invariant_of-self
invariant_of-self c =
    let same = in_order-same _ _ c.get_mut.follows.holds-at-none in
    let lists = c.self.inside.lists in
    let Q : ByFile → Type 0 = λ rs. IsIndexBy KnowsNoEnd lists.ended.entries rs in
    record {
      unacknowledged = subst (IsIndex lists.unacknowledged.entries) (sym same) c.self.invariant.unacknowledged;
      ended = subst Q (sym same) c.self.invariant.ended;
      due = subst (AreDue lists.unacked) (sym same) c.self.invariant.due;
    }
