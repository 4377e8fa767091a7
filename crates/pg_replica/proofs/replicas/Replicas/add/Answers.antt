use Rattle.std.proofs.Common.{refl, ◌∙◌, ap, sym, subst}
use Rattle.pg_base.specs.Id.{file_cmp}
use Rattle.pg_replica.specs.InOrder.{in_order}
use Rattle.pg_replica.specs.Index.{IsIndex, IsIndexBy, KnowsNoEnd}
use Rattle.pg_replica.specs.Unacked.{AreDue}
use Rattle.pg_replica.specs.Replicas.{ByFile, put_replica}
use Rattle.pg_replica.proofs.InOrder.{in_order-come}
use Rattle.pg_replica.proofs.Ends.{no_heads}
use Rattle.pg_unacked.proofs.Redues.{redues_gone}
use Rattle.pg_replica.proofs.Redues.{due_put}
use Rattle.pg_replica.proofs.Relisting.{index_come, relists_same}
use Rattle.pg_replica.proofs.replicas.Replicas.add.Goals as goal

pub invariant_of-self-2 : goal.invariant_of-self-2
invariant_of-self-2 c =
    let come = in_order-come c.self.inside.by_file _ c.insert.new.self c.args.file c.args.replica refl c.in_ok-insert.ensures.updates in
    record {
      unacknowledged = index_come (in_order c.self.inside.by_file.entries) c.self.invariant.unacknowledged (relists_same _ _ c.args.file c.args.replica c.args.replica refl (λ clean. clean)) file_cmp refl _ c.requires.clean come;
      ended = index_come (in_order c.self.inside.by_file.entries) c.self.invariant.ended (relists_same _ _ c.args.file c.args.replica c.args.replica refl (λ none. none)) file_cmp refl _ (no_heads c.args.replica c.requires.no_head) come;
      due = due_put (in_order c.self.inside.by_file.entries) c.self.invariant.due _ refl c.args.replica
          (redues_gone c.args.file _ c.args.replica.edges c.forget.ensures c.requires.clean) file_cmp refl _ come;
    }

pub returns-clause-ok : goal.returns-clause-ok
returns-clause-ok c =
    in_order-come c.self.inside.by_file _ c.insert.new.self c.args.file c.args.replica refl c.in_ok-insert.ensures.updates
    ∙ ap (λ (rs : ByFile). put_replica rs c.args.file c.args.replica) c.self.view_is

pub invariant_of-self : goal.invariant_of-self
invariant_of-self c =
    let lists = c.self.inside.lists in
    let same = ap in_order c.in_err-insert.ensures.err in
    let Q : ByFile → Type 0 = λ rs. IsIndexBy KnowsNoEnd lists.ended.entries rs in
    record {
      unacknowledged = subst (IsIndex lists.unacknowledged.entries) (sym same) c.self.invariant.unacknowledged;
      ended = subst Q (sym same) c.self.invariant.ended;
      due = subst (AreDue lists.unacked) (sym same) c.self.invariant.due;
    }
