use Rattle.std.proofs.Common.{refl, ◌≡◌, ◌∙◌, ◌+◌, false, cond, length, Option, IfOk, OnOk, sym, subst}
use Rattle.pg_base.specs.Id.{file_cmp}
use Rattle.pg_edges.specs.Edges.{makes_edge}
use Rattle.pg_replica.specs.InOrder.{in_order}
use Rattle.pg_replica.proofs.InOrder.{lookup-in_order, in_order-same, in_order-set}
use Rattle.pg_replica.specs.declared.replica.Replica.{Replica}
use Rattle.pg_replica.specs.Replica.{with_link}
use Rattle.pg_replica.specs.Replicas.{ByFile, replica_in, replicas_linked, takes_link}
use Rattle.pg_replica.proofs.Redues.{due_there}
use Rattle.pg_replica.proofs.Relisting.{index_there}
use Rattle.pg_replica.proofs.Takings.{chosen_nowhere, chosen_there, found_in, none_in, ok_more, old_link, plus_if}
use Rattle.pg_replica.proofs.replicas.Replicas.link.Goals as goal

pub invariant_of-self-2 : goal.invariant_of-self-2
invariant_of-self-2 c =
    let w = c.link_listed.new.replica in
    let found = lookup-in_order c.args.file c.self.inside.by_file.entries ∙ sym c.in-Some.ensures.value in
    let set = in_order-set c.self.inside.by_file (c.get_mut.follows.lender w) c.args.file _ w (sym c.in-Some.ensures.value) (c.get_mut.follows.holds w).3 in
    record {
      unacknowledged = index_there (in_order c.self.inside.by_file.entries) c.self.invariant.unacknowledged c.link_listed.ensures.listed file_cmp refl _ found set;
      ended = index_there (in_order c.self.inside.by_file.entries) c.self.invariant.ended c.link_listed.ensures.ended file_cmp refl _ found set;
      due = due_there (in_order c.self.inside.by_file.entries) c.self.invariant.due _ w c.self.invariant.unacknowledged.by_file c.link_listed.ensures.due _ found set;
    }

pub returns-clause-made : goal.returns-clause-made
returns-clause-made c =
    let there = found_in c.self.view_is c.args.file c.in-Some.replica.now (lookup-in_order c.args.file c.self.inside.by_file.entries ∙ sym c.in-Some.ensures.value) in
    let P : Option Replica → Type 0 = λ o. IfOk c.link_listed.result (λ made. made ≡ takes_link o c.args.peer c.args.birth) in
    subst P (sym there) (c.link_listed.ensures.made)

pub returns-clause-tags : goal.returns-clause-tags
returns-clause-tags c =
    let there = found_in c.self.view_is c.args.file c.in-Some.replica.now (lookup-in_order c.args.file c.self.inside.by_file.entries ∙ sym c.in-Some.ensures.value) in
    let P : Option Replica → Type 0 = λ o. OnOk c.link_listed.result (c.link_listed.new.tags ≡ cond (takes_link o c.args.peer c.args.birth) (c.args.tags.now + length c.args.keys.now) c.args.tags.now) in
    subst P (sym there) (ok_more c.link_listed.result _ _ c.link_listed.ensures.tags (λ is. is ∙ plus_if (makes_edge c.in-Some.replica.now.edges c.args.peer c.args.birth) c.args.tags.now (length c.args.keys.now)))

pub returns-clause-replicas : goal.returns-clause-replicas
returns-clause-replicas c =
    let es = in_order c.self.inside.by_file.entries in
    let w = c.link_listed.new.replica in
    let ds = in_order (c.get_mut.follows.lender w).entries in
    let found = lookup-in_order c.args.file c.self.inside.by_file.entries ∙ sym c.in-Some.ensures.value in
    let set = in_order-set c.self.inside.by_file (c.get_mut.follows.lender w) c.args.file _ w (sym c.in-Some.ensures.value) (c.get_mut.follows.holds w).3 in
    let P : ByFile → Type 0 = λ rs. ds ≡ cond (takes_link (replica_in rs c.args.file) c.args.peer c.args.birth) (replicas_linked rs c.args.file c.args.peer c.args.birth c.args.keys.now c.args.tags.now (replica_in rs c.args.file)) rs in
    ok_more c.link_listed.result _ _ c.link_listed.ensures.replica (λ is.
    subst P c.self.view_is
    (chosen_there es ds c.args.file c.in-Some.replica.now w c.self.invariant.unacknowledged.by_file found set (λ o. takes_link o c.args.peer c.args.birth) (λ o. replicas_linked es c.args.file c.args.peer c.args.birth c.args.keys.now c.args.tags.now o)
    (with_link c.in-Some.replica.now c.args.peer c.args.birth c.args.keys.now c.args.tags.now) refl (λ new. is)
    (λ none. is ∙ old_link c.in-Some.replica.now c.args.peer c.args.birth c.args.keys.now c.args.tags.now none)))

pub returns-in_default-clause-made : goal.returns-in_default-clause-made
returns-in_default-clause-made c =
    let gone = none_in c.self.view_is c.args.file (lookup-in_order c.args.file c.self.inside.by_file.entries ∙ sym c.in_default.ensures.value) in
    let P : Option Replica → Type 0 = λ o. false ≡ takes_link o c.args.peer c.args.birth in
    subst P (sym gone) (refl)

pub returns-in_default-clause-tags : goal.returns-in_default-clause-tags
returns-in_default-clause-tags c =
    let gone = none_in c.self.view_is c.args.file (lookup-in_order c.args.file c.self.inside.by_file.entries ∙ sym c.in_default.ensures.value) in
    let P : Option Replica → Type 0 = λ o. c.args.tags.now ≡ cond (takes_link o c.args.peer c.args.birth) (c.args.tags.now + length c.args.keys.now) c.args.tags.now in
    subst P (sym gone) (refl)

pub returns-in_default-clause-replicas : goal.returns-in_default-clause-replicas
returns-in_default-clause-replicas c =
    let es = in_order c.self.inside.by_file.entries in
    let ds = in_order c.get_mut.follows.lender-at-none.entries in
    let gap = lookup-in_order c.args.file c.self.inside.by_file.entries ∙ sym c.in_default.ensures.value in
    let same = in_order-same _ _ c.get_mut.follows.holds-at-none in
    let P : ByFile → Type 0 = λ rs. ds ≡ cond (takes_link (replica_in rs c.args.file) c.args.peer c.args.birth) (replicas_linked rs c.args.file c.args.peer c.args.birth c.args.keys.now c.args.tags.now (replica_in rs c.args.file)) rs in
    subst P c.self.view_is (chosen_nowhere es ds c.args.file gap same (λ o. takes_link o c.args.peer c.args.birth) (λ o. replicas_linked es c.args.file c.args.peer c.args.birth c.args.keys.now c.args.tags.now o) refl)
