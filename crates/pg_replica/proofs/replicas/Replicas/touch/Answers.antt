use Rattle.std.proofs.Common.{refl, ◌≡◌, ◌∙◌, ◌+◌, Option, OnOk, sym, subst, arith}
use Rattle.pg_base.specs.Id.{file_cmp}
use Rattle.pg_replica.specs.InOrder.{in_order}
use Rattle.pg_replica.proofs.InOrder.{lookup-in_order, in_order-same, in_order-set}
use Rattle.pg_replica.specs.declared.replica.Replica.{Replica}
use Rattle.pg_replica.specs.Replica.{with_touch}
use Rattle.pg_replica.specs.Replicas.{ByFile, replica_in, edge_count, replicas_touched}
use Rattle.pg_replica.proofs.Redues.{due_there}
use Rattle.pg_replica.proofs.Relisting.{index_there}
use Rattle.pg_replica.proofs.Takings.{found_in, made_nowhere, made_there, none_in, ok_more}
use Rattle.pg_replica.proofs.replicas.Replicas.touch.Goals as goal

pub invariant_of-self-2 : goal.invariant_of-self-2
invariant_of-self-2 c =
    let w = c.touch_listed.new.replica in
    let found = lookup-in_order c.args.file c.self.inside.by_file.entries ∙ sym c.in-Some.ensures.value in
    let set = in_order-set c.self.inside.by_file (c.get_mut.follows.lender w) c.args.file _ w (sym c.in-Some.ensures.value) (c.get_mut.follows.holds w).3 in
    record {
      unacknowledged = index_there (in_order c.self.inside.by_file.entries) c.self.invariant.unacknowledged c.touch_listed.ensures.listed file_cmp refl _ found set;
      ended = index_there (in_order c.self.inside.by_file.entries) c.self.invariant.ended c.touch_listed.ensures.ended file_cmp refl _ found set;
      due = due_there (in_order c.self.inside.by_file.entries) c.self.invariant.due _ w c.self.invariant.unacknowledged.by_file c.touch_listed.ensures.due _ found set;
    }

pub returns-clause-tags : goal.returns-clause-tags
returns-clause-tags c =
    let there = found_in c.self.view_is c.args.file c.in-Some.replica.now (lookup-in_order c.args.file c.self.inside.by_file.entries ∙ sym c.in-Some.ensures.value) in
    let P : Option Replica → Type 0 = λ o. OnOk c.touch_listed.result (c.touch_listed.new.tags ≡ c.args.tags.now + edge_count o) in
    subst P (sym there) (c.touch_listed.ensures.tags)

pub returns-clause-replicas : goal.returns-clause-replicas
returns-clause-replicas c =
    let es = in_order c.self.inside.by_file.entries in
    let w = c.touch_listed.new.replica in
    let ds = in_order (c.get_mut.follows.lender w).entries in
    let found = lookup-in_order c.args.file c.self.inside.by_file.entries ∙ sym c.in-Some.ensures.value in
    let set = in_order-set c.self.inside.by_file (c.get_mut.follows.lender w) c.args.file _ w (sym c.in-Some.ensures.value) (c.get_mut.follows.holds w).3 in
    let P : ByFile → Type 0 = λ rs. ds ≡ replicas_touched rs c.args.file c.args.key c.args.tags.now (replica_in rs c.args.file) in
    ok_more c.touch_listed.result _ _ c.touch_listed.ensures.replica (λ is.
    subst P c.self.view_is
    (made_there es ds c.args.file c.in-Some.replica.now w c.self.invariant.unacknowledged.by_file found set (λ o. replicas_touched es c.args.file c.args.key c.args.tags.now o)
    (with_touch c.in-Some.replica.now c.args.key c.args.tags.now) refl is))

pub returns-in_default-clause-tags : goal.returns-in_default-clause-tags
returns-in_default-clause-tags c =
    let gone = none_in c.self.view_is c.args.file (lookup-in_order c.args.file c.self.inside.by_file.entries ∙ sym c.in_default.ensures.value) in
    let P : Option Replica → Type 0 = λ o. c.args.tags.now ≡ c.args.tags.now + edge_count o in
    subst P (sym gone) (omega arith)

pub returns-in_default-clause-replicas : goal.returns-in_default-clause-replicas
returns-in_default-clause-replicas c =
    let es = in_order c.self.inside.by_file.entries in
    let ds = in_order c.get_mut.follows.lender-at-none.entries in
    let gap = lookup-in_order c.args.file c.self.inside.by_file.entries ∙ sym c.in_default.ensures.value in
    let same = in_order-same _ _ c.get_mut.follows.holds-at-none in
    let P : ByFile → Type 0 = λ rs. ds ≡ replicas_touched rs c.args.file c.args.key c.args.tags.now (replica_in rs c.args.file) in
    subst P c.self.view_is (made_nowhere es ds c.args.file gap same (λ o. replicas_touched es c.args.file c.args.key c.args.tags.now o) refl)
