use Rattle.std.proofs.Common.{refl, ◌≡◌, ◌≢◌, ◌∙◌, ◌+◌, true, false, is_some, map, Option, None, Some, IfErr, IfOk, OnOk, sym, ap, subst}
use Rattle.pg_base.specs.Id.{file_cmp}
use Rattle.pg_base.specs.Version.{stamp_of}
use Rattle.pg_content.specs.declared.error.WriteError.{WriteError}
use Rattle.pg_content.specs.declared.error.WriteError.TheVariants.{OutOfMemory}
use Rattle.pg_replica.specs.InOrder.{in_order}
use Rattle.pg_replica.proofs.InOrder.{lookup-in_order, in_order-set}
use Rattle.pg_replica.specs.declared.replica.Replica.{Replica}
use Rattle.pg_replica.specs.Replica.{has_room, own_actor, refusal_of, with_write}
use Rattle.pg_replica.specs.Replicas.{ByFile, replica_in, edge_count, or_nothing, replicas_writing}
use Rattle.pg_replica.proofs.Redues.{due_there}
use Rattle.pg_replica.proofs.Relisting.{index_there}
use Rattle.pg_replica.proofs.Takings.{err_more, found_in, made_there, none_in, ok_more, same_there}
use Rattle.pg_replica.proofs.replicas.Replicas.write.Goals as goal

pub unreachable-requires : goal.unreachable-requires
unreachable-requires c =
    let gone = none_in c.self.view_is c.args.file (lookup-in_order c.args.file c.self.inside.by_file.entries ∙ sym c.in_default.ensures.value) in
    let k : false ≡ true = sym (ap (λ (o : Option Replica). is_some o) gone) ∙ c.requires.held in cc

pub write_listed-requires-clause-room : goal.write_listed-requires-clause-room
write_listed-requires-clause-room c =
    let there = found_in c.self.view_is c.args.file c.in-Some.replica.now (lookup-in_order c.args.file c.self.inside.by_file.entries ∙ sym c.in-Some.ensures.value) in
    let P : Option Replica → Type 0 = λ o. has_room (or_nothing o) c.args.stamp.server ≡ true in
    subst P there c.requires.room

pub invariant_of-self : goal.invariant_of-self
invariant_of-self c =
    let w = c.write_listed.new.replica in
    let found = lookup-in_order c.args.file c.self.inside.by_file.entries ∙ sym c.in-Some.ensures.value in
    let set = in_order-set c.self.inside.by_file (c.get_mut.follows.lender w) c.args.file _ w (sym c.in-Some.ensures.value) (c.get_mut.follows.holds w).3 in
    record {
      unacknowledged = index_there (in_order c.self.inside.by_file.entries) c.self.invariant.unacknowledged c.write_listed.ensures.listed file_cmp refl _ found set;
      ended = index_there (in_order c.self.inside.by_file.entries) c.self.invariant.ended c.write_listed.ensures.ended file_cmp refl _ found set;
      due = due_there (in_order c.self.inside.by_file.entries) c.self.invariant.due _ w c.self.invariant.unacknowledged.by_file c.write_listed.ensures.due _ found set;
    }

pub returns-clause-bases : goal.returns-clause-bases
returns-clause-bases c =
    let there = found_in c.self.view_is c.args.file c.in-Some.replica.now (lookup-in_order c.args.file c.self.inside.by_file.entries ∙ sym c.in-Some.ensures.value) in
    let P : Option Replica → Type 0 = λ o. IfOk c.write_listed.result (λ ss. ss ≡ map stamp_of (or_nothing o).content.heads) in
    subst P (sym there) (c.write_listed.ensures.bases)

pub returns-clause-tags : goal.returns-clause-tags
returns-clause-tags c =
    let there = found_in c.self.view_is c.args.file c.in-Some.replica.now (lookup-in_order c.args.file c.self.inside.by_file.entries ∙ sym c.in-Some.ensures.value) in
    let P : Option Replica → Type 0 = λ o. OnOk c.write_listed.result (c.write_listed.new.tags ≡ c.args.tags.now + edge_count o) in
    subst P (sym there) (c.write_listed.ensures.tags)

pub returns-clause-allowed : goal.returns-clause-allowed
returns-clause-allowed c =
    let there = found_in c.self.view_is c.args.file c.in-Some.replica.now (lookup-in_order c.args.file c.self.inside.by_file.entries ∙ sym c.in-Some.ensures.value) in
    let P : Option Replica → Type 0 = λ o. OnOk c.write_listed.result (refusal_of (or_nothing o) c.args.stamp.server c.args.ranges.now ≡ None) in
    subst P (sym there) (c.write_listed.ensures.allowed)

pub returns-clause-refused : goal.returns-clause-refused
returns-clause-refused c =
    let there = found_in c.self.view_is c.args.file c.in-Some.replica.now (lookup-in_order c.args.file c.self.inside.by_file.entries ∙ sym c.in-Some.ensures.value) in
    let P : Option Replica → Type 0 = λ o. IfErr c.write_listed.result (λ e. e ≢ OutOfMemory → refusal_of (or_nothing o) c.args.stamp.server c.args.ranges.now ≡ Some e) in
    subst P (sym there) (c.write_listed.ensures.refused)

pub returns-clause-same : goal.returns-clause-same
returns-clause-same c =
    let es = in_order c.self.inside.by_file.entries in
    let w = c.write_listed.new.replica in
    let found = lookup-in_order c.args.file c.self.inside.by_file.entries ∙ sym c.in-Some.ensures.value in
    let set = in_order-set c.self.inside.by_file (c.get_mut.follows.lender w) c.args.file _ w (sym c.in-Some.ensures.value) (c.get_mut.follows.holds w).3 in
    err_more c.write_listed.result (λ (e : WriteError). e ≢ OutOfMemory) _ _ c.write_listed.ensures.same (λ same. (
      same_there es (in_order (c.get_mut.follows.lender w).entries) c.args.file c.in-Some.replica.now w c.self.invariant.unacknowledged.by_file found set same.0 ∙ c.self.view_is,
      same.1,
    ))

pub returns-clause-replicas : goal.returns-clause-replicas
returns-clause-replicas c =
    let es = in_order c.self.inside.by_file.entries in
    let w = c.write_listed.new.replica in
    let ds = in_order (c.get_mut.follows.lender w).entries in
    let found = lookup-in_order c.args.file c.self.inside.by_file.entries ∙ sym c.in-Some.ensures.value in
    let set = in_order-set c.self.inside.by_file (c.get_mut.follows.lender w) c.args.file _ w (sym c.in-Some.ensures.value) (c.get_mut.follows.holds w).3 in
    let P : ByFile → Type 0 = λ rs. ds ≡ replicas_writing rs c.args.file c.args.stamp c.args.ranges.now c.args.tags.now (replica_in rs c.args.file) in
    ok_more c.write_listed.result _ _ c.write_listed.ensures.replica (λ is.
    subst P c.self.view_is
    (made_there es ds c.args.file c.in-Some.replica.now w c.self.invariant.unacknowledged.by_file found set (λ o. replicas_writing es c.args.file c.args.stamp c.args.ranges.now c.args.tags.now o)
    (with_write c.in-Some.replica.now (own_actor c.in-Some.replica.now c.args.stamp.server) c.args.stamp c.args.ranges.now c.args.tags.now) refl is))
