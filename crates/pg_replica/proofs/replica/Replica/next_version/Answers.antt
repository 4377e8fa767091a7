use Rattle.std.proofs.Common.{◌≡◌, ◌≢◌, IfOk, IfErr, Some, length, subst}
use Rattle.pg_base.specs.declared.vector.Actor.{Actor}
use Rattle.pg_patch.specs.Ranges.{applied}
use Rattle.pg_content.specs.Content.{next_vector, next_version, shown_bytes}
use Rattle.pg_content.specs.declared.error.WriteError.TheVariants.{OutOfMemory}
use Rattle.pg_replica.proofs.Refusals.{reason, reason_told}
use Rattle.pg_replica.proofs.replica.Replica.next_version.Goals as goal

pub returns-clause-next : goal.returns-clause-next
returns-clause-next c =
    let P : Actor → Type 0 =
    (λ a. IfOk c.next_version.result (λ v. v ≡ next_version c.args.self.now.content a c.args.stamp c.args.ranges.now)) in
    subst P c.own_actor-actor.ensures c.next_version.ensures.next

pub returns-clause-refused : goal.returns-clause-refused
returns-clause-refused c =
    let x = c.args.self.now.content in
    let P : Actor → Type 0 =
    (λ a. IfErr c.next_version.result (λ e. e ≢ OutOfMemory → reason (length (applied (shown_bytes x) c.args.ranges.now)) (length (next_vector x.heads a)) ≡ Some e)) in
    subst P c.own_actor-actor.ensures
    (reason_told c.next_version.result (length (applied (shown_bytes x) c.args.ranges.now)) (length (next_vector x.heads c.own_actor-actor.result))
    c.next_version.ensures.too_long c.next_version.ensures.many_actors)
