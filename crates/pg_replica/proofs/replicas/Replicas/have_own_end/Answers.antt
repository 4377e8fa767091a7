use Rattle.std.proofs.Common.{◌∙◌, ap, subst}
use Rattle.std.specs.declared.cmp.Ordering.{Ordering}
use Rattle.std.specs.List.{list_any}
use Rattle.std.specs.List.Sorted.{IsStrictlySortedBy}
use Rattle.std.specs.Map.{keys_of}
use Rattle.pg_base.specs.declared.id.FileId.{FileId}
use Rattle.pg_base.proofs.Orders.{file_order_is}
use Rattle.pg_replica.specs.Index.{IsIndexBy, KnowsNoEnd}
use Rattle.pg_replica.specs.Replicas.{is_own_end_in, replica_in}
use Rattle.pg_replica.proofs.Ends.{any_listed}
use Rattle.pg_replica.proofs.replicas.Replicas.have_own_end.Goals as goal

pub loop-file-init : goal.loop-file-init
loop-file-init c =
    let us = c.self.inside.lists.ended.entries in
    let S : (FileId → FileId → Ordering) → Type 0 = (λ r. IsStrictlySortedBy r (keys_of us)) in
    let server = c.args.server in
    ap (list_any (λ k. is_own_end_in server (replica_in c.args.self.now k)))
    (c.into_iter-file-iterator.ensures.into_iter_gives ∙ c.keys-file-items.ensures.rest)
    ∙ any_listed server us c.args.self.now (subst S file_order_is c.keys-file-items.ensures.ordered)
    (subst (IsIndexBy KnowsNoEnd us) c.self.view_is c.self.invariant.ended)
