use Rattle.std.proofs.Common.{rules, ◌≡◌, ◌∙◌, ap, arith, subst, []}
use Rattle.std.specs.declared.cmp.Ordering.{Ordering}
use Rattle.std.specs.List.Sorted.{IsStrictlySortedBy}
use Rattle.std.specs.Map.{keys_of}
use Rattle.pg_base.specs.declared.id.FileId.{FileId}
use Rattle.pg_base.proofs.Orders.{file_order_is}
use Rattle.pg_cells.specs.Counts.{key_count}
use Rattle.pg_pieces.specs.pg_replica.Index.{IsIndex}
use Rattle.pg_pieces.specs.pg_store.declared.store.Store.{Store}
use Rattle.pg_pieces.specs.pg_store.Store.{replica_at}
use Rattle.pg_cells.proofs.Counted.{all_listed, counted_all, counted_none, listed_keys}
use Rattle.pg_cells.proofs.counting.key_count.Goals as goal

pub loop-file-init : goal.loop-file-init
loop-file-init c =
    let s = c.args.store.now in
    let us = c.unacknowledged.result.now.entries in
    let S : (FileId → FileId → Ordering) → Type 0 = (λ r. IsStrictlySortedBy r (keys_of us)) in (
      omega arith,
      counted_none _ _
          (ap (listed_keys (replica_at s)) (c.into_iter-file-iterator.ensures.into_iter_gives ∙ c.keys-file-items.ensures.rest)
          ∙ all_listed us s.replicas (subst S file_order_is c.keys-file-items.ensures.ordered)
          (subst (λ (b : Store). IsIndex us b.replicas) c.store.view_is c.unacknowledged.ensures)),
    )

pub returns : goal.returns
returns c =
    let s = c.args.store.now in
    let none : c.loop-file.file-iterator ≡ [] = search rules in
    counted_all c.loop-file.count (listed_keys (replica_at s) c.loop-file.file-iterator) (key_count s) c.loop-file.invariant.0 (ap (listed_keys (replica_at s)) none) c.loop-file.invariant.1
