use Rattle.std.proofs.Common.{◌∙◌, ◌++◌, ap, subst, List}
use Rattle.std.specs.declared.cmp.Ordering.{Ordering}
use Rattle.std.specs.List.{flat_map}
use Rattle.std.specs.List.Sorted.{IsStrictlySortedBy}
use Rattle.std.specs.Map.{keys_of}
use Rattle.pg_base.specs.declared.id.FileId.{FileId}
use Rattle.pg_base.specs.Id.{file_cmp}
use Rattle.pg_base.proofs.Orders.{file_order_is}
use Rattle.pg_pieces.specs.pg_msg.declared.message.Sent.{Sent}
use Rattle.pg_pieces.specs.pg_store.declared.store.Store.{Store}
use Rattle.pg_pieces.specs.pg_store.Store.{replica_at}
use Rattle.pg_cells.specs.KeyFilter.{file_cells, passes}
use Rattle.pg_cells.proofs.Listed.{all_chosen}
use Rattle.pg_cells.proofs.sending.send_cells.Goals as goal

pub loop-file-init : goal.loop-file-init
loop-file-init c =
    let s = c.args.store.now in
    let w = c.args.choice.now in
    let us = c.args.files.now.entries in
    let S : (FileId → FileId → Ordering) → Type 0 = (λ r. IsStrictlySortedBy r (keys_of us)) in
    ap (λ (l : List Sent). c.args.sent.now ++ l)
    (ap (flat_map (λ k. file_cells s (passes w) k (replica_at s k))) (c.into_iter-file-iterator.ensures.into_iter_gives ∙ c.keys-file-items.ensures.rest)
    ∙ all_chosen s w us (subst S file_order_is c.keys-file-items.ensures.ordered) (subst (λ (b : Store). IsStrictlySortedBy file_cmp (keys_of b.replicas)) c.store.view_is c.unacknowledged-index.ensures.by_file) c.requires)
