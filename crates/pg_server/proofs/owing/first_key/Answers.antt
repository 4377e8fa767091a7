use Rattle.std.proofs.Common.{◌∙◌, sym, ap, subst, List}
use Rattle.std.specs.declared.cmp.Ordering.{Ordering}
use Rattle.std.specs.List.{flat_map, slice_get}
use Rattle.std.specs.List.Sorted.{IsStrictlySortedBy}
use Rattle.std.specs.Map.{keys_of}
use Rattle.std.specs.Map.Iter.{deref}
use Rattle.std.proofs.lemmas.Map.Iter.{rest_more}
use Rattle.pg_base.specs.declared.id.FileId.{FileId}
use Rattle.pg_base.proofs.Orders.{file_order_is}
use Rattle.pg_event.specs.declared.quiet.OwedKey.{OwedKey}
use Rattle.pg_calls.specs.pg_replica.Index.{IsIndex}
use Rattle.pg_calls.specs.pg_store.declared.store.Store.{Store}
use Rattle.pg_calls.specs.pg_store.Seen.{server_of}
use Rattle.pg_calls.specs.pg_store.Store.{replica_at}
use Rattle.pg_calls.proofs.pg_replica.Lists.{first_here, first_later}
use Rattle.pg_server.specs.Owing.{file_owes}
use Rattle.pg_server.proofs.Unacknowledged.{listed_owes}
use Rattle.pg_server.proofs.owing.first_key.Goals as goal

pub loop-file-init : goal.loop-file-init
loop-file-init c =
    let s = c.args.store.now in
    let us = c.unacknowledged.result.now.entries in
    let S : (FileId → FileId → Ordering) → Type 0 = (λ r. IsStrictlySortedBy r (keys_of us)) in
    ap (λ (l : List OwedKey). slice_get l 0)
    (sym (ap (flat_map (λ k. file_owes (server_of s) k (replica_at s k))) (c.into_iter-file-iterator.ensures.into_iter_gives ∙ c.keys-file-items.ensures.rest)
    ∙ listed_owes (server_of s) us s.replicas (subst S file_order_is c.keys-file-items.ensures.ordered)
    (subst (λ (b : Store). IsIndex us b.replicas) c.store.view_is c.unacknowledged.ensures)))

pub returns-in-Some-first_of_file : goal.returns-in-Some-first_of_file
returns-in-Some-first_of_file c =
    let s = c.args.store.now in
    sym (c.loop-file.invariant
    ∙ first_here (λ k. file_owes (server_of s) k (replica_at s k)) c.loop-file.file-iterator c.in-Some.file.now c.next.new.self c.in-Some-first_of_file.owing
    (rest_more deref c.loop-file.file-iterator c.next.new.self c.next.result c.in-Some.file c.in-Some.is c.next.ensures.steps) (sym c.in-Some-first_of_file.ensures))

pub loop-file-preserved : goal.loop-file-preserved
loop-file-preserved c =
    let s = c.args.store.now in
    c.loop-file.invariant
    ∙ first_later (λ k. file_owes (server_of s) k (replica_at s k)) c.loop-file.file-iterator c.in-Some.file.now c.next.new.self
    (rest_more deref c.loop-file.file-iterator c.next.new.self c.next.result c.in-Some.file c.in-Some.is c.next.ensures.steps) (sym c.in_default.ensures)
