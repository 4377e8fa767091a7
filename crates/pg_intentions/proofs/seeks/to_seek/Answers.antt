use Rattle.std.proofs.Common.{rules, ◌≡◌, subst}
use Rattle.std.specs.List.{filter}
use Rattle.std.specs.List.Sorted.{IsStrictlySortedBy}
use Rattle.std.specs.Map.{keys_of}
use Rattle.pg_base.specs.Id.{file_cmp}
use Rattle.pg_graph.specs.pg_store.declared.store.Store.{Store}
use Rattle.pg_intentions.specs.Seeks.{is_seeking}
use Rattle.pg_intentions.proofs.Marked.{marked_seek}
use Rattle.pg_intentions.proofs.seeks.to_seek.Goals as goal

pub returns : goal.returns
returns c =
    let s = c.args.store.now in
    let ids = c.in-Some.ids.now in
    let are : c.from_vec.result ≡ filter (is_seeking s) ids = search rules in
    marked_seek s ids c.as_slice.ensures.sorted
    (subst (λ (b : Store). IsStrictlySortedBy file_cmp (keys_of b.names.held)) c.store.view_is c.as_map-held.ensures.sorted)
    c.in-Some.ensures c.from_vec.result are
