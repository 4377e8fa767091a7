use Rattle.std.proofs.Common.{rules, ◌≡◌, subst}
use Rattle.std.specs.List.{filter}
use Rattle.std.specs.List.Sorted.{IsStrictlySortedBy}
use Rattle.std.specs.Map.{keys_of}
use Rattle.pg_base.specs.Id.{file_cmp}
use Rattle.pg_store.specs.pg_names.Calm.{AreCalm}
use Rattle.pg_store.specs.declared.store.Store.{Store}
use Rattle.pg_pieces.specs.Golds.{is_goldless}
use Rattle.pg_pieces.proofs.SeenGolds.{dirty_goldless}
use Rattle.pg_pieces.proofs.golds.goldless.Goals as goal

pub returns : goal.returns
returns c =
    let d = c.dirty_things.ensures in
    let ids = c.dirty_things.result.now in
    let are : c.from_vec.result ≡ filter (is_goldless c.args.store.now) ids = search rules in
    dirty_goldless c.args.store.now ids
    (subst (λ (b : Store). IsStrictlySortedBy file_cmp (keys_of b.names.held)) c.store.view_is d.sorted) d.ordered
    (subst (λ (b : Store). AreCalm b.names ids) c.store.view_is d.calm) c.from_vec.result are
