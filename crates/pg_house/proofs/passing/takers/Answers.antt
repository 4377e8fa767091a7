use Rattle.std.proofs.Common.{rules, ◌≡◌}
use Rattle.std.specs.List.{filter}
use Rattle.std.specs.List.Sorted.{IsStrictlySortedBy}
use Rattle.pg_base.specs.Id.{file_cmp}
use Rattle.pg_house.specs.Passing.{is_taker}
use Rattle.pg_house.proofs.Takers.{takers_are}
use Rattle.pg_house.proofs.passing.takers.Goals as goal

pub returns : goal.returns
returns c =
    let s = c.args.names.now in
    let f = c.args.file.now in
    let own = c.args.own.now in
    let top = c.args.top.now in
    let ids = c.in_ok-ids.ids in
    let ordered : IsStrictlySortedBy file_cmp ids = c.as_slice-held.ensures.sorted in
    let are : c.from_vec.result ≡ filter (is_taker s f own top c.args.back) ids = search rules in
    takers_are s f own top c.args.back ids c.in_ok-ids.ensures c.dirty_things-dirty.ensures.sorted ordered c.from_vec.result are
