use Rattle.std.proofs.Common.{rules}
use Rattle.pg_cells.specs.KeyFilter.{ListsLinked, ListsTouched}
use Rattle.pg_cells.proofs.Listed.{all_changed}
use Rattle.pg_cells.proofs.finishing.finish.Goals as goal

pub send_cells-requires : goal.send_cells-requires
send_cells-requires c =
    let ts = c.as_slice-touched.result in
    let ls = c.as_slice-linked.result in
    let fs = c.add_linked.new.files.entries in
    let linked : ListsLinked fs ls.now = search rules in
    let first : ListsTouched c.in_ok-files.files.entries ts.now = search rules in
    all_changed c.args.store.now ts ls fs (c.in_ok-add_linked.ensures.touched ts.now first) linked
