use Rattle.std.proofs.Common.{List, sym, ap}
use Rattle.std.specs.BTreeMap.{BTreeMap}
use Rattle.std.proofs.lemmas.Result.{err_from_is_err_and}
use Rattle.pg_base.specs.declared.id.FileId.{FileId}
use Rattle.pg_base.proofs.Orders.{file_order_is}
use Rattle.pg_index.proofs.Sets.{kept_there, more_new, more_there, put_new}
use Rattle.pg_index.proofs.lists.Lists.insert.Goals as goal

pub returns-in_err-insert-in-Some-clause-err : goal.returns-in_err-insert-in-Some-clause-err
returns-in_err-insert-in-Some-clause-err c =
    let w = c.insert.new.self in
    let p = err_from_is_err_and c.from_residual.result c.from_residual.ensures.1 in
    rw p.1 (kept_there _ file_order_is _ _ _ c.args.key c.args.file c.in-Some.ids.now w (sym c.in-Some.ensures.value) (c.get_mut.follows.holds w).0 c.self.view_is c.in_err-insert-in-Some.ensures.err)

pub returns-in_ok-insert-in-Some-clause-ok : goal.returns-in_ok-insert-in-Some-clause-ok
returns-in_ok-insert-in-Some-clause-ok c =
    let w = c.insert.new.self in
    more_there _ file_order_is _ _ _ c.args.key c.args.file c.in-Some.ids.now w (sym c.in-Some.ensures.value) (c.get_mut.follows.holds w).0 c.self.view_is c.in_ok-insert-in-Some.ensures.ok

pub returns-in_ok-insert-in-None-2-clause-ok : goal.returns-in_ok-insert-in-None-2-clause-ok
returns-in_ok-insert-in-None-2-clause-ok c =
    let same = ap (λ (m : BTreeMap FileId (List FileId)). m.entries) c.get_mut.follows.holds-at-none in
    more_new _ file_order_is _ _ _ c.args.key c.args.file c.new-ids.result _ (sym c.in-None.ensures.value)
    (put_new _ _ _ _ c.args.key _ same c.in_ok-insert-in-None-2.ensures.entries) c.self.view_is c.new-ids.ensures c.in_ok-insert-in-None.ensures.ok
