use Rattle.std.specs.BTreeMap.{BTreeMap}
use Rattle.pg_base.specs.declared.id.FileId.{FileId}
use Rattle.std.proofs.Common.{sym, ap, ◌∙◌}
use Rattle.std.proofs.lemmas.Result.{err_from_is_err_and}
use Rattle.pg_base.proofs.Orders.{file_order_is}
use Rattle.pg_names.specs.Names.{InodeValue, NamesValue, set_entry, with_entry}
use Rattle.pg_names.proofs.Writes.{held_put, names_of, same_put, update_absent, update_there}
use Rattle.pg_names.proofs.held.Held.set_entry.Goals as goal

pub returns-clause-ok : goal.returns-clause-ok
returns-clause-ok c =
    let i = c.self.inside in
    let w = c.set_entry.new.self in
    let s = names_of i.server i.last i.removed i.held.entries in
    update_there _ file_order_is s _ c.args.dir.now (with_entry c.args.entry) c.in-Some.held.now w (sym c.in-Some.ensures.value) c.in_ok-set_entry.ensures.ok
    (held_put _ file_order_is i.server i.last i.removed i.held.entries (c.get_mut.follows.lender w).entries c.args.dir.now w (c.get_mut.follows.holds w).0)
    ∙ ap (λ (x : NamesValue). set_entry x c.args.dir.now c.args.entry) c.self.view_is

pub returns-in_default-clause-ok : goal.returns-in_default-clause-ok
returns-in_default-clause-ok c =
    let i = c.self.inside in
    let s = names_of i.server i.last i.removed i.held.entries in
    ap (λ (m : BTreeMap FileId InodeValue). names_of i.server i.last i.removed m.entries) c.get_mut.follows.holds-at-none
    ∙ update_absent _ file_order_is s c.args.dir.now (with_entry c.args.entry) (sym c.in_default.ensures.value)
    ∙ ap (λ (x : NamesValue). set_entry x c.args.dir.now c.args.entry) c.self.view_is

pub returns-in_err-set_entry-clause-err : goal.returns-in_err-set_entry-clause-err
returns-in_err-set_entry-clause-err c =
    let i = c.self.inside in
    let w = c.set_entry.new.self in
    let p = err_from_is_err_and c.from_residual.result c.from_residual.ensures.1 in
    rw p.1
    (same_put _ file_order_is i.server i.last i.removed i.held.entries (c.get_mut.follows.lender w).entries c.args.dir.now c.in-Some.held.now w (sym c.in-Some.ensures.value) c.in_err-set_entry.ensures.err (c.get_mut.follows.holds w).0
    ∙ c.self.view_is)
