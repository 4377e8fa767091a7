use Rattle.pg_names.specs.declared.attributes.Attributes.{Attributes}
use Rattle.std.proofs.Common.{Option, sym, ap, ◌∙◌}
use Rattle.std.proofs.lemmas.Result.{err_from_is_err_and}
use Rattle.pg_base.proofs.Orders.{file_order_is}
use Rattle.pg_names.specs.Names.{NamesValue, is_flag_new, own_at, join_flag, with_flag}
use Rattle.pg_names.proofs.Writes.{held_put, names_of, own_found, same_put, update_there}
use Rattle.pg_names.proofs.held.Held.join_flag.Goals as goal

pub returns-clause-joined : goal.returns-clause-joined
returns-clause-joined c =
    let i = c.self.inside in
    let w = c.join_flag.new.self in
    let s = names_of i.server i.last i.removed i.held.entries in
    update_there _ file_order_is s _ c.args.file.now (with_flag c.args.flag) c.in-Some.held.now w (sym c.in-Some.ensures.value) c.in_ok-join_flag.ensures.joined
    (held_put _ file_order_is i.server i.last i.removed i.held.entries (c.get_mut.follows.lender w).entries c.args.file.now w (c.get_mut.follows.holds w).0)
    ∙ ap (λ (x : NamesValue). join_flag x c.args.file.now c.args.flag) c.self.view_is

pub returns-clause-news : goal.returns-clause-news
returns-clause-news c =
    let i = c.self.inside in
    let s = names_of i.server i.last i.removed i.held.entries in
    c.in_ok-join_flag.ensures.news
    ∙ sym (ap (λ (o : Option Attributes). is_flag_new o c.args.flag) (own_found _ file_order_is s c.args.file.now c.in-Some.held.now (sym c.in-Some.ensures.value)))
    ∙ ap (λ (x : NamesValue). is_flag_new (own_at x c.args.file.now) c.args.flag) c.self.view_is

pub returns-in_err-join_flag-clause-err : goal.returns-in_err-join_flag-clause-err
returns-in_err-join_flag-clause-err c =
    let i = c.self.inside in
    let w = c.join_flag.new.self in
    let p = err_from_is_err_and c.from_residual.result c.from_residual.ensures.1 in
    rw p.1
    (same_put _ file_order_is i.server i.last i.removed i.held.entries (c.get_mut.follows.lender w).entries c.args.file.now c.in-Some.held.now w (sym c.in-Some.ensures.value) c.in_err-join_flag.ensures.err (c.get_mut.follows.holds w).0
    ∙ c.self.view_is)
