use Rattle.pg_names.specs.declared.attributes.Attributes.{Attributes}
use Rattle.std.proofs.Common.{Option}
use Rattle.std.proofs.Common.{sym, ap, ◌∙◌}
use Rattle.pg_base.proofs.Orders.{file_order_is}
use Rattle.pg_names.specs.Names.{NamesValue, is_place_new, own_at, join_place, with_place}
use Rattle.pg_names.proofs.Writes.{held_put, names_of, update_there, own_found}
use Rattle.pg_names.proofs.held.Held.join_place.Goals as goal

pub returns-clause-joined : goal.returns-clause-joined
returns-clause-joined c =
    let i = c.self.inside in
    let w = c.join_place.new.self in
    let s = names_of i.server i.last i.removed i.held.entries in
    update_there _ file_order_is s _ c.args.file.now (with_place c.args.place) c.in-Some.held.now w (sym c.in-Some.ensures.value) c.join_place.ensures.joined
    (held_put _ file_order_is i.server i.last i.removed i.held.entries (c.get_mut.follows.lender w).entries c.args.file.now w (c.get_mut.follows.holds w).0)
    ∙ ap (λ (x : NamesValue). join_place x c.args.file.now c.args.place) c.self.view_is

pub returns-clause-news : goal.returns-clause-news
returns-clause-news c =
    let i = c.self.inside in
    let s = names_of i.server i.last i.removed i.held.entries in
    c.join_place.ensures.news
    ∙ sym (ap (λ (o : Option Attributes). is_place_new o c.args.place) (own_found _ file_order_is s c.args.file.now c.in-Some.held.now (sym c.in-Some.ensures.value)))
    ∙ ap (λ (x : NamesValue). is_place_new (own_at x c.args.file.now) c.args.place) c.self.view_is
