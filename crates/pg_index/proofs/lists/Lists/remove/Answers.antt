use Rattle.std.proofs.Common.{◌≡◌, List, [], length, sym, ap, ◌∙◌}
use Rattle.std.specs.BTreeMap.{BTreeMap}
use Rattle.std.proofs.lemmas.Bool.{eqb-true}
use Rattle.pg_base.specs.declared.id.FileId.{FileId}
use Rattle.pg_base.proofs.Orders.{file_order_is}
use Rattle.pg_index.specs.Ids.{has}
use Rattle.pg_index.proofs.Sets.{bare, less_gone, less_none, less_there}
use Rattle.pg_index.proofs.lists.Lists.remove.Goals as goal
use Rattle.pg_index.proofs.lists.Lists.remove.Goals.{in-Some-1, in-None-1}

pub returns-then-is_empty : goal.returns-then-is_empty
returns-then-is_empty c =
    let w = c.remove.new.self in
    let none : w ≡ [] = bare w (eqb-true (length w) 0 (sym c.is_empty.ensures ∙ c.if-is_empty.true)) in
    let gone =
    less_gone _ file_order_is _ (c.get_mut.follows.lender w).entries _ c.args.key.now c.args.file.now c.in-Some.ids.now w (sym c.in-Some.ensures.value) (c.get_mut.follows.holds w).0 c.self.view_is c.remove.ensures none
    c.remove-then-is_empty.new.self.entries c.remove-then-is_empty.ensures.updates.0 in
    elim c.match-remove.branch [
      | in-Some-1 w ↦ λ k q. ap (λ l. has l k q) w.self-is ∙ gone k q
      | in-None-1 w ↦ λ k q. ap (λ l. has l k q) w.self-is ∙ gone k q
    ]

pub returns-else-is_empty : goal.returns-else-is_empty
returns-else-is_empty c =
    let w = c.remove.new.self in
    less_there _ file_order_is _ _ _ c.args.key.now c.args.file.now c.in-Some.ids.now w (sym c.in-Some.ensures.value) (c.get_mut.follows.holds w).0 c.self.view_is c.remove.ensures

pub returns-in_default : goal.returns-in_default
returns-in_default c =
    less_none _ file_order_is _ _ _ c.args.key.now c.args.file.now (sym c.in_default.ensures.value)
    (ap (λ (m : BTreeMap FileId (List FileId)). m.entries) c.get_mut.follows.holds-at-none) c.self.view_is
