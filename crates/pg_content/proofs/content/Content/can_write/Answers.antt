use Rattle.std.proofs.Common.{◌≡◌, ◌^◌, true, false, not, sym, ap, ◌∙◌}
use Rattle.std.proofs.lemmas.Bool.{not-true}
use Rattle.pg_content.proofs.Heads.{none_head, head_none, room_from, none_from_room, copied_none, none_copied}
use Rattle.pg_content.proofs.content.Content.can_write.Goals as goal

pub returns-then-is_none : goal.returns-then-is_none
returns-then-is_none c =
    let heads = c.args.self.now.heads in
    let fresh = none_head heads c.args.stamp (sym c.at.ensures ∙ copied_none c.at.result (c.is_none.ensures ∙ ap not c.if-is_none.true)) in (
      λ t. (fresh, room_from heads c.args.actor (2 ^ 63) (sym c.covers.ensures.test ∙ not-true c.covers.result t)),
      λ h. ap not (c.covers.ensures.test ∙ none_from_room heads c.args.actor (2 ^ 63) h.1),
    )

pub returns-else-is_none : goal.returns-else-is_none
returns-else-is_none c = (
  λ t. absurd (let z : true ≡ false = sym t ∙ c.if-is_none.false in cc),
  λ h. absurd (let none = none_copied c.at.result (c.at.ensures ∙ head_none c.args.self.now.heads c.args.stamp h.0) in let z : false ≡ true = sym none ∙ c.is_none.ensures ∙ ap not c.if-is_none.false in cc),
)
