use Rattle.std.proofs.Common.{ap, ◌∙◌, rules}
use Rattle.std.proofs.lemmas.Map.Made.{map_same_pairs}
use Rattle.pg_announced.specs.Announced.{NotesValue, released, unasked}
use Rattle.pg_announced.proofs.Keys.{key_order_is}
use Rattle.pg_announced.proofs.Sorted.{sorted_by}
use Rattle.pg_announced.proofs.announced.Announcements.release.Goals as goal

pub returns : goal.returns
returns c =
    map_same_pairs _ unasked _ (λ k v b w f' t. search rules) _ _ c.retain.ensures.filtered
    ∙ ap (λ (ns : NotesValue). released ns) c.self.view_is

pub invariant_of-self : goal.invariant_of-self
invariant_of-self c = sorted_by _ key_order_is _ c.retain.ensures.ordered
