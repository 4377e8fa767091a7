use Rattle.std.proofs.Common.{ap, ◌∙◌, not, rules}
use Rattle.std.proofs.lemmas.Map.Made.{filter_same_pairs}
use Rattle.pg_announced.specs.Announced.{NotesValue, is_over, without_covered}
use Rattle.pg_announced.proofs.Keys.{key_order_is}
use Rattle.pg_announced.proofs.Sorted.{sorted_by}
use Rattle.pg_announced.proofs.announced.Announcements.end_covered.Goals as goal

pub returns : goal.returns
returns c =
    filter_same_pairs _ (λ e. not (is_over c.args.file.now c.args.content.now.heads e)) _ (λ k v b w f' t. search rules) _ _ c.retain.ensures.filtered
    ∙ ap (λ (ns : NotesValue). without_covered ns c.args.file.now c.args.content.now.heads) c.self.view_is

pub invariant_of-self : goal.invariant_of-self
invariant_of-self c = sorted_by _ key_order_is _ c.retain.ensures.ordered
