use Rattle.std.proofs.Common.{ap, sym, ◌∙◌}
use Rattle.pg_announced.specs.Announced.{NotesValue, emptied, change_note}
use Rattle.pg_announced.proofs.Keys.{changed_by, key_order_is}
use Rattle.pg_announced.proofs.Sorted.{sorted_set}
use Rattle.pg_announced.proofs.announced.Announcements.empty.Goals as goal

pub returns : goal.returns
returns c =
    let w = c.empty.new.self in
    changed_by (emptied) _ key_order_is _ _ c.args.key.now c.in-Some.note.now w (sym c.in-Some.ensures.value) (c.get_mut.follows.holds w).0 c.empty.ensures
    ∙ ap (λ (ns : NotesValue). change_note (emptied) ns c.args.key.now) c.self.view_is

pub invariant_of-self-2 : goal.invariant_of-self-2
invariant_of-self-2 c =
    let w = c.empty.new.self in
    sorted_set _ key_order_is _ _ c.args.key.now w c.self.invariant (c.get_mut.follows.holds w).0
