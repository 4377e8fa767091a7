use Rattle.std.proofs.Common.{ap, sym, ◌∙◌}
use Rattle.std.proofs.lemmas.Result.{on_ok_weaker}
use Rattle.pg_announced.specs.Announced.{NotesValue, longer, change_note}
use Rattle.pg_announced.proofs.Keys.{changed_by, key_order_is}
use Rattle.pg_announced.proofs.Sorted.{sorted_set}
use Rattle.pg_announced.proofs.announced.Announcements.lengthen.Goals as goal

pub returns : goal.returns
returns c =
    let w = c.lengthen.new.self in
    record {
      ok = on_ok_weaker c.lengthen.result (λ same.
          changed_by (longer c.args.more.now) _ key_order_is _ _ c.args.key.now c.in-Some.note.now w (sym c.in-Some.ensures.value) (c.get_mut.follows.holds w).0 same
          ∙ ap (λ (ns : NotesValue). change_note (longer c.args.more.now) ns c.args.key.now) c.self.view_is) c.lengthen.ensures.ok;
    }

pub invariant_of-self-2 : goal.invariant_of-self-2
invariant_of-self-2 c =
    let w = c.lengthen.new.self in
    sorted_set _ key_order_is _ _ c.args.key.now w c.self.invariant (c.get_mut.follows.holds w).0
