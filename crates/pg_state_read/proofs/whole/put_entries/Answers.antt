use Rattle.std.proofs.Common.{List, ◌∙◌, ap, sym}
use Rattle.std.specs.Vec.Iter.{into_iter_items}
use Rattle.pg_entries.specs.declared.entry.Entry.{Entry}
use Rattle.pg_names.specs.Names.{NamesValue}
use Rattle.pg_state_read.specs.Whole.{with_entries}
use Rattle.pg_state_read.proofs.whole.put_entries.Goals as goal

pub loop-entry-init : goal.loop-entry-init
loop-entry-init c =
    ap (λ (rest : List Entry). with_entries c.args.dir c.args.names.now rest) (c.into_iter-entry-iterator.ensures.into_iter_gives.0 ∙ c.into_vec-entry-items.ensures)

pub loop-entry-preserved : goal.loop-entry-preserved
loop-entry-preserved c =
    ap (λ (names : NamesValue). with_entries c.args.dir names (into_iter_items c.next.new.self)) c.in_ok-set_entry.ensures.ok
    ∙ sym (ap (λ (rest : List Entry). with_entries c.args.dir c.loop-entry.names rest) c.in-Some.ensures.steps.0)
    ∙ c.loop-entry.invariant
