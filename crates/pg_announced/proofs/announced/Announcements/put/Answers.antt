use Rattle.std.proofs.Common.{◌≡◌, ap, subst, ◌∙◌, rules}
use Rattle.std.specs.declared.cmp.Ordering.{Ordering}
use Rattle.std.specs.BTreeMap.{insert_entry}
use Rattle.pg_announced.specs.Announced.{NotesValue, put_note}
use Rattle.pg_announced.specs.declared.announced.NoteKey.{NoteKey}
use Rattle.pg_announced.proofs.Keys.{key_order_is}
use Rattle.pg_announced.proofs.Sorted.{sorted_by}
use Rattle.pg_announced.proofs.announced.Announcements.put.Goals as goal

pub returns-clause-ok : goal.returns-clause-ok
returns-clause-ok c =
    let P : (NoteKey → NoteKey → Ordering) → Type 0 =
    λ r. c.insert.new.self.entries ≡ insert_entry r c.self.inside.by_version.entries c.args.key c.args.note in
    subst P key_order_is (search rules)
    ∙ ap (λ (ns : NotesValue). put_note ns c.args.key c.args.note) c.self.view_is

pub invariant_of-self : goal.invariant_of-self
invariant_of-self c = sorted_by _ key_order_is _ c.insert.ensures.ordered

pub invariant_of-self-2 : goal.invariant_of-self-2
invariant_of-self-2 c = sorted_by _ key_order_is _ c.insert.ensures.ordered
