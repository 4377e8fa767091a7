use Rattle.std.proofs.Common.{◌≡◌, ap, subst, ◌∙◌}
use Rattle.std.specs.declared.cmp.Ordering.{Ordering}
use Rattle.std.specs.BTreeMap.{is_at}
use Rattle.std.specs.Map.{lookup, remove_entry}
use Rattle.pg_announced.specs.Announced.{NotesValue, note_at, without_note}
use Rattle.pg_announced.specs.declared.announced.NoteKey.{NoteKey}
use Rattle.pg_announced.proofs.Keys.{key_order_is}
use Rattle.pg_announced.proofs.Sorted.{sorted_by}
use Rattle.pg_announced.proofs.announced.Announcements.take.Goals as goal

pub returns-clause-taken : goal.returns-clause-taken
returns-clause-taken c =
    let P : (NoteKey → NoteKey → Ordering) → Type 0 =
    λ r. c.remove.result ≡ lookup (is_at (r c.args.key.now)) c.self.inside.by_version.entries in
    subst P key_order_is c.remove.ensures.value
    ∙ ap (λ (ns : NotesValue). note_at ns c.args.key.now) c.self.view_is

pub returns-clause-notes : goal.returns-clause-notes
returns-clause-notes c =
    let P : (NoteKey → NoteKey → Ordering) → Type 0 =
    λ r. c.remove.new.self.entries ≡ remove_entry (is_at (r c.args.key.now)) c.self.inside.by_version.entries in
    subst P key_order_is c.remove.ensures.entries
    ∙ ap (λ (ns : NotesValue). without_note ns c.args.key.now) c.self.view_is

pub invariant_of-self : goal.invariant_of-self
invariant_of-self c = sorted_by _ key_order_is _ c.remove.ensures.ordered
