-- A cell that came, as one that is written whole.
use Rattle.std.proofs.Common.{◌≡◌, None, Some, sym, ap, ◌∙◌}
use Rattle.std.specs.BTreeMap.{insert_entry}
use Rattle.pg_base.specs.declared.id.FileId.{FileId}
use Rattle.pg_base.specs.Id.{file_cmp}
use Rattle.pg_entries.specs.declared.entry.Entry.{Entry}
use Rattle.pg_entries.specs.Entry.{entry_of, joined_to}
use Rattle.pg_names.specs.Names.{InodeValue, NamesValue, changed, join_entry, known, set_entry, with_entries, with_entry, with_held, with_joined}

pub entry_joined : (s : NamesValue) (f : FileId) (x : InodeValue) (j e : Entry) → known s f ≡ Some x → j ≡ joined_to (entry_of x.entries e.child) e → j.child ≡ e.child → set_entry s f j ≡ join_entry s f e
entry_joined s f x j e there is child =
    ap (changed s f (with_entry j)) there
    ∙ ap (λ (k : FileId). with_held s f (with_entries x (insert_entry file_cmp x.entries k j))) child
    ∙ ap (λ (y : Entry). with_held s f (with_entries x (insert_entry file_cmp x.entries e.child y))) is
    ∙ sym (ap (changed s f (with_joined e)) there)

-- what is not held takes no cell
pub none_joined : (s : NamesValue) (f : FileId) (e : Entry) → known s f ≡ None → s ≡ join_entry s f e
none_joined s f e absent = sym (ap (changed s f (with_joined e)) absent)
