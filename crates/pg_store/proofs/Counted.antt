-- The number of a view is how many changes it has.
use Rattle.std.proofs.Common.{◌≡◌, sym, length}
use Rattle.std.proofs.lemmas.List.{length-map}
use Rattle.pg_store.specs.declared.store.Store.{Store}
use Rattle.pg_store.specs.Seen.{Removal, changes_of, removed_of, view_of}

pub view_counts_changes : (store : Store) → view_of store ≡ length (changes_of store)
view_counts_changes store = sym (length-map (removed_of store) Removal)
