-- A thing that is not dirty sees a live gold.
use Rattle.std.proofs.Common.{◌≡◌, ℕ, Bool, ◌&&◌, not, List, Option, None, Some, refl, ap, sym, ◌∙◌, false}
use Rattle.std.specs.List.{filter}
use Rattle.std.specs.List.Sorted.{IsStrictlySortedBy}
use Rattle.std.specs.Map.{keys_of}
use Rattle.std.proofs.lemmas.Bool.{and_right}
use Rattle.pg_base.specs.declared.id.FileId.{FileId}
use Rattle.pg_base.specs.Id.{file_cmp}
use Rattle.pg_register.specs.Flag.{flag_of}
use Rattle.pg_store.specs.pg_names.Names.{InodeValue, NamesValue, known}
use Rattle.pg_store.specs.pg_names.Calm.{AreCalm, IsCalm}
use Rattle.pg_store.specs.declared.store.Store.{Store}
use Rattle.pg_store.specs.Births.{birth_of}
use Rattle.pg_store.specs.Seen.{removed_of, server_of}
use Rattle.pg_store.proofs.pg_house.Dirty.{of_dirty}
use Rattle.pg_pieces.specs.Golds.{goldless, is_goldless, is_goldless_held, is_of_later}

module _ (store : Store) where
  abbrev Is : Option InodeValue → FileId → Bool
  Is o q = is_goldless_held (removed_of store) (server_of store) (birth_of store q) o

  unheld : (q : FileId) → known store.names q ≡ None → is_goldless store q ≡ false
  unheld q h = ap (λ o. Is o q) h

  -- a calm thing sees one
  sees : (q : FileId) (x : InodeValue) → known store.names q ≡ Some x → IsCalm store.names q x → is_goldless store q ≡ false
  sees q x h c =
      ap (λ o. Is o q) h
      ∙ and_right x.full _ (ap (λ t. not t && not (is_of_later (birth_of store q) (flag_of x.own.flags (server_of store)))) c.gold)

  pub dirty_goldless : (ids : List FileId) → IsStrictlySortedBy file_cmp (keys_of store.names.held) → IsStrictlySortedBy file_cmp ids → AreCalm store.names ids
      → (files : List FileId) → files ≡ filter (is_goldless store) ids → files ≡ goldless store
  dirty_goldless ids sorted ordered calm files are = are ∙ sym (of_dirty store.names ids sorted ordered calm (is_goldless store) unheld sees)
