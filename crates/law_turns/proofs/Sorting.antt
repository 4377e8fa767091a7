-- What begins is gone through in order: slots by directory and child, files by id.
use Rattle.std.proofs.Common.{◌≡◌, List, [], ◌∷◌}
use Rattle.std.specs.BTreeMap.{insert_entry}
use Rattle.std.specs.List.{AllByRecursion}
use Rattle.std.specs.List.Sorted.{IsStrictlySortedBy}
use Rattle.std.specs.Map.{keys_of}
use Rattle.std.specs.declared.cmp.Ordering.{Ordering}
use Rattle.std.specs.declared.cmp.Ordering.TheVariants.{Less}
use Rattle.std.proofs.lemmas.List.Kept.{IsStrictlySortedBy-filter}
use Rattle.pg_run.specs.pg_base.declared.id.FileId.{FileId}
use Rattle.pg_run.specs.pg_base.Id.{file_cmp}
use Rattle.pg_run.specs.pg_intent.declared.key.IntentKey.{IntentKey}
use Rattle.pg_run.specs.pg_intent.Key.{key_cmp}
use Rattle.pg_run.specs.pg_intentions.Fills.{lacks_parent, to_fill, with_each, with_filling, with_held}
use Rattle.pg_run.specs.pg_intentions.Intending.{Slots, add_slots, in_order}
use Rattle.pg_run.specs.pg_intentions.Seeks.{is_seeking, to_seek}
use Rattle.pg_run.specs.pg_msg.declared.work.Slot.{Slot}
use Rattle.pg_run.specs.pg_msg.Work.{slot_cmp}
use Rattle.pg_run.specs.pg_names.Names.{InodeValue, NamesValue}
use Rattle.pg_run.specs.pg_replica.Index.{Files}
use Rattle.pg_run.specs.pg_store.declared.store.Store.{Store}
use Rattle.pg_run.proofs.pg_base.Entries.{IsStrictlySortedBy-insert_entry}
use Rattle.pg_run.proofs.pg_base.Orders.{file_total}
use Rattle.pg_run.proofs.theory_flood_pieces.Choices.{chosen}
use Rattle.pg_run.proofs.pg_msg.Slots.{slot_total}

abbrev NoSlots : Slots
NoSlots = []

no_slots : IsStrictlySortedBy slot_cmp (keys_of NoSlots)
unfolding IsStrictlySortedBy
no_slots = tt

abbrev NoFiles : Files
NoFiles = []

no_files : IsStrictlySortedBy file_cmp (keys_of NoFiles)
unfolding IsStrictlySortedBy
no_files = tt

added : (ss : List Slot) (slots : Slots) → IsStrictlySortedBy slot_cmp (keys_of slots) → IsStrictlySortedBy slot_cmp (keys_of (add_slots slots ss))
added [] slots h = h
added (s ∷ ss) slots h =
    added ss (insert_entry slot_cmp slots s (tt {0})) (IsStrictlySortedBy-insert_entry slot_cmp slot_total s (tt {0}) slots h)

pub slots_sorted : (ss : List Slot) → IsStrictlySortedBy slot_cmp (in_order ss)
slots_sorted ss = added ss [] no_slots

abbrev AreSorted : Files → Type 0
AreSorted files = IsStrictlySortedBy file_cmp (keys_of files)

put : (files : Files) (f : FileId) → AreSorted files → AreSorted (insert_entry file_cmp files f (tt {0}))
put files f h = IsStrictlySortedBy-insert_entry file_cmp file_total f (tt {0}) files h

held_sorted : (names : NamesValue) (files : Files) (f : FileId) (x : InodeValue) → AreSorted files → AreSorted (with_held names files f x)
held_sorted names files f x h =
    let filling = with_filling files f x in
    let h2 = chosen AreSorted x.full files (insert_entry file_cmp files f (tt {0})) h (put files f h) in
    chosen AreSorted (lacks_parent names f x) (insert_entry file_cmp filling x.own.place.parent (tt {0})) filling
    (put filling x.own.place.parent h2) h2

each_sorted : (names : NamesValue) (hs : List (FileId × InodeValue)) (files : Files) → AreSorted files → AreSorted (with_each names files hs)
each_sorted names [] files h = h
each_sorted names (e ∷ es) files h = each_sorted names es (with_held names files e.0 e.1) (held_sorted names files e.0 e.1 h)

pub fills_sorted : (names : NamesValue) → IsStrictlySortedBy file_cmp (to_fill names)
fills_sorted names = each_sorted names names.held [] no_files

pub seeks_sorted : (a : Store) → IsStrictlySortedBy file_cmp (keys_of a.names.held) → IsStrictlySortedBy file_cmp (to_seek a)
seeks_sorted a h = IsStrictlySortedBy-filter file_cmp (is_seeking a) (keys_of a.names.held) h

-- ---- so their keys rise

module _ {A : Type 0} (key : A → IntentKey) where
  abbrev pub Rising : List A → Type 0
  Rising [] = Unit {0}
  Rising (x ∷ xs) = AllByRecursion (λ y. key_cmp (key x) (key y) ≡ Less) xs × Rising xs

  above : (cmp : A → A → Ordering) (x : A) → ((y : A) → cmp x y ≡ Less → key_cmp (key x) (key y) ≡ Less) → (xs : List A)
      → AllByRecursion (λ y. cmp x y ≡ Less) xs → AllByRecursion (λ y. key_cmp (key x) (key y) ≡ Less) xs
  above cmp x so [] all = tt
  above cmp x so (y ∷ ys) all = (so y all.0, above cmp x so ys all.1)

  pub rising : (cmp : A → A → Ordering) → ((x y : A) → cmp x y ≡ Less → key_cmp (key x) (key y) ≡ Less) → (xs : List A)
      → IsStrictlySortedBy cmp xs → Rising xs
  unfolding IsStrictlySortedBy
  rising cmp so [] sorted = tt
  rising cmp so (x ∷ xs) sorted = (above cmp x (so x) xs sorted.0, rising cmp so xs sorted.1)
