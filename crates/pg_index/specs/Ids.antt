-- Sets of ids, as lists, and such sets by id.
use Rattle.std.specs.Prelude.{ℕ, Bool, true, false, not, ◌<◌, ◌≤◌, ◌≡◌, ◌&&◌, ◌||◌, List, [], length, Option, None, Some}
use Rattle.std.specs.List.{insert, list_any, remove}
use Rattle.std.specs.List.Sorted.{IsStrictlySortedBy}
use Rattle.std.specs.BTreeMap.{is_at}
use Rattle.std.specs.Map.{lookup}
use Rattle.pg_base.specs.declared.id.FileId.{FileId}
use Rattle.pg_base.specs.Id.{file_cmp, is_same_file}

-- the id is among these
abbrev pub is_one_of : FileId → List FileId → Bool
is_one_of file ids = list_any (is_same_file file) ids

-- the id stands at this index: what is there, and what is left where it is taken off
pub record IsAt (ids : List FileId) (file : FileId) (i : ℕ) : Type 0 where
  pub below : i < length ids
  pub one : is_one_of file ids ≡ true
  pub more : (q : FileId) → is_one_of q ids ≡ (is_same_file file q || is_one_of q ids)
  pub less : (q : FileId) → is_one_of q (remove ids i) ≡ (not (is_same_file file q) && is_one_of q ids)
  pub ordered : IsStrictlySortedBy file_cmp (remove ids i)

-- the id is not there, and would go before this index
pub record IsGap (ids : List FileId) (file : FileId) (i : ℕ) : Type 0 where
  pub upto : i ≤ length ids
  pub one : is_one_of file ids ≡ false
  pub more : (q : FileId) → is_one_of q (insert ids i file) ≡ (is_same_file file q || is_one_of q ids)
  pub less : (q : FileId) → is_one_of q ids ≡ (not (is_same_file file q) && is_one_of q ids)
  pub ordered : IsStrictlySortedBy file_cmp (insert ids i file)

-- a set for each id
abbrev pub ListsValue : Type 0
ListsValue = List (FileId × List FileId)

abbrev pub or_none : Option (List FileId) → List FileId
or_none None = []
or_none (Some ids) = ids

-- the set of an id: where it has none, the empty one
abbrev pub ids_at : ListsValue → FileId → List FileId
ids_at lists key = or_none (lookup (is_at (file_cmp key)) lists)

-- the set of the first id has the second
abbrev pub has : ListsValue → FileId → FileId → Bool
has lists key file = is_one_of file (ids_at lists key)
