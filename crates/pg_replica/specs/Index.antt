-- Which replicas a server need not look at: those whose peers have acknowledged every key, and
-- those that know no number at its end.
use Rattle.std.specs.Prelude.{◌≡◌, if◌then◌else◌, All, Bool, true, false, nat_lt, List, length, None, Some}
use Rattle.std.specs.List.{list_any}
use Rattle.std.specs.Ordering.{eq_by_cmp}
use Rattle.std.specs.BTreeMap.{insert_entry, is_at}
use Rattle.std.specs.List.Sorted.{IsStrictlySortedBy}
use Rattle.std.specs.Map.{keys_of, lookup}
use Rattle.pg_base.specs.declared.id.FileId.{FileId}
use Rattle.pg_base.specs.Id.{file_cmp}
use Rattle.pg_base.specs.Version.{VersionValue}
use Rattle.pg_edges.specs.Edges.{are_clean}
use Rattle.pg_replica.specs.declared.replica.Replica.{Replica}
use Rattle.pg_replica.specs.Replica.{has_end}
use Rattle.pg_replica.specs.Replicas.{ByFile, replica_in}

-- files that are listed
abbrev pub Files : Type 0
Files = List (FileId × Unit {0})

-- every replica that has not P is among the files that are listed
abbrev pub ListsOthers : (Replica → Type 0) → Files → ByFile → Type 0
ListsOthers P listed replicas = (file : FileId) (x : Replica)
    → replica_in replicas file ≡ Some x → lookup (is_at (file_cmp file)) listed ≡ None → P x

pub record IsIndexBy (P : Replica → Type 0) (listed : Files) (replicas : ByFile) : Type 0 where
  pub by_file : IsStrictlySortedBy file_cmp (keys_of replicas)
  pub lists : ListsOthers P listed replicas

-- the replica of a file changed, and with it which files are listed: no other file is taken off,
-- and the replica has P if its file is not listed, where that was so before
pub record Relists (P : Replica → Type 0) (listed new : Files) (file : FileId) (x y : Replica)
    : Type 0 where
  pub others : (q : FileId) → eq_by_cmp file_cmp q file ≡ false
      → lookup (is_at (file_cmp q)) new ≡ None → lookup (is_at (file_cmp q)) listed ≡ None
  pub own : lookup (is_at (file_cmp file)) new ≡ None
      → (lookup (is_at (file_cmp file)) listed ≡ None → P x) → P y

-- no file is taken off
abbrev pub ListsNoFewer : Files → Files → Type 0
ListsNoFewer listed new = (q : FileId)
    → lookup (is_at (file_cmp q)) new ≡ None → lookup (is_at (file_cmp q)) listed ≡ None

-- the file is listed, or the replica has P
abbrev pub ListsUnless : Type 0 → Files → FileId → Type 0
ListsUnless P listed file = lookup (is_at (file_cmp file)) listed ≡ None → P

-- ---- unacknowledged keys

abbrev pub IsAllClean : Replica → Type 0
IsAllClean x = are_clean x.edges ≡ true

-- every replica that is not all clean is among the files that are listed
abbrev pub IsIndex : Files → ByFile → Type 0
IsIndex listed replicas = IsIndexBy IsAllClean listed replicas

-- the files that are listed with this one, if its replica has an edge, on which a key that is
-- touched stays until it is acknowledged
abbrev pub with_keys : Files → FileId → Replica → Files
with_keys listed file x =
    if nat_lt 0 (length x.edges) then insert_entry file_cmp listed file tt else listed

-- ---- numbers at their end

-- no head knows a number at its end, of whichever actor
abbrev pub KnowsNoEnd : Replica → Type 0
KnowsNoEnd x = All (λ v. has_end v.head.vector ≡ false) x.content.heads

-- some head does
abbrev pub knows_end : Replica → Bool
knows_end x = list_any (λ v. has_end v.head.vector) x.content.heads

-- the files that are listed with this one, if the version knows a number at its end
abbrev pub with_end : Files → FileId → VersionValue → Files
with_end listed file v =
    if has_end v.head.vector then insert_entry file_cmp listed file tt else listed
