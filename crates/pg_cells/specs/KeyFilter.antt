-- Which of the unacknowledged keys are sent, and which files may have one.
use Rattle.std.specs.Prelude.{ℕ, ◌≡◌, Bool, false, if◌then◌else◌, List, [], Option, None, Some}
use Rattle.std.specs.BTreeMap.{is_at}
use Rattle.std.specs.List.{list_any}
use Rattle.std.specs.Map.{lookup}
use Rattle.pg_base.specs.declared.id.FileId.{FileId}
use Rattle.pg_base.specs.Id.{file_cmp, is_same_file}
use Rattle.pg_edges.specs.declared.edge.Edge.{Edge}
use Rattle.pg_edges.specs.declared.key.Key.{Key}
use Rattle.pg_pieces.specs.pg_msg.declared.message.Sent.{Sent}
use Rattle.pg_pieces.specs.pg_msg.declared.work.Linked.{Linked}
use Rattle.pg_pieces.specs.pg_msg.declared.work.Touched.{Touched}
use Rattle.pg_pieces.specs.pg_replica.declared.replica.Replica.{Replica}
use Rattle.pg_pieces.specs.pg_replica.Index.{Files}
use Rattle.pg_pieces.specs.pg_store.declared.store.Store.{Store}
use Rattle.pg_pieces.specs.pg_store.Store.{replica_at}
use Rattle.pg_cells.specs.declared.key_filter.KeyFilter.{KeyFilter}
use Rattle.pg_cells.specs.declared.key_filter.KeyFilter.TheVariants as choice
use Rattle.pg_cells.specs.Sending.{Wanted, is_any, is_chosen, key_cell, replica_cells}

-- all keys are wanted, or those that have a new tag
abbrev pub passes : KeyFilter → Wanted
passes choice.All = is_any
passes (choice.Changed touched linked) = is_chosen touched.now linked.now

-- the cell of one key that is on the edge, where the key is wanted
abbrev pub chosen_cells : Store → KeyFilter → FileId → ℕ → Edge → Key × ℕ → List Sent
chosen_cells store which file birth e k =
    if passes which file e.peer k.0 then key_cell store file birth e k else []

-- the cells of keys of a file that are wanted, where it has a replica
abbrev pub file_cells : Store → Wanted → FileId → Option Replica → List Sent
file_cells store wanted file None = []
file_cells store wanted file (Some x) = replica_cells store wanted (file, x)

-- every file of which something is wanted is listed
abbrev pub ListsChosen : Store → KeyFilter → Files → Type 0
ListsChosen store which files = (file : FileId) (x : Replica) → replica_at store file ≡ Some x
    → lookup (is_at (file_cmp file)) files ≡ None
    → replica_cells store (passes which) (file, x) ≡ []

-- every file of these keys is listed
abbrev pub ListsTouched : Files → List Touched → Type 0
ListsTouched files ts = (file : FileId) → lookup (is_at (file_cmp file)) files ≡ None
    → list_any (λ t. is_same_file t.file file) ts ≡ false

-- every file of these edges is listed
abbrev pub ListsLinked : Files → List Linked → Type 0
ListsLinked files ls = (file : FileId) → lookup (is_at (file_cmp file)) files ≡ None
    → list_any (λ l. is_same_file l.file file) ls ≡ false
