-- The cells of a replica: what is sent of each of its keys.
use Rattle.std.specs.Prelude.{Bool, not, Option, None, Some, is_some}
use Rattle.pg_base.specs.declared.id.FileId.{FileId}
use Rattle.pg_base.specs.Version.{VersionValue}
use Rattle.pg_edges.specs.declared.key.Key.{Key}
use Rattle.pg_edges.specs.declared.key.Key.TheVariants as key
use Rattle.pg_register.specs.declared.flag.Flag.{Flag}
use Rattle.pg_register.specs.Flag.{flag_of}
use Rattle.pg_entries.specs.declared.cell.Cell.{Cell}
use Rattle.pg_entries.specs.declared.cell.Cell.TheVariants as cell
use Rattle.pg_entries.specs.declared.entry.Entry.{Entry}
use Rattle.pg_intent.specs.declared.key.IntentKey.TheVariants as intent_key
use Rattle.pg_intent.specs.Intents.{intent_at}
use Rattle.pg_names.specs.Names.{cell_at as entry_at, own_or_blank}
use Rattle.pg_replica.specs.Replica.{cell_at as head_at}
use Rattle.pg_store.specs.declared.store.Store.{Store}
use Rattle.pg_store.specs.Store.{content_of}

abbrev pub flag_cell : Option Flag → Option Cell
flag_cell None = None
flag_cell (Some flag) = Some (cell.Flag flag)

-- the server is sure of a child's place: it does not owe to have it confirmed
abbrev pub is_sure : Store → FileId → FileId → Bool
is_sure store dir child =
    not (is_some (intent_at store.intents (intent_key.Confirm dir child)))

abbrev pub entry_cell : Option Entry → Bool → Option Cell
entry_cell None sure = None
entry_cell (Some entry) sure = Some (cell.Entry entry sure)

abbrev pub version_cell : Option VersionValue → Option Cell
version_cell None = None
version_cell (Some v) = Some (cell.Version v)

-- the cell of a key, if there is one. Of what is not held nothing is known: its place is the blank
-- one
abbrev pub cell_at : Store → FileId → Key → Option Cell
cell_at store file key.Place = Some (cell.Place (own_or_blank store.names file).place)
cell_at store file (key.Flag server) =
    flag_cell (flag_of (own_or_blank store.names file).flags server)
cell_at store file (key.Entry child) =
    entry_cell (entry_at store.names file child) (is_sure store file child)
cell_at store file (key.Version stamp) =
    version_cell (head_at (content_of store file).heads (key.Version stamp))
