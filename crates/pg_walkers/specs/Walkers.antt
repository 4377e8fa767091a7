-- What sends walks: an index of what is held.
use Rattle.std.specs.Prelude.{◌≡◌, ◌&&◌, Bool, false, nat_lt, not, List, length}
use Rattle.std.specs.List.{filter}
use Rattle.std.specs.Map.{keys_of}
use Rattle.pg_base.specs.declared.id.FileId.{FileId}
use Rattle.pg_index.specs.Ids.{is_one_of}
use Rattle.pg_names.specs.Calm.{is_root}
use Rattle.pg_names.specs.Names.{NamesValue, is_full}
use Rattle.pg_replica.specs.declared.replica.Replica.{Replica}
use Rattle.pg_replica.specs.Replicas.{ByFile, or_nothing, replica_in}

-- a replica, full or not, of a thing other than the root, with one edge or two
abbrev pub sends_as : FileId → Bool → Replica → Bool
sends_as file full x = not (is_root file)
    && (full && (nat_lt 0 (length x.edges) && nat_lt (length x.edges) 3))

-- a full replica, not of the root, that has one edge or two
abbrev pub sends_walks : NamesValue → ByFile → FileId → Bool
sends_walks names replicas file =
    sends_as file (is_full names file) (or_nothing (replica_in replicas file))

-- all such, by id
abbrev pub walkers_of : NamesValue → ByFile → List FileId
walkers_of names replicas = filter (sends_walks names replicas) (keys_of names.held)

-- these are listed, and no others, but for what is left to be looked at
abbrev pub AreListed : NamesValue → ByFile → List FileId → List FileId → Type 0
AreListed names replicas walkers left = (file : FileId) → is_one_of file left ≡ false
    → is_one_of file walkers ≡ sends_walks names replicas file
