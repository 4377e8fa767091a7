-- What a server holds at the start of a run: the root, of which every server has a full gold
-- replica.
use Rattle.std.specs.Prelude.{ℕ, true, List, [], zero, suc}
use Rattle.pg_register.specs.declared.flag.Flag.{Flag}
use Rattle.pg_register.specs.Flag.{join_flag}
use Rattle.pg_register.specs.Place.{root, root_place}
use Rattle.pg_names.specs.declared.attributes.Attributes.{Attributes}
use Rattle.pg_names.specs.Names.{NamesValue, begin, new_names}
use Rattle.pg_replica.specs.Replicas.{ByFile, put_replica}
use Rattle.pg_replica.specs.Root.{first_root}

-- the raised flag of a server's first replica of the root
abbrev pub first_flag : ℕ → Flag
first_flag server = record { server = server; birth = 1; number = 1; raised = true }

-- of each of the first servers
abbrev pub first_flags : ℕ → List Flag
first_flags zero = []
first_flags (suc k) = join_flag (first_flags k) (first_flag (suc k))

abbrev pub root_own : ℕ → Attributes
root_own servers = record { place = root_place; flags = first_flags servers }

abbrev pub first_names : ℕ → ℕ → NamesValue
first_names servers server = begin (new_names server) root (root_own servers) true

-- a clean edge to each other server
abbrev pub first_replicas : ℕ → ℕ → ByFile
first_replicas servers server = put_replica [] root (first_root server servers)
