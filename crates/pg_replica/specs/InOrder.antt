-- Replicas in the order of their files.
use Rattle.std.specs.Prelude.{[], ◌∷◌}
use Rattle.std.specs.BTreeMap.{insert_entry}
use Rattle.pg_base.specs.Id.{file_cmp}
use Rattle.pg_replica.specs.Replicas.{ByFile}

-- entries of different files, in whatever order
abbrev pub in_order : ByFile → ByFile
in_order [] = []
in_order (e ∷ es) = insert_entry file_cmp (in_order es) e.0 e.1
