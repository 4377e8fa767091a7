use Rattle.std.proofs.Common.{◌≡◌, drop}
use Rattle.std.specs.List.{find}
use Rattle.pg_store.specs.pg_names.Names.{known}
use Rattle.pg_pieces.specs.Parting.{first_child, is_child_at}
use Rattle.pg_pieces.proofs.parting.first_child.Given as goal

abbrev pub invariant-loop-file : goal.invariant-loop-file
invariant-loop-file l = find (λ q. is_child_at l.dir q (known l.names q)) (drop l.file-index l.file-items) ≡ first_child l.names l.dir
