use Rattle.std.proofs.Common.{◌≡◌}
use Rattle.std.specs.List.{list_any}
use Rattle.pg_replica.specs.Replicas.{have_own_end, is_own_end_in, replica_in}
use Rattle.pg_replica.proofs.replicas.Replicas.have_own_end.Given as goal

-- what is left has one where all have
abbrev pub invariant-loop-file : goal.invariant-loop-file
invariant-loop-file l =
    list_any (λ k. is_own_end_in l.server (replica_in l.self k)) l.file-iterator
    ≡ have_own_end l.self l.server
