use Rattle.std.proofs.Common.{ap, ◌∙◌}
use Rattle.pg_edges.specs.Edges.{are_clean}
use Rattle.pg_replica.specs.declared.replica.Replica.{Replica}
use Rattle.pg_replica.proofs.Clean.{clean_first}
use Rattle.pg_store.proofs.start.first_replicas.Goals as goal

pub add-requires-clause-clean : goal.add-requires-clause-clean
add-requires-clause-clean c =
    ap (λ (x : Replica). are_clean x.edges) c.in_ok-first_root.ensures ∙ clean_first c.args.server c.args.servers
