use Rattle.std.proofs.Common.{rules}
use Rattle.std.proofs.lemmas.List.Sorted.{answers_always}
use Rattle.pg_edges.specs.declared.edge.Edge.{Edge}
use Rattle.pg_edges.proofs.Lists.{found_at, missing_at}
use Rattle.pg_edges.proofs.edges.search.Goals as goal

pub returns-else-is_past-clause-found : goal.returns-else-is_past-clause-found
returns-else-is_past-clause-found c =
    found_at c.args.edges.now c.args.peer c.binary_search_by_key.result c.binary_search_by_key.ensures.bound
    (c.binary_search_by_key.ensures.position (λ (e : Edge). e.peer) (answers_always _ _ _ (λ f a r g h. search rules)))

pub returns-else-is_past-clause-missing : goal.returns-else-is_past-clause-missing
returns-else-is_past-clause-missing c =
    missing_at c.args.edges.now c.args.peer c.binary_search_by_key.result c.requires c.binary_search_by_key.ensures.bound
    (c.binary_search_by_key.ensures.position (λ (e : Edge). e.peer) (answers_always _ _ _ (λ f a r g h. search rules)))
