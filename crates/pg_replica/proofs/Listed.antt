-- Keys that leave the edges leave the edges there.
use Rattle.std.proofs.Common.{◌≡◌, List, [], ◌∷◌, length, refl, ◌∙◌}
use Rattle.std.proofs.lemmas.List.{length-map}
use Rattle.pg_edges.specs.declared.key.Key.{Key}
use Rattle.pg_edges.specs.declared.edge.Edge.{Edge}
use Rattle.pg_edges.specs.Edges.{take_off, retired}
use Rattle.pg_replica.specs.Replica.{without_keys}

-- no edge goes
pub length-without_keys : (es : List Edge) (ks : List Key) → length (without_keys es ks) ≡ length es
length-without_keys es [] = refl
length-without_keys es (k ∷ ks) = length-without_keys (retired es k) ks ∙ length-map es (take_off k)
