-- Files without unacknowledged keys owe nothing, so it is enough to go over the listed ones.
use Rattle.std.proofs.Common.{◌≡◌, ℕ, true, [], map, refl, ap}
use Rattle.std.specs.List.{flat_map}
use Rattle.std.specs.List.Sorted.{IsStrictlySortedBy}
use Rattle.std.specs.Map.{keys_of}
use Rattle.pg_base.specs.declared.id.FileId.{FileId}
use Rattle.pg_base.specs.Id.{file_cmp}
use Rattle.pg_base.proofs.Orders.{file_exact, file_total}
use Rattle.pg_edges.specs.declared.key.Key.{Key}
use Rattle.pg_event.specs.declared.quiet.OwedKey.{OwedKey}
use Rattle.pg_calls.specs.pg_replica.declared.replica.Replica.{Replica}
use Rattle.pg_edges.specs.Edges.{are_clean}
use Rattle.pg_calls.specs.pg_replica.Replicas.{ByFile, replica_in}
use Rattle.pg_calls.specs.pg_replica.Index.{Files, IsIndex}
use Rattle.pg_calls.proofs.pg_replica.Clean.{clean_pieces}
use Rattle.pg_calls.proofs.pg_replica.Merging.{by_index}
use Rattle.pg_server.specs.Owing.{edge_owes, file_owes, replica_owes}

abbrev owing : ℕ → FileId → ℕ → Key × ℕ → OwedKey
owing server file peer k = record { server = server; file = file; peer = peer; key = k.0 }

no_owes : (server : ℕ) (file : FileId) (x : Replica) → are_clean x.edges ≡ true → replica_owes server (file, x) ≡ []
no_owes server file x h =
    clean_pieces (edge_owes server file) (λ e none. ap (map (owing server file e.peer)) none) x.edges h

pub listed_owes : (server : ℕ) (us : Files) (es : ByFile) → IsStrictlySortedBy file_cmp (keys_of us) → IsIndex us es
    → flat_map (λ k. file_owes server k (replica_in es k)) (keys_of us) ≡ flat_map (replica_owes server) es
listed_owes server us es su index =
    by_index file_cmp file_total file_exact (replica_owes server) (file_owes server) us es su index.by_file (λ e. refl) (λ k. refl)
    (λ k x there none. no_owes server k x (index.lists k x there none))
