-- Counts of keys, by the files that may have some.
use Rattle.std.proofs.Common.{◌≡◌, ℕ, ◌+◌, ◌-◌, ◌^◌, ◌<◌, min, length, List, [], ◌∷◌, Option, None, Some, refl, sym, ap, ◌∙◌, arith}
use Rattle.std.specs.List.{flat_map}
use Rattle.std.specs.List.Sorted.{IsStrictlySortedBy}
use Rattle.std.specs.Map.{keys_of}
use Rattle.std.proofs.lemmas.List.{length-append}
use Rattle.pg_base.specs.declared.id.FileId.{FileId}
use Rattle.pg_base.specs.Id.{file_cmp}
use Rattle.pg_base.proofs.Orders.{file_exact, file_total}
use Rattle.pg_edges.specs.declared.edge.Edge.{Edge}
use Rattle.pg_edges.specs.declared.key.Key.{Key}
use Rattle.pg_pieces.specs.pg_replica.declared.replica.Replica.{Replica}
use Rattle.pg_pieces.specs.pg_replica.Index.{Files, IsIndex}
use Rattle.pg_pieces.specs.pg_replica.Replicas.{ByFile, replica_in}
use Rattle.pg_pieces.proofs.pg_replica.Clean.{clean_pieces}
use Rattle.pg_pieces.proofs.pg_replica.Merging.{by_index}
use Rattle.pg_cells.specs.Counts.{edge_keys, file_keys, replica_keys}

-- the keys of these files, by the replicas that they have
abbrev pub listed_keys : (FileId → Option Replica) → List FileId → ℕ
listed_keys at [] = 0
listed_keys at (k ∷ ks) = file_keys (at k) + listed_keys at ks

-- ---- the keys themselves in place of their number

abbrev keys_in : Replica → List (Key × ℕ)
keys_in x = flat_map (λ (e : Edge). e.keys) x.edges

abbrev keys_at : Option Replica → List (Key × ℕ)
keys_at None = []
keys_at (Some x) = keys_in x

edge_length : (es : List Edge) → edge_keys es ≡ length (flat_map (λ (e : Edge). e.keys) es)
edge_length [] = refl
edge_length (e ∷ es) = ap (λ n. length e.keys + n) (edge_length es) ∙ sym (length-append e.keys (flat_map (λ (e : Edge). e.keys) es))

file_length : (o : Option Replica) → file_keys o ≡ length (keys_at o)
file_length None = refl
file_length (Some x) = edge_length x.edges

all_length : (es : ByFile) → replica_keys es ≡ length (flat_map (λ (r : FileId × Replica). keys_in r.1) es)
all_length [] = refl
all_length (r ∷ rs) =
    ap (λ n. n + replica_keys rs) (edge_length r.1.edges)
    ∙ ap (λ n. length (keys_in r.1) + n) (all_length rs)
    ∙ sym (length-append (keys_in r.1) (flat_map (λ (r : FileId × Replica). keys_in r.1) rs))

listed_length : (at : FileId → Option Replica) (ks : List FileId) → listed_keys at ks ≡ length (flat_map (λ k. keys_at (at k)) ks)
listed_length at [] = refl
listed_length at (k ∷ ks) =
    ap (λ n. n + listed_keys at ks) (file_length (at k))
    ∙ ap (λ n. length (keys_at (at k)) + n) (listed_length at ks)
    ∙ sym (length-append (keys_at (at k)) (flat_map (λ k. keys_at (at k)) ks))

-- the files that the index lists have them all
pub all_listed : (us : Files) (es : ByFile) → IsStrictlySortedBy file_cmp (keys_of us) → IsIndex us es → listed_keys (replica_in es) (keys_of us) ≡ replica_keys es
all_listed us es su index =
    listed_length (replica_in es) (keys_of us)
    ∙ ap length (by_index file_cmp file_total file_exact (λ r. keys_in r.1) (λ k o. keys_at o) us es su index.by_file (λ e. refl) (λ k. refl)
    (λ k x there none. clean_pieces (λ (e : Edge). e.keys) (λ e h. h) x.edges (index.lists k x there none)))
    ∙ sym (all_length es)

-- a count that is at its end
pub counted_all : (n rest all : ℕ) → n < 2 ^ 64 → rest ≡ 0 → min (n + rest) (2 ^ 64 - 1) ≡ min all (2 ^ 64 - 1) → n ≡ min all (2 ^ 64 - 1)
counted_all n rest all lt none h = omega arith

pub counted_none : (rest all : ℕ) → rest ≡ all → min (0 + rest) (2 ^ 64 - 1) ≡ min all (2 ^ 64 - 1)
counted_none rest all h = omega arith
