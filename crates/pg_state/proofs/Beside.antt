-- Just what is held has a replica.
use Rattle.std.proofs.Common.{◌≡◌, ◌↔◌, arith, Bool, true, false, IsTrue, Option, None, Some, List, [], ◌∷◌, length, refl, sym, ap, subst, ◌∙◌}
use Rattle.std.specs.List.{AllByRecursion}
use Rattle.std.specs.List.Sorted.{IsStrictlySortedBy}
use Rattle.std.specs.Map.{keys_of}
use Rattle.std.specs.declared.cmp.Ordering.{Ordering}
use Rattle.std.proofs.lemmas.List.{length-map}
use Rattle.pg_base.specs.declared.id.FileId.{FileId}
use Rattle.pg_base.specs.Id.{file_cmp}
use Rattle.pg_names.specs.Names.{InodeValue}
use Rattle.pg_replica.specs.declared.replica.Replica.{Replica}
use Rattle.pg_replica.specs.Replicas.{ByFile, replica_in}
use Rattle.pg_state.specs.Fits.{AreCounted, FitReplicas, FitsBeside, FitsHeld}
use Rattle.pg_state.proofs.Same.{HasAll, found_has, has, same_ids}

length-keys_of : {X : Type 0} (es : List (FileId × X)) → length (keys_of es) ≡ length es
length-keys_of es = length-map es (λ e. e.0)

present : (replicas : ByFile) (id : FileId) (held : InodeValue) (o : Option Replica) → replica_in replicas id ≡ o
    → FitsBeside id held o → has (keys_of replicas) id ≡ true
present replicas id held None is fits = absurd fits
present replicas id held (Some x) is fits = found_has replicas id x is

all_present : (replicas : ByFile) (es : List (FileId × InodeValue)) → AllByRecursion (FitsHeld replicas) es
    → HasAll (keys_of replicas) (keys_of es)
all_present replicas [] all = tt
all_present replicas (e ∷ es) all = (present replicas e.0 e.1 (replica_in replicas e.0) refl all.0, all_present replicas es all.1)

just_held : (replicas : ByFile) (es : List (FileId × InodeValue)) → IsStrictlySortedBy file_cmp (keys_of replicas)
    → IsStrictlySortedBy file_cmp (keys_of es) → length es ≡ length replicas → AllByRecursion (FitsHeld replicas) es
    → keys_of replicas ≡ keys_of es
just_held replicas es by_file by_id many all =
    let a = length-keys_of replicas in
    let b = length-keys_of es in
    same_ids (keys_of replicas) (keys_of es) by_file by_id (all_present replicas es all) (omega (arith, a, b, many))

-- so there are as many
as_many : (replicas : ByFile) (es : List (FileId × InodeValue)) → keys_of replicas ≡ keys_of es → length es ≡ length replicas
as_many replicas es same =
    sym (length-keys_of es) ∙ sym (ap (λ (ks : List FileId). length ks) same) ∙ length-keys_of replicas

-- ---- the test

pub by_ids : {X : Type 0} (R : FileId → FileId → Ordering) → R ≡ file_cmp → (es : List (FileId × X))
    → IsStrictlySortedBy R (keys_of es) → IsStrictlySortedBy file_cmp (keys_of es)
by_ids R o es by_id =
    let S : (FileId → FileId → Ordering) → Type 0 = λ r. IsStrictlySortedBy r (keys_of es) in
    subst S o by_id

pub none_beside : (replicas : ByFile) (es : List (FileId × InodeValue)) (b : Bool) → IsTrue b ↔ AreCounted es replicas
    → b ≡ false → IsTrue false ↔ FitReplicas es replicas
none_beside replicas es b test lacks = (
  λ t. absurd (let k : false ≡ true = t in cc),
  λ fit. subst (λ (c : Bool). IsTrue c) lacks (test.1 (record { few = fit.few; many = as_many replicas es fit.same })),
)

pub all_beside : (replicas : ByFile) (es : List (FileId × InodeValue)) (a b : Bool) → IsTrue a ↔ AreCounted es replicas
    → a ≡ true → IsStrictlySortedBy file_cmp (keys_of replicas) → IsStrictlySortedBy file_cmp (keys_of es)
    → IsTrue b ↔ AllByRecursion (FitsHeld replicas) es → IsTrue b ↔ FitReplicas es replicas
all_beside replicas es a b counted holds by_file by_id all =
    let both = counted.0 holds in (
      λ t. record {
        few = both.few;
        by_id = by_id;
        same = just_held replicas es by_file by_id both.many (all.0 t);
        each = all.0 t;
      },
      λ fit. all.1 fit.each,
    )
