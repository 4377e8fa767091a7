-- How many replicas there are, in whatever order.
use Rattle.std.proofs.Common.{◌≡◌, ◌+◌, arith, false, cond, length, Less, Equal, Greater, None, Some, [], ◌∷◌, refl, ap, ◌∙◌}
use Rattle.std.specs.Ordering.{is_eq, match_ordering}
use Rattle.std.specs.List.{AllByRecursion, IsDistinct}
use Rattle.std.specs.Map.{keys_of, lookup}
use Rattle.std.specs.BTreeMap.{insert_entry}
use Rattle.pg_base.specs.declared.id.FileId.{FileId}
use Rattle.pg_base.specs.Id.{file_cmp}
use Rattle.pg_replica.specs.declared.replica.Replica.{Replica}
use Rattle.pg_replica.specs.Replicas.{ByFile, replica_in}
use Rattle.pg_replica.specs.InOrder.{in_order}
use Rattle.pg_replica.proofs.InOrder.{lookup-in_order, same_file}

-- ---- the number of replicas

-- one more where there is none of the file
length_come : (file : FileId) (x : Replica) (es : ByFile) → replica_in es file ≡ None
    → length (insert_entry file_cmp es file x) ≡ length es + 1
length_come file x [] none = refl
length_come file x (e ∷ es) none =
    elim (file_cmp file e.0) as (λ o. cond (is_eq o) (Some e.1) (replica_in es file) ≡ None
    → length (match_ordering o ((file, x) ∷ e ∷ es) ((e.0, x) ∷ es) (e ∷ insert_entry file_cmp es file x)) ≡ length (e ∷ es) + 1) [
      | Less ↦ λ gone. omega arith
      | Equal ↦ λ gone. absurd (let k : Some e.1 ≡ None = gone in cc)
      | Greater ↦ λ gone. let more = length_come file x es gone in omega (arith, more)
    ] none

none_apart : (file : FileId) (es : ByFile) → AllByRecursion (λ k. same_file file k ≡ false) (keys_of es)
    → lookup (same_file file) es ≡ None
none_apart file [] apart = refl
none_apart file (e ∷ es) apart =
    ap (λ b. cond b (Some e.1) (lookup (same_file file) es)) apart.0 ∙ none_apart file es apart.1

pub length-in_order : (es : ByFile) → IsDistinct same_file (keys_of es) → length (in_order es) ≡ length es
unfolding IsDistinct
length-in_order [] distinct = refl
length-in_order (e ∷ es) distinct =
    let same = length-in_order es distinct.1 in
    let more = length_come e.0 e.1 (in_order es) (lookup-in_order e.0 es ∙ none_apart e.0 es distinct.0) in
    omega (arith, same, more)
