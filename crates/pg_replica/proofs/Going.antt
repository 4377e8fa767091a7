-- A replica that goes: what the map is then, and which files are listed.
use Rattle.std.proofs.Common.{◌≡◌, Bool, true, false, cond, not, Option, None, Some, refl, sym, ap, subst, ◌∙◌}
use Rattle.std.specs.declared.cmp.Ordering.{Ordering}
use Rattle.std.specs.Map.{lookup}
use Rattle.std.specs.BTreeMap.{is_at}
use Rattle.pg_base.specs.declared.id.FileId.{FileId}
use Rattle.pg_base.specs.Id.{file_cmp}
use Rattle.pg_base.proofs.Entries.{entries_from_lookup}
use Rattle.pg_base.proofs.Maps.{lookup-where_key}
use Rattle.pg_base.proofs.Orders.{file_exact, file_total}
use Rattle.pg_replica.specs.declared.replica.Replica.{Replica}
use Rattle.pg_replica.specs.Replicas.{ByFile, replica_in, without_replica}
use Rattle.pg_replica.specs.InOrder.{in_order}
use Rattle.pg_replica.specs.Index.{Files, IsIndexBy}
use Rattle.pg_replica.proofs.InOrder.{lookup-in_order, same_file, same_file_is, sorted-in_order}
use Rattle.pg_replica.proofs.Merging.{sorted_filter}

-- ---- look-ups

pub replica_behind : (es : ByFile) (file q : FileId)
    → replica_in (without_replica es file) q ≡ cond (not (is_at (file_cmp file) q)) (replica_in es q) None
replica_behind es file q =
    lookup-where_key file_cmp (λ k. not (is_at (file_cmp file) k)) q
    (λ x e. ap (λ k. not (is_at (file_cmp file) k)) (sym (file_exact q x e))) es

turned : (t : Bool) (o : Option Replica) → cond t None o ≡ cond (not t) o None
turned true o = refl
turned false o = refl

-- ---- the map

pub in_order-less : (es ds : ByFile) (file : FileId)
    → ((q : FileId) → lookup (same_file q) ds ≡ cond (same_file file q) None (lookup (same_file q) es))
    → in_order ds ≡ without_replica (in_order es) file
in_order-less es ds file left =
    entries_from_lookup file_cmp file_total file_exact (in_order ds) (without_replica (in_order es) file) (sorted-in_order ds)
    (sorted_filter file_cmp (λ k. not (is_at (file_cmp file) k)) (in_order es) (sorted-in_order es))
    (λ q. lookup-in_order q ds ∙ left q
    ∙ ap (λ b. cond b None (lookup (same_file q) es)) (same_file_is file q)
    ∙ turned (is_at (file_cmp file) q) (lookup (same_file q) es)
    ∙ ap (λ o. cond (not (is_at (file_cmp file) q)) o None) (sym (lookup-in_order q es))
    ∙ sym (replica_behind (in_order es) file q))

-- ---- which files are listed

abbrev Order : Type 0
Order = FileId → FileId → Ordering

-- what a look-up finds behind it is another one, as it was
another : (t : Bool) (o : Option Replica) (y : Replica) → cond (not t) o None ≡ Some y → t ≡ false
another true o y h = absurd (let z : ◌≡◌ {A = Option Replica} None (Some y) = h in cc)
another false o y h = refl

as_before : (t : Bool) (o : Option Replica) (y : Replica) → cond (not t) o None ≡ Some y → o ≡ Some y
as_before true o y h = absurd (let z : ◌≡◌ {A = Option Replica} None (Some y) = h in cc)
as_before false o y h = h

listed_before : (t : Bool) (u : Option (Unit {0})) → t ≡ false → cond t None u ≡ None → u ≡ None
listed_before true u other h = cc
listed_before false u other h = h

pub index_less : {P : Replica → Type 0} {us vs : Files} (file : FileId) (es : ByFile) → IsIndexBy P us es
    → (R : Order) → R ≡ file_cmp
    → ((q : FileId) → lookup (is_at (R q)) vs ≡ cond (is_at (R file) q) None (lookup (is_at (R q)) us))
    → (ds : ByFile) → ds ≡ without_replica es file → IsIndexBy P vs ds
index_less {P} {us} {vs} file es index R o less ds is =
    let L : Order → Type 0 =
    (λ r. (q : FileId) → lookup (is_at (r q)) vs ≡ cond (is_at (r file) q) None (lookup (is_at (r q)) us)) in
    let left : L file_cmp = subst L o less in
    subst (IsIndexBy P vs) (sym is) (record {
      by_file = sorted_filter file_cmp (λ k. not (is_at (file_cmp file) k)) es index.by_file;
      lists = λ q y there none. (
          let found : cond (not (is_at (file_cmp file) q)) (replica_in es q) None ≡ Some y = sym (replica_behind es file q) ∙ there in
          index.lists q y (as_before (is_at (file_cmp file) q) (replica_in es q) y found)
          (listed_before (is_at (file_cmp file) q) (lookup (is_at (file_cmp q)) us)
          (another (is_at (file_cmp file) q) (replica_in es q) y found) (sym (left q) ∙ none)));
    })
