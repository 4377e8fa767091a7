-- What is wished for after a wish came, ended or asks another server.
use Rattle.std.proofs.Common.{ℕ, ◌≡◌, Bool, true, false, cond, not, Option, None, Some, [], refl, sym, ap, subst, ◌∙◌}
use Rattle.std.specs.declared.cmp.Ordering.{Ordering}
use Rattle.std.specs.List.Sorted.{IsStrictlySortedBy}
use Rattle.std.specs.Map.{keys_of, lookup, set_value}
use Rattle.std.specs.BTreeMap.{is_at}
use Rattle.std.proofs.lemmas.Map.{keys-set_value}
use Rattle.pg_base.specs.declared.id.FileId.{FileId}
use Rattle.pg_base.specs.Id.{file_cmp, is_same_file}
use Rattle.pg_base.proofs.Entries.{entries_from_lookup}
use Rattle.pg_base.proofs.Maps.{lookup-where_key}
use Rattle.pg_base.proofs.Orders.{file_exact, file_total}
use Rattle.pg_replica.proofs.Merging.{sorted_filter}
use Rattle.pg_store.specs.declared.wishes.Wish.{Wish}
use Rattle.pg_store.specs.Wishes.{WishesValue, aim_wish, aimed, aimed_at, wish_in, without_wish}

abbrev Order : Type 0
Order = FileId → FileId → Ordering

abbrev pub AreSorted : WishesValue → Type 0
AreSorted ws = IsStrictlySortedBy file_cmp (keys_of ws)

pub sorted_none : (ws : WishesValue) → ws ≡ [] → AreSorted ws
unfolding IsStrictlySortedBy
sorted_none ws none = subst AreSorted (sym none) tt

pub sorted_by : (R : Order) → R ≡ file_cmp → (ws : WishesValue) → IsStrictlySortedBy R (keys_of ws) → AreSorted ws
sorted_by R o ws sorted =
    let S : Order → Type 0 = λ r. IsStrictlySortedBy r (keys_of ws) in
    subst S o sorted

-- ---- a wish that ends

pub wish_behind : (ws : WishesValue) (file q : FileId) → wish_in (without_wish ws file) q ≡ cond (not (is_same_file file q)) (wish_in ws q) None
wish_behind ws file q =
    lookup-where_key file_cmp (λ k. not (is_at (file_cmp file) k)) q
    (λ x e. ap (λ k. not (is_at (file_cmp file) k)) (sym (file_exact q x e))) ws

turned : (t : Bool) (o : Option Wish) → cond t None o ≡ cond (not t) o None
turned true o = refl
turned false o = refl

pub taken_wish : (R : Order) → R ≡ file_cmp → (ws vs : WishesValue) (file : FileId) → AreSorted ws → IsStrictlySortedBy R (keys_of vs)
    → ((q : FileId) → lookup (is_at (R q)) vs ≡ cond (is_at (R file) q) None (lookup (is_at (R q)) ws)) → vs ≡ without_wish ws file
taken_wish R o ws vs file sorted ordered less =
    let L : Order → Type 0 = λ r. (q : FileId) → lookup (is_at (r q)) vs ≡ cond (is_at (r file) q) None (lookup (is_at (r q)) ws) in
    let left : L file_cmp = subst L o less in
    entries_from_lookup file_cmp file_total file_exact vs (without_wish ws file) (sorted_by R o vs ordered)
    (sorted_filter file_cmp (λ k. not (is_at (file_cmp file) k)) ws sorted)
    (λ q. left q ∙ turned (is_at (file_cmp file) q) (wish_in ws q) ∙ sym (wish_behind ws file q))

-- ---- a wish that asks another server

pub aim_there : (R : Order) → R ≡ file_cmp → (ws vs : WishesValue) (file : FileId) (x w : Wish) (target : ℕ)
    → lookup (is_at (R file)) ws ≡ Some x → vs ≡ set_value (is_at (R file)) ws w → w ≡ aimed_at target x → vs ≡ aim_wish ws file target
aim_there R o ws vs file x w target there set is =
    let Q : Order → Type 0 = λ r. lookup (is_at (r file)) ws ≡ Some x in
    let P : Order → Type 0 = λ r. vs ≡ set_value (is_at (r file)) ws w in
    subst P o set ∙ ap (set_value (is_at (file_cmp file)) ws) is ∙ sym (ap (aimed ws file target) (subst Q o there))

pub sorted_set : (R : Order) → R ≡ file_cmp → (ws vs : WishesValue) (file : FileId) (w : Wish) → AreSorted ws
    → vs ≡ set_value (is_at (R file)) ws w → AreSorted vs
sorted_set R o ws vs file w sorted set =
    subst (IsStrictlySortedBy file_cmp) (sym (ap (λ (zs : WishesValue). keys_of zs) set ∙ keys-set_value (is_at (R file)) ws w)) sorted
