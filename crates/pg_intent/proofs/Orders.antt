-- The order in which one event begins intentions: the derived one is it, it is total, and only one
-- key ties with a key.
use Rattle.std.proofs.Common.{ℕ, ◌≡◌, ◌∙◌, ◌&&◌, eqb, refl, sym, ap, subst, arith, Less, Equal, Greater}
use Rattle.std.specs.declared.cmp.Ordering.{Ordering}
use Rattle.std.specs.Ordering.{is_eq, nat_cmp, ordering_then}
use Rattle.std.specs.Cmp.{IsTotalOrder, nat_cmp_total, on_total, then_total}
use Rattle.std.proofs.lemmas.Bool.{eq-eqb, ne_eqb}
use Rattle.std.proofs.lemmas.Bool.Decides.{nat_tests}
use mathlib.Core.Path.{fun_ext}
use Rattle.pg_base.specs.declared.id.FileId.{FileId}
use Rattle.pg_base.specs.Id.{file_cmp}
use Rattle.pg_base.proofs.Orders.{file_order_is, file_total}
use Rattle.pg_register.specs.Place.{root}
use Rattle.pg_intent.specs.declared.key.IntentKey.{IntentKey}
use Rattle.pg_intent.specs.declared.key.IntentKey.TheVariants as key
use Rattle.pg_intent.specs.Key.{is_same_key, key_cmp, rank}
use Rattle.pg_intent.specs.contracts.key.IntentKeyOrd.TheImpl as derived

-- the derived order is the one of the definition
pub order_of : (a b : IntentKey) → (derived.cmp-value).it a b ≡ key_cmp a b
order_of (key.Bye f b p) (key.Bye g c q) = ap (λ r. ordering_then (r f g) (ordering_then (nat_cmp b c) (nat_cmp p q))) file_order_is
order_of (key.Patch d f) (key.Patch e g) = ap (λ r. ordering_then (r d e) (r f g)) file_order_is
order_of (key.Fill f) (key.Fill g) = ap (λ r. r f g) file_order_is
order_of (key.Seek f) (key.Seek g) = ap (λ r. r f g) file_order_is
order_of (key.Confirm d f) (key.Confirm e g) = ap (λ r. ordering_then (r d e) (r f g)) file_order_is
order_of (key.Leave f) (key.Leave g) = ap (λ r. r f g) file_order_is
order_of a b = refl

-- ---- by its parts: the root where there is no second file, and 0 where there is no number

first : IntentKey → FileId
first (key.Bye f b p) = f
first (key.Patch d f) = d
first (key.Fill f) = f
first (key.Seek f) = f
first (key.Confirm d f) = d
first (key.Leave f) = f

second : IntentKey → FileId
second (key.Patch d f) = f
second (key.Confirm d f) = f
second k = root

birth : IntentKey → ℕ
birth (key.Bye f b p) = b
birth k = 0

peer : IntentKey → ℕ
peer (key.Bye f b p) = p
peer k = 0

abbrev by_parts : IntentKey → IntentKey → Ordering
by_parts a b = ordering_then (nat_cmp (rank a) (rank b)) (ordering_then (file_cmp (first a) (first b))
    (ordering_then (file_cmp (second a) (second b)) (ordering_then (nat_cmp (birth a) (birth b)) (nat_cmp (peer a) (peer b)))))

then-equal : (o : Ordering) → ordering_then o Equal ≡ o
then-equal Less = refl
then-equal Equal = refl
then-equal Greater = refl

by_parts_is : (a b : IntentKey) → by_parts a b ≡ key_cmp a b
unfolding first second birth peer
by_parts_is (key.Bye f b p) (key.Bye g c q) = refl
by_parts_is (key.Patch d f) (key.Patch e g) = ap (ordering_then (file_cmp d e)) (then-equal (file_cmp f g))
by_parts_is (key.Fill f) (key.Fill g) = then-equal (file_cmp f g)
by_parts_is (key.Seek f) (key.Seek g) = then-equal (file_cmp f g)
by_parts_is (key.Confirm d f) (key.Confirm e g) = ap (ordering_then (file_cmp d e)) (then-equal (file_cmp f g))
by_parts_is (key.Leave f) (key.Leave g) = then-equal (file_cmp f g)
by_parts_is a b = refl

by_parts_total : IsTotalOrder by_parts
by_parts_total =
    then_total (on_total rank nat_cmp_total) (then_total (on_total first file_total)
    (then_total (on_total second file_total) (then_total (on_total birth nat_cmp_total) (on_total peer nat_cmp_total))))

pub key_total : IsTotalOrder key_cmp
key_total = subst IsTotalOrder (fun_ext (λ (a : IntentKey). fun_ext (λ (b : IntentKey). by_parts_is a b))) by_parts_total

-- ---- what ties

number_eq : (a b : ℕ) → is_eq (nat_cmp a b) ≡ eqb a b
number_eq a b = by (nat_cmp a b) refl
  where
    by : (o : Ordering) → nat_cmp a b ≡ o → is_eq o ≡ eqb a b
    by Less h = sym (ne_eqb a b (λ e. grind (arith, nat_tests)))
    by Equal h = sym (eq-eqb a b (grind (arith, nat_tests)))
    by Greater h = sym (ne_eqb a b (λ e. grind (arith, nat_tests)))

both_eq : (o p : Ordering) → is_eq (ordering_then o p) ≡ (is_eq o && is_eq p)
both_eq Less p = refl
both_eq Equal p = refl
both_eq Greater p = refl

pub ties : (a b : IntentKey) → is_eq (key_cmp a b) ≡ is_same_key a b
ties (key.Bye f b p) (key.Bye g c q) =
    both_eq (file_cmp f g) (ordering_then (nat_cmp b c) (nat_cmp p q))
    ∙ ap (λ t. is_eq (file_cmp f g) && t) (both_eq (nat_cmp b c) (nat_cmp p q) ∙ ap (λ t. t && is_eq (nat_cmp p q)) (number_eq b c) ∙ ap (λ t. eqb b c && t) (number_eq p q))
ties (key.Patch d f) (key.Patch e g) = both_eq (file_cmp d e) (file_cmp f g)
ties (key.Fill f) (key.Fill g) = refl
ties (key.Seek f) (key.Seek g) = refl
ties (key.Confirm d f) (key.Confirm e g) = both_eq (file_cmp d e) (file_cmp f g)
ties (key.Leave f) (key.Leave g) = refl
ties a b = refl
