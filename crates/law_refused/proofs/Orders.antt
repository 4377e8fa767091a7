-- Orders of stamps and of ids: what their tests tell.
use Rattle.std.proofs.Common.{ℕ, ◌≡◌, ◌<◌, ◌==◌, ◌||◌, ◌&&◌, ◌⊎◌, Bool, true, false, Less, Equal, Greater, inl, inr, refl, sym, ap, ◌∙◌, arith, eqb, ltb}
use Rattle.std.specs.Cmp.{ranks}
use Rattle.std.specs.Ordering.{MatchOrdering, nat_cmp, ordering_reverse, ordering_then}
use Rattle.std.specs.Prelude.{nat_lt}
use Rattle.std.specs.declared.cmp.Ordering.{Ordering}
use Rattle.std.proofs.lemmas.Bool.{eq-eqb, eqb-true, lt-ltb, ltb-true}
use Rattle.std.proofs.lemmas.Bool.Decides.{nat_tests}
use Rattle.std.proofs.lemmas.Cmp.{tied_itself}
use Rattle.pg_run.specs.pg_base.declared.id.FileId.{FileId}
use Rattle.pg_run.specs.pg_base.declared.stamp.Stamp.{Stamp}
use Rattle.pg_run.specs.pg_base.Id.{IsBefore as IsLesser, file_cmp, rank}
use Rattle.pg_run.specs.pg_base.Stamp.{IsBefore, is_before}
use Rattle.pg_run.proofs.pg_base.Orders.{file_total}

-- ---- stamps

before_case : (t u v : Bool) (a b : Stamp) → nat_lt a.time b.time ≡ t → (a.time == b.time) ≡ u → nat_lt a.server b.server ≡ v
    → (t || (u && v)) ≡ true → IsBefore a b
before_case true u v a b p q r e = inl (ltb-true a.time b.time p)
before_case false true true a b p q r e = inr (eqb-true a.time b.time q, ltb-true a.server b.server r)
before_case false true false a b p q r e = absurd cc
before_case false false v a b p q r e = absurd cc

pub before_of : (a b : Stamp) → is_before a b ≡ true → IsBefore a b
before_of a b e = before_case (nat_lt a.time b.time) (a.time == b.time) (nat_lt a.server b.server) a b refl refl refl e

or_true : (t : Bool) → (t || true) ≡ true
or_true true = refl
or_true false = refl

pub before_test : (a b : Stamp) → IsBefore a b → is_before a b ≡ true
before_test a b (inl lt) = let one : ltb a.time b.time ≡ true = lt-ltb _ _ lt in rw one refl
before_test a b (inr both) =
    let same : eqb a.time b.time ≡ true = eq-eqb _ _ both.0 in
    let less : ltb a.server b.server ≡ true = lt-ltb _ _ both.1 in
    rw (same, less) (or_true (ltb a.time b.time))

-- no stamp is before itself
pub itself : (a : Stamp) → is_before a a ≡ false
itself a = grind (arith, nat_tests)

-- what is not behind the first of two is before the second
pub before_then : (a b c : Stamp) → is_before a b ≡ false → is_before a c ≡ true → is_before b c ≡ true
before_then a b c h g = grind (arith, nat_tests)

-- and is not behind the second
pub not_behind : (a b c : Stamp) → is_before a b ≡ false → is_before a c ≡ true → is_before c b ≡ false
not_behind a b c h g = grind (arith, nat_tests)

-- ---- ids

first_less : (x y : ℕ) (o p : Ordering) → MatchOrdering p (x < y) (x ≡ y) (y < x) → ordering_then p o ≡ Less → (x < y) ⊎ ((x ≡ y) × (o ≡ Less))
first_less x y o Less m h = inl m
first_less x y o Equal m h = inr (m, h)
first_less x y o Greater m h = absurd (let e : Greater ≡ Less = h in cc)

less_is : (x y : ℕ) (p : Ordering) → MatchOrdering p (x < y) (x ≡ y) (y < x) → p ≡ Less → x < y
less_is x y Less m h = m
less_is x y Equal m h = absurd (let e : Equal ≡ Less = h in cc)
less_is x y Greater m h = absurd (let e : Greater ≡ Less = h in cc)

less : (x y : ℕ) → x < y → nat_cmp x y ≡ Less
less x y h = grind (arith, nat_tests)

tied : (x y : ℕ) → x ≡ y → nat_cmp x y ≡ Equal
tied x y h = grind (arith, nat_tests)

module _ (a b : FileId) where
  abbrev Kinds : Ordering
  Kinds = nat_cmp (rank a.kind) (rank b.kind)

  abbrev Servers : Ordering
  Servers = nat_cmp a.server b.server

  abbrev Numbers : Ordering
  Numbers = nat_cmp a.number b.number

  pub lesser_of : file_cmp a b ≡ Less → IsLesser a b
  lesser_of h =
      elim (first_less (rank a.kind) (rank b.kind) (ordering_then Servers Numbers) Kinds (ranks (rank a.kind) (rank b.kind)) h) [
        | inl kind ↦ inl kind
        | inr k ↦ elim (first_less a.server b.server Numbers Servers (ranks a.server b.server) k.1) [
          | inl server ↦ inr (inl (k.0, server))
          | inr s ↦ inr (inr (k.0, s.0, less_is a.number b.number Numbers (ranks a.number b.number) s.1))
        ]
      ]

  pub less_of : IsLesser a b → file_cmp a b ≡ Less
  less_of (inl kind) =
      ap (λ (o : Ordering). ordering_then o (ordering_then Servers Numbers)) (less (rank a.kind) (rank b.kind) kind)
  less_of (inr (inl k)) =
      ap (λ (o : Ordering). ordering_then o (ordering_then Servers Numbers)) (tied (rank a.kind) (rank b.kind) k.0)
      ∙ ap (λ (o : Ordering). ordering_then o Numbers) (less a.server b.server k.1)
  less_of (inr (inr k)) =
      ap (λ (o : Ordering). ordering_then o (ordering_then Servers Numbers)) (tied (rank a.kind) (rank b.kind) k.0)
      ∙ ap (λ (o : Ordering). ordering_then o Numbers) (tied a.server b.server k.1)
      ∙ less a.number b.number k.2

reversed : (o : Ordering) → ordering_reverse o ≡ Less → o ≡ Greater
reversed Less h = absurd (let e : Greater ≡ Less = h in cc)
reversed Equal h = absurd (let e : Equal ≡ Less = h in cc)
reversed Greater h = refl

pub not_twice : (a b : FileId) → file_cmp a b ≡ Less → file_cmp b a ≡ Less → ⊥
not_twice a b h g =
    let back : Greater ≡ Less = sym (reversed (file_cmp a b) (sym (file_total.antisymm b a) ∙ g)) ∙ h in cc

pub not_itself : (a : FileId) → file_cmp a a ≡ Less → ⊥
not_itself a h = let e : Equal ≡ Less = sym (tied_itself file_total a) ∙ h in cc
