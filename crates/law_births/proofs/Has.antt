-- The births that a server has: those of its replicas, and those of replicas that are to come.
use Rattle.std.proofs.Common.{ℕ, ◌≡◌, ◌≤◌, ◌<◌, ◌+◌, ◌&&◌, ◌||◌, ◌⊎◌, arith, Bool, true, false, not, Option, None, Some, is_some, inl, inr, refl, sym, ap, subst, ◌∙◌, eq-eqb}
use Rattle.std.specs.Option.{option_map}
use Rattle.std.proofs.lemmas.Bool.{eqb-true, false≢true, or_left, or_right, false_from_ne_true}
use Rattle.pg_run.specs.pg_base.declared.id.FileId.{FileId}
use Rattle.pg_run.specs.pg_intent.declared.intent.Intent.{Intent}
use Rattle.pg_run.specs.pg_intent.declared.intent.Intent.TheVariants as intent
use Rattle.pg_run.specs.pg_replica.declared.replica.Replica.{Replica}
use Rattle.pg_run.specs.pg_store.declared.store.Store.{Store}
use Rattle.pg_run.specs.pg_store.declared.wishes.Wish.{Wish}
use Rattle.pg_run.specs.pg_store.Store.{is_held, replica_at}
use Rattle.pg_run.specs.pg_replica.Replicas.{is_of_birth}
use Rattle.pg_run.specs.pg_store.Births.{fill_at, has_birth, is_fill_at, is_pending, wish_at}
use Rattle.pg_run.specs.pg_store.Wishes.{is_with_birth}
use Rattle.pg_run.specs.pg_store.Together.{AreBirths, AreTogether, HoldsAsBefore, IsGiven, IsOver, birth_at}
use Rattle.pg_run.proofs.pg_store.Pairs.{together_as_before}
use Rattle.pg_run.proofs.pg_store.Given.{births_as_before, same_fill}
use Rattle.pg_run.specs.Births.{IsBirthAt}
use Rattle.law_births.proofs.Here.{of_birth}

-- ---- which births

abbrev pub IsWished : Store → FileId → ℕ → Type 0
IsWished a file n = (w : Wish) × (wish_at a file ≡ Some w) × (w.birth ≡ n)

abbrev pub IsFilled : Store → FileId → ℕ → Type 0
IsFilled a file n = (is_held a file ≡ false) × ((g : FileId) × (t : ℕ) × (fill_at a file ≡ Some (intent.Fill g n t)))

abbrev pub Has : Store → FileId → ℕ → Type 0
Has a file n = (birth_at a file ≡ Some n) ⊎ (IsWished a file n ⊎ IsFilled a file n)

-- ---- the same in the words of runs

pub born_of : (o : Option Replica) (n : ℕ) → option_map (λ (x : Replica). x.birth) o ≡ Some n → (x : Replica) × (o ≡ Some x) × (x.birth ≡ n)
born_of None n e = cc
born_of (Some x) n e = (x, refl, let z : x.birth ≡ n = cc in z)

wished_of : (o : Option Wish) (n : ℕ) → is_with_birth o n ≡ true → (w : Wish) × (o ≡ Some w) × (w.birth ≡ n)
wished_of None n e = cc
wished_of (Some w) n e = (w, refl, eqb-true w.birth n e)

filled_of : (o : Option Intent) (n : ℕ) → is_fill_at o n ≡ true → (g : FileId) × (t : ℕ) × (o ≡ Some (intent.Fill g n t))
filled_of None n e = cc
filled_of (Some (intent.Fill g m t)) n e = (g, t, ap (λ (k : ℕ). Some (intent.Fill g k t)) (eqb-true m n e))
filled_of (Some i) n e = cc

pending_by : (a : Store) (file : FileId) (n : ℕ) (s h t : Bool) → is_with_birth (wish_at a file) n ≡ s → is_held a file ≡ h
    → is_fill_at (fill_at a file) n ≡ t → (s || (not h && t)) ≡ true → IsWished a file n ⊎ IsFilled a file n
pending_by a file n true h t w e f any = inl (wished_of (wish_at a file) n w)
pending_by a file n false false true w e f any = inr (e, filled_of (fill_at a file) n f)
pending_by a file n false false false w e f any = cc
pending_by a file n false true t w e f any = cc

-- what is to come
pub pending_has : (a : Store) (file : FileId) (n : ℕ) → is_pending a file n ≡ true → IsWished a file n ⊎ IsFilled a file n
pending_has a file n p = pending_by a file n _ _ _ refl refl refl p

pub to_has : (a : Store) (file : FileId) (n : ℕ) → IsBirthAt a file n → Has a file n
to_has a file n k = elim k [
  | inl x ↦ inl (ap (option_map (λ (y : Replica). y.birth)) x.1 ∙ ap (λ (m : ℕ). Some m) x.2)
  | inr p ↦ inr (pending_has a file n p)
]

wish_tests : (o : Option Wish) (w : Wish) (n : ℕ) → o ≡ Some w → w.birth ≡ n → is_with_birth o n ≡ true
wish_tests None w n e same = cc
wish_tests (Some v) w n e same = eq-eqb v.birth n (let z : v.birth ≡ w.birth = (let k : v ≡ w = cc in ap (λ (x : Wish). x.birth) k) in z ∙ same)

fill_tests : (o : Option Intent) (g : FileId) (n t : ℕ) → o ≡ Some (intent.Fill g n t) → is_fill_at o n ≡ true
fill_tests o g n t e = ap (λ (x : Option Intent). is_fill_at x n) e ∙ eq-eqb n n refl

pub from_has : (a : Store) (file : FileId) (n : ℕ) → Has a file n → IsBirthAt a file n
from_has a file n k = elim k [
  | inl e ↦ inl (born_of (replica_at a file) n e)
  | inr p ↦ inr (elim p [
    | inl w ↦ or_left (is_with_birth (wish_at a file) n) _ (wish_tests (wish_at a file) w.0 n w.1 w.2)
    | inr f ↦ or_right (is_with_birth (wish_at a file) n) _
        (ap (λ b. not b && is_fill_at (fill_at a file) n) f.0 ∙ fill_tests (fill_at a file) f.1.0 n f.1.1 f.1.2)
  ])
]

-- ---- births that are over

pub tests_so : (o : Option Replica) (x : Replica) (b : ℕ) → o ≡ Some x → x.birth ≡ b → is_of_birth o b ≡ true
tests_so o x b there same = ap (λ (z : Option Replica). is_of_birth z b) there ∙ eq-eqb x.birth b same

pub as_was : (a : Store) (f : FileId) (n : ℕ) → Has a f n → (has_birth a f n ≡ true) ⊎ (is_pending a f n ≡ true)
as_was a f n h = elim (from_has a f n h) [
  | inl x ↦ inl (tests_so (replica_at a f) x.0 n x.1 x.2)
  | inr p ↦ inr p
]

-- one that is over it does not have
pub over_has : (a : Store) (f : FileId) (n : ℕ) → IsOver a f n → Has a f n → ⊥
over_has a f n o h = elim (as_was a f n h) [
  | inl here ↦ false≢true (sym o.away ∙ here)
  | inr to_come ↦ false≢true (sym o.unasked ∙ to_come)
]

-- and one that was given out, and that it does not have, is over
pub over_of : (a : Store) (f : FileId) (n : ℕ) → n ≤ a.births → (Has a f n → ⊥) → IsOver a f n
over_of a f n count none = record {
  given = count;
  away = false_from_ne_true (has_birth a f n) (λ h. none (inl (of_birth (replica_at a f) n h)));
  unasked = false_from_ne_true (is_pending a f n) (λ h. none (to_has a f n (inr h)));
}

-- ---- what is known of them at one server

-- births: they were given out
-- apart: and each for one thing
pub record IsAlone (a : Store) : Type 0 where
  pub together : AreTogether a
  pub births : AreBirths a
  pub apart : (f g : FileId) (n : ℕ) → Has a f n → Has a g n → f ≡ g

module _ (a : Store) (h : AreBirths a) where
  given_as : (m n : ℕ) → m ≡ n → IsGiven a m → IsGiven a n
  given_as m n same g = subst (IsGiven a) same g

  pub has_given : (f : FileId) (n : ℕ) → Has a f n → IsGiven a n
  has_given f n k = elim k [
    | inl e ↦ h.replicas f n e
    | inr p ↦ elim p [
      | inl w ↦ given_as w.0.birth n w.2 (h.wishes f w.0 w.1)
      | inr g ↦ h.fills f g.1.0 n g.1.1 g.1.2
    ]
  ]

  pub held_born : (f : FileId) (n : ℕ) → AreTogether a → birth_at a f ≡ Some n → is_held a f ≡ true
  held_born f n together e =
      let x = born_of (replica_at a f) n e in
      sym (together f) ∙ ap (λ (o : Option Replica). is_some o) x.1

  same_some : (m n : ℕ) → ◌≡◌ {A = Option ℕ} (Some m) (Some n) → m ≡ n
  same_some m n e = cc

  same_wish : (v w : Wish) → ◌≡◌ {A = Option Wish} (Some v) (Some w) → v.birth ≡ w.birth
  same_wish v w e = (let k : v ≡ w = cc in ap (λ (x : Wish). x.birth) k)

  none_some : (o : Option Intent) (i : Intent) → o ≡ None → o ≡ Some i → ⊥
  none_some o i none there = let z : ◌≡◌ {A = Option Intent} None (Some i) = sym none ∙ there in cc

  pub unheld : (f : FileId) → is_held a f ≡ true → is_held a f ≡ false → ⊥
  unheld f stays no_more = let z : true ≡ false = sym stays ∙ no_more in cc

  -- of one thing there is one
  pub has_one : (f : FileId) (m n : ℕ) → AreTogether a → Has a f m → Has a f n → m ≡ n
  has_one f m n together one two = elim one [
    | inl e ↦ elim two [
      | inl d ↦ same_some m n (sym e ∙ d)
      | inr q ↦ elim q [
        | inl w ↦ absurd (unheld f (held_born f m together e) (h.wished f w.0 w.1).0)
        | inr g ↦ absurd (unheld f (held_born f m together e) g.0)
      ]
    ]
    | inr p ↦ elim p [
      | inl v ↦ elim two [
        | inl d ↦ absurd (unheld f (held_born f n together d) (h.wished f v.0 v.1).0)
        | inr q ↦ elim q [
          | inl w ↦ sym v.2 ∙ same_wish v.0 w.0 (sym v.1 ∙ w.1) ∙ w.2
          | inr g ↦ absurd (none_some (fill_at a f) _ (h.wished f v.0 v.1).1 g.1.2)
        ]
      ]
      | inr g ↦ elim two [
        | inl d ↦ absurd (unheld f (held_born f n together d) g.0)
        | inr q ↦ elim q [
          | inl w ↦ absurd (none_some (fill_at a f) _ (h.wished f w.0 w.1).1 g.1.2)
          | inr k ↦ same_fill g.1.0 k.1.0 m n g.1.1 k.1.1 (sym g.1.2 ∙ k.1.2)
        ]
      ]
    ]
  ]

-- ---- from one moment to a later one

-- alone: what is known of births stays so
-- count: none that was given out is forgotten
-- newly: and those that it has it had, or gave out since
pub record Goes (a b : Store) : Type 0 where
  pub alone : IsAlone a → IsAlone b
  pub count : a.births ≤ b.births
  pub newly : (f : FileId) (n : ℕ) → Has b f n → Has a f n ⊎ (a.births < n)

pub goes_itself : (a : Store) → Goes a a
goes_itself a = record { alone = λ k. k; count = (let h : a.births ≤ a.births = omega arith in h); newly = λ f n k. inl k }

above : (m n k : ℕ) → m ≤ n → n < k → m < k
above m n k h g = omega arith

at_most : (m n k : ℕ) → m ≤ n → n ≤ k → m ≤ k
at_most m n k h g = omega arith

pub goes_then : {a b c : Store} → Goes a b → Goes b c → Goes a c
goes_then {a} {b} {c} one two = record {
  alone = λ k. two.alone (one.alone k);
  count = at_most a.births b.births c.births one.count two.count;
  newly = λ f n k. elim (two.newly f n k) [ inl was ↦ one.newly f n was | inr new ↦ inr (above a.births b.births n one.count new) ];
}

no_more : (m n : ℕ) → m ≤ n → n < m → ⊥
no_more m n h k = omega arith

-- what is over stays over
pub over_goes : (a b : Store) (f : FileId) (n : ℕ) → Goes a b → IsOver a f n → IsOver b f n
over_goes a b f n g o =
    over_of b f n (at_most n a.births b.births o.given g.count)
    (λ h. elim (g.newly f n h) [ inl was ↦ over_has a f n o was | inr new ↦ no_more n a.births o.given new ])

-- it has none but those that it had
pub none_new : (a b : Store) → (IsAlone a → AreTogether b) → (IsAlone a → AreBirths b) → a.births ≤ b.births
    → ((f : FileId) (n : ℕ) → Has b f n → Has a f n) → Goes a b
none_new a b together births count back = record {
  alone = λ k. record {
    together = together k;
    births = births k;
    apart = λ f g n one two. k.apart f g n (back f n one) (back g n two);
  };
  count = count;
  newly = λ f n k. inl (back f n k);
}

-- or one more, of this thing
module _ (a b : Store) (file : FileId) (together : IsAlone a → AreTogether b) (births : IsAlone a → AreBirths b)
    (count : a.births ≤ b.births)
    (back : (f : FileId) (n : ℕ) → Has b f n → Has a f n ⊎ ((f ≡ file) × (n ≡ a.births + 1))) where
  new_above : (n : ℕ) → n ≡ a.births + 1 → a.births < n
  new_above n same = omega (arith, same)

  clash : (k : IsAlone a) (f : FileId) (n : ℕ) → Has a f n → n ≡ a.births + 1 → ⊥
  clash k f n was same = let g = (has_given a k.births f n was).1 in omega (arith, g, same)

  one_apart : (k : IsAlone a) (f g : FileId) (n : ℕ) → Has b f n → Has b g n → f ≡ g
  one_apart k f g n one two = elim (back f n one) [
    | inl p ↦ elim (back g n two) [ inl q ↦ k.apart f g n p q | inr q ↦ absurd (clash k f n p q.1) ]
    | inr p ↦ elim (back g n two) [ inl q ↦ absurd (clash k g n q p.1) | inr q ↦ p.0 ∙ sym q.0 ]
  ]

  pub one_new : Goes a b
  one_new = record {
    alone = λ k. record { together = together k; births = births k; apart = one_apart k };
    count = count;
    newly = λ f n k. elim (back f n k) [ inl was ↦ inl was | inr new ↦ inr (new_above n new.1) ];
  }

-- ---- where nothing begins

pub has_back : (a b : Store) → HoldsAsBefore a b → (f : FileId) (n : ℕ) → Has b f n → Has a f n
has_back a b same f n k = elim k [
  | inl e ↦ inl (sym (same.births f) ∙ e)
  | inr p ↦ inr (elim p [
    | inl w ↦ inl (w.0, same.wishes f w.0 w.1, w.2)
    | inr g ↦ inr (sym (same.held f) ∙ g.0, (g.1.0, g.1.1, same.fills f (intent.Fill g.1.0 n g.1.1) g.1.2))
  ])
]

pub before_goes : (a b : Store) → HoldsAsBefore a b → Goes a b
before_goes a b same =
    none_new a b (λ k. together_as_before a b same k.together) (λ k. births_as_before a b same k.births) same.given (has_back a b same)
