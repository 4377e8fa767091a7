-- Stamps: which are the same, and which comes first.
use Rattle.std.proofs.Common.{◌≡◌, ℕ, Bool, true, false, ◌⊎◌, inl, inr, refl, sym, ap, subst, ◌∙◌, arith}
use Rattle.std.specs.Cmp.{tied_itself}
use Rattle.std.specs.Ordering.{eq_by_cmp, is_eq}
use Rattle.std.proofs.lemmas.Bool.{cases_lt, false_from_ne_true}
use Rattle.std.proofs.lemmas.Bool.Decides.{nat_tests}
use Rattle.std.proofs.lemmas.Map.Views.{tells_apart}
use Rattle.pg_base.specs.declared.stamp.Stamp.{Stamp}
use Rattle.pg_base.specs.Stamp.{IsBefore, UpTo, is_before, stamp_cmp}
use Rattle.pg_base.proofs.Orders.{UpTo-same, stamp_exact, stamp_of_parts, stamp_total}
use Rattle.pg_content.specs.History.{is_same_stamp}

pub same_stamp : (s t : Stamp) → is_same_stamp s t ≡ true → s ≡ t
same_stamp s t h = stamp_of_parts s.time t.time s.server t.server (grind (arith, nat_tests)) (grind (arith, nat_tests))

same_itself : (s : Stamp) → is_same_stamp s s ≡ true
same_itself s = grind (arith, nat_tests)

pub same_true : (s t : Stamp) → s ≡ t → is_same_stamp s t ≡ true
same_true s t e = let P : Stamp → Type 0 = λ x. is_same_stamp s x ≡ true in subst P e (same_itself s)

pub stamps_differ : (s t : Stamp) → (s ≡ t → ⊥) → is_same_stamp s t ≡ false
stamps_differ s t other = false_from_ne_true (is_same_stamp s t) (λ e. other (same_stamp s t e))

stamp_cases_by : (s t : Stamp) (b : Bool) → is_same_stamp s t ≡ b → (s ≡ t) ⊎ (s ≡ t → ⊥)
stamp_cases_by s t true e = inl (same_stamp s t e)
stamp_cases_by s t false e = inr (λ h. absurd (let x : true ≡ false = sym (same_true s t h) ∙ e in cc))

pub stamp_cases : (s t : Stamp) → (s ≡ t) ⊎ (s ≡ t → ⊥)
stamp_cases s t = stamp_cases_by s t (is_same_stamp s t) refl

pub same_key : (s t : Stamp) → s ≡ t → eq_by_cmp stamp_cmp s t ≡ true
same_key s t e = subst (λ x. eq_by_cmp stamp_cmp s x ≡ true) e (ap is_eq (tied_itself stamp_total s))

pub other_key : (s t : Stamp) → (s ≡ t → ⊥) → eq_by_cmp stamp_cmp s t ≡ false
other_key s t other = false_from_ne_true (eq_by_cmp stamp_cmp s t) (λ e. other (tells_apart stamp_exact s t e))

-- ---- which comes first

pub before_is : (s t : Stamp) → UpTo s t → (s ≡ t → ⊥) → IsBefore s t
before_is s t le other =
    elim (cases_lt s.time t.time) [
      | inl less ↦ inl less
      | inr more ↦
          let a = le.time in
          let b = le.server more in
          elim (cases_lt s.server t.server) [
            | inl lower ↦ inr (omega arith, lower)
            | inr upper ↦ absurd (other (UpTo-same s t le (record { time = more; server = λ q. upper })))
          ]
    ]

pub before_once : (s t : Stamp) → IsBefore s t → IsBefore t s → ⊥
before_once s t p q = elim p [
  | inl a ↦ elim q [ inl b ↦ omega arith | inr b ↦ (let e = b.0 in omega arith) ]
  | inr a ↦ (let e = a.0 in elim q [ inl b ↦ omega arith | inr b ↦ (let x = a.1 in let y = b.1 in omega arith) ])
]

pub before_other : (s t : Stamp) → IsBefore s t → s ≡ t → ⊥
before_other s t p e = let P : Stamp → Type 0 = λ x. IsBefore x t in before_once t t (subst P e p) (subst P e p)

pub before_trans : (a b c : Stamp) → IsBefore a b → IsBefore b c → IsBefore a c
before_trans a b c p q = elim p [
  | inl x ↦ elim q [ inl y ↦ inl (omega arith) | inr y ↦ inl (let e = y.0 in omega arith) ]
  | inr x ↦ (let e = x.0 in elim q [ inl y ↦ inl (omega arith) | inr y ↦ inr (let f = y.0 in omega arith, (let g = x.1 in let i = y.1 in omega arith)) ])
]

pub not_before_itself : (s t : Stamp) → is_before s t ≡ true → s ≡ t → ⊥
not_before_itself s t h e = let P : Stamp → Type 0 = λ x. is_before x t ≡ true in let f : is_before t t ≡ true = subst P e h in grind (arith, nat_tests)
