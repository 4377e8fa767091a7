-- Heads: which one has a stamp, and what they cover.
use Rattle.std.proofs.Common.{◌≡◌, ℕ, suc, ◌+◌, ◌<◌, ◌≤◌, Bool, true, false, cond, not, ◌≢◌, leb, ◌||◌, None, Some, Option, Bor, is_some, option_copied, List, [], ◌∷◌, ◌⊎◌, IsTrue, inl, inr, refl, sym, ap, subst, ◌∙◌, arith}
use Rattle.std.specs.List.{All, position_or_len, slice_get}
use Rattle.std.specs.Ordering.{eq_by_cmp}
use Rattle.std.specs.Option.{MatchOption}
use Rattle.std.proofs.lemmas.Bool.Decides.{nat_tests, leb_tells}
use Rattle.std.proofs.Math.Bool.{or-true}
use Rattle.std.proofs.lemmas.List.Elements.{All-head, All-tail, All-cons, All-nil, All-weaker}
use Rattle.pg_base.specs.declared.stamp.Stamp.{Stamp}
use Rattle.pg_base.specs.declared.vector.Actor.{Actor}
use Rattle.pg_base.specs.Stamp.{UpTo, is_before, stamp_cmp}
use Rattle.pg_base.specs.Vector.{number_at}
use Rattle.pg_base.proofs.Orders.{UpTo-same, is_before-false}
use Rattle.pg_base.specs.Version.{VersionValue, stamp_of}
use Rattle.pg_content.specs.Content.{InStampOrder, Among, is_covered, IsCovered, head_at}
use Rattle.pg_content.proofs.Stamps.{same_key, other_key, not_before_itself}
use Rattle.pg_content.proofs.StampOrder.{After}
use Rattle.pg_content.proofs.Inserting.{stops}

-- ---- the head of a stamp

one_more : (n : ℕ) → suc n ≡ 1 + n
one_more n = omega arith

-- the first head is of the stamp, or the head is one of the others
pub head_first : (v : VersionValue) (vs : List VersionValue) (s : Stamp) → s ≡ v.head.stamp → head_at (v ∷ vs) s ≡ Some v
head_first v vs s e = ap (λ b. cond b (Some v) (head_at vs s)) (same_key s v.head.stamp e)

pub head_later : (v : VersionValue) (vs : List VersionValue) (s : Stamp) → (s ≡ v.head.stamp → ⊥) → head_at (v ∷ vs) s ≡ head_at vs s
head_later v vs s other = ap (λ b. cond b (Some v) (head_at vs s)) (other_key s v.head.stamp other)

pub head_none : (vs : List VersionValue) (s : Stamp) → All (λ v. v.head.stamp ≢ s) vs → head_at vs s ≡ None
head_none [] s none = refl
head_none (v ∷ vs) s none =
    head_later v vs s (λ e. All-head (λ (w : VersionValue). w.head.stamp ≢ s) v vs none (sym e)) ∙ head_none vs s (All-tail (λ (w : VersionValue). w.head.stamp ≢ s) v vs none)

none_by : (v : VersionValue) (vs : List VersionValue) (s : Stamp) (b : Bool) → eq_by_cmp stamp_cmp s v.head.stamp ≡ b → cond b (Some v) (head_at vs s) ≡ None → (v.head.stamp ≢ s) × (head_at vs s ≡ None)
none_by v vs s true e h = absurd (let z : Some v ≡ None = h in cc)
none_by v vs s false e h = (λ same. (let z : true ≡ false = sym (same_key s v.head.stamp (sym same)) ∙ e in cc), h)

pub none_head : (vs : List VersionValue) (s : Stamp) → head_at vs s ≡ None → All (λ v. v.head.stamp ≢ s) vs
none_head [] s none = All-nil (λ (w : VersionValue). w.head.stamp ≢ s)
none_head (v ∷ vs) s none =
    let h = none_by v vs s (eq_by_cmp stamp_cmp s v.head.stamp) refl none in
    All-cons (λ (w : VersionValue). w.head.stamp ≢ s) v vs h.0 (none_head vs s h.1)

pub copied_none : (o : Option (Bor VersionValue)) → is_some o ≡ false → option_copied o ≡ None
copied_none None h = refl
copied_none (Some v) h = absurd (let z : true ≡ false = h in cc)

pub none_copied : (o : Option (Bor VersionValue)) → option_copied o ≡ None → is_some o ≡ false
none_copied None h = refl
none_copied (Some v) h = absurd (let z : Some v.now ≡ None = h in cc)

-- what stands where the stamps come to be no longer before it decides
abbrev pub Decides : List VersionValue → Stamp → Option VersionValue → Type 0
Decides vs s o = MatchOption o (head_at vs s ≡ None) (λ v. (v.head.stamp ≡ s → head_at vs s ≡ Some v) × ((v.head.stamp ≢ s) → head_at vs s ≡ None))

after_differs : (v w : VersionValue) (s : Stamp) → is_before v.head.stamp s ≡ false → v.head.stamp ≢ s → UpTo v.head.stamp w.head.stamp → w.head.stamp ≢ s
after_differs v w s from other le same = other (UpTo-same v.head.stamp s (subst (λ x. UpTo v.head.stamp x) same le) (is_before-false v.head.stamp s from))

decides_behind : (v : VersionValue) (vs : List VersionValue) (s : Stamp) (o : Option VersionValue) → is_before v.head.stamp s ≡ true → Decides vs s o → Decides (v ∷ vs) s o
decides_behind v vs s None before h = head_later v vs s (λ e. not_before_itself v.head.stamp s before (sym e)) ∙ h
decides_behind v vs s (Some w) before h = let e = head_later v vs s (λ e. not_before_itself v.head.stamp s before (sym e)) in (λ same. e ∙ h.0 same, λ other. e ∙ h.1 other)

decides_here : (v : VersionValue) (vs : List VersionValue) (s : Stamp) → is_before v.head.stamp s ≡ false → After v vs → Decides (v ∷ vs) s (Some v)
decides_here v vs s from after = (
  λ same. head_first v vs s (sym same),
  λ other. head_later v vs s (λ e. other (sym e)) ∙ head_none vs s (All-weaker (λ (w : VersionValue). UpTo v.head.stamp w.head.stamp) (λ (w : VersionValue). w.head.stamp ≢ s) (λ w le. after_differs v w s from other le) vs after),
)

decides_by : (v : VersionValue) (vs : List VersionValue) (s : Stamp) (b : Bool) → is_before v.head.stamp s ≡ b → After v vs → Decides vs s (slice_get vs (position_or_len (stops stamp_of s) vs))
    → Decides (v ∷ vs) s (slice_get (v ∷ vs) (cond (not (not b)) (1 + position_or_len (stops stamp_of s) vs) 0))
decides_by v vs s true e after rest = subst (λ n. Decides (v ∷ vs) s (slice_get (v ∷ vs) n)) (one_more (position_or_len (stops stamp_of s) vs)) (decides_behind v vs s (slice_get vs (position_or_len (stops stamp_of s) vs)) e rest)
decides_by v vs s false e after rest = decides_here v vs s e after

decides : (vs : List VersionValue) (s : Stamp) → InStampOrder vs → Decides vs s (slice_get vs (position_or_len (stops stamp_of s) vs))
decides [] s order = refl
decides (v ∷ vs) s order = decides_by v vs s (is_before v.head.stamp s) refl order.0 (decides vs s order.1)

pub head_found : (vs : List VersionValue) (s : Stamp) (i : ℕ) (o : Option VersionValue) → InStampOrder vs → i ≡ position_or_len (stops stamp_of s) vs → o ≡ slice_get vs i → Decides vs s o
head_found vs s i o order at read = subst (Decides vs s) (sym (read ∙ ap (slice_get vs) at)) (decides vs s order)

-- ---- covered, as a fact

covered_first : (n m : ℕ) (P : Type 0) (b : Bool) → (IsTrue b → P) → IsTrue (leb n m || b) → (n ≤ m) ⊎ P
covered_first n m P b rest h =
    elim (leb_tells n m) [
      | inl e ↦ inl e.1
      | inr e ↦ inr (rest (subst (λ t. IsTrue (t || b)) e.0 h))
    ]

covered_more : (v : VersionValue) (vs : List VersionValue) (actor : Actor) (n : ℕ) → (n ≤ number_at v.head.vector actor) ⊎ IsCovered vs actor n → IsCovered (v ∷ vs) actor n
covered_more v vs actor n h = elim h [
  | inl here ↦ (v, inl refl, here)
  | inr k ↦ (k.0, inr k.1, k.2)
]

pub covered_is : (vs : List VersionValue) (actor : Actor) (n : ℕ) → IsTrue (is_covered vs actor n) → IsCovered vs actor n
covered_is [] actor n h = absurd (let x : false ≡ true = h in cc)
covered_is (v ∷ vs) actor n h = covered_more v vs actor n (covered_first n (number_at v.head.vector actor) (IsCovered vs actor n) (is_covered vs actor n) (covered_is vs actor n) h)

covered_by : (n m : ℕ) (b : Bool) → (n ≤ m) ⊎ IsTrue b → IsTrue (leb n m || b)
covered_by n m b h = elim h [
  | inl here ↦ grind (arith, nat_tests)
  | inr later ↦ ap (λ t. leb n m || t) later ∙ or-true (leb n m)
]

covered_at : (v w : VersionValue) (vs : List VersionValue) (actor : Actor) (n : ℕ) → (w ≡ v) ⊎ Among w vs → n ≤ number_at w.head.vector actor → (Among w vs → IsTrue (is_covered vs actor n)) → (n ≤ number_at v.head.vector actor) ⊎ IsTrue (is_covered vs actor n)
covered_at v w vs actor n here covers rest = elim here [
  | inl e ↦ inl (let P : VersionValue → Type 0 = λ x. n ≤ number_at x.head.vector actor in subst P e covers)
  | inr k ↦ inr (rest k)
]

covered_among : (vs : List VersionValue) (actor : Actor) (n : ℕ) (w : VersionValue) → Among w vs → n ≤ number_at w.head.vector actor → IsTrue (is_covered vs actor n)
covered_among [] actor n w h covers = absurd h
covered_among (v ∷ vs) actor n w h covers = covered_by n (number_at v.head.vector actor) (is_covered vs actor n) (covered_at v w vs actor n h covers (λ k. covered_among vs actor n w k covers))

pub is_covered_by : (vs : List VersionValue) (actor : Actor) (n : ℕ) → IsCovered vs actor n → IsTrue (is_covered vs actor n)
is_covered_by vs actor n h = covered_among vs actor n h.0 h.1 h.2

-- ---- below a number

room_by : (n m : ℕ) (b : Bool) → (leb n m || b) ≡ false → (m < n) × (b ≡ false)
room_by n m true h = absurd (let z : true ≡ false = sym (or-true (leb n m)) ∙ h in cc)
room_by n m false h = (grind (arith, nat_tests), refl)

-- where none of them knows the number each knows less
pub room_from : (vs : List VersionValue) (actor : Actor) (n : ℕ) → is_covered vs actor n ≡ false → All (λ v. number_at v.head.vector actor < n) vs
room_from [] actor n h = All-nil (λ (v : VersionValue). number_at v.head.vector actor < n)
room_from (v ∷ vs) actor n h =
    let r = room_by n (number_at v.head.vector actor) (is_covered vs actor n) h in
    All-cons (λ (w : VersionValue). number_at w.head.vector actor < n) v vs r.0 (room_from vs actor n r.1)

pub none_from_room : (vs : List VersionValue) (actor : Actor) (n : ℕ) → All (λ v. number_at v.head.vector actor < n) vs → is_covered vs actor n ≡ false
none_from_room [] actor n h = refl
none_from_room (v ∷ vs) actor n h =
    let P : VersionValue → Type 0 = λ w. number_at w.head.vector actor < n in
    let first : leb n (number_at v.head.vector actor) ≡ false = (let lt = All-head P v vs h in grind (arith, nat_tests)) in
    ap (λ b. b || is_covered vs actor n) first ∙ none_from_room vs actor n (All-tail P v vs h)
