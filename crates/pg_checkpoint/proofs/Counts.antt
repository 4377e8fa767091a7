-- The numbers of slots, and what is loaded.
use Rattle.std.proofs.Common.{◌≡◌, ◌⊎◌, inl, inr, ℕ, ◌+◌, ◌<◌, ◌≤◌, List, Option, Some, None, MatchOption, refl, sym, ◌∙◌, ap, subst, arith}
use Rattle.pg_checkpoint.specs.Slots.{Slot, IsSlot, IsEmpty}
use Rattle.pg_checkpoint.specs.Loads.{LoadsTo, number_of, LoadsOldOrNew}
use Rattle.pg_checkpoint.specs.Heads.{slot_of, counted, CountsAs}
use Rattle.pg_checkpoint.specs.declared.head.Entry.{Entry}
use Rattle.pg_checkpoint.proofs.Slots.{one_slot}

pub counts : (file : List ℕ) (entry : Option Entry) → MatchOption entry (IsEmpty file) (λ e. IsSlot file (slot_of e file)) → CountsAs file (counted entry)
counts file None empty = inl (empty, refl)
counts file (Some entry) is = inr (slot_of entry file, is, refl)

pub is_number : (file : List ℕ) (n : ℕ) → CountsAs file n → (slot : Slot) → IsSlot file slot → slot.number ≡ n
is_number file n (inl empty) slot is = absurd (empty.0 slot is)
is_number file n (inr found) slot is = ap (λ (s : Slot). s.number) (one_slot file slot found.0 is found.1) ∙ found.2

module _ (first second : List ℕ) (m n : ℕ) (one : CountsAs first m) (two : CountsAs second n) where
  -- the second has no smaller number
  none_smaller : m ≤ n → (slot : Slot) → ((other : Slot) → IsSlot second other → other.number < slot.number) → slot.number ≡ m → IsEmpty second × (n ≡ 0)
  none_smaller le slot less is = elim two [
    | inl empty ↦ empty
    | inr found ↦ absurd (let below = less found.0 found.1 in let num = found.2 in omega (arith, le, is))
  ]

  -- the first has a greater number
  none_greater : n < m → (slot : Slot) → ((other : Slot) → IsSlot first other → other.number ≤ slot.number) → slot.number ≡ n → ⊥
  none_greater lt slot most is = elim one [
    | inl empty ↦ let none = empty.1 in omega (arith, lt)
    | inr found ↦ let above = most found.0 found.1 in let num = found.2 in omega (arith, lt, is)
  ]

  not_none : n < m → IsEmpty first → ⊥
  not_none lt empty = elim one [
    | inl is ↦ let none = is.1 in omega (arith, lt)
    | inr found ↦ empty found.0 found.1
  ]

  second_none : IsEmpty second → n ≡ 0
  second_none empty = elim two [
    | inl is ↦ is.1
    | inr found ↦ absurd (empty found.0 found.1)
  ]

  -- the number of what is loaded
  pub number_second : m ≤ n → (was : Option Slot) → LoadsTo first second was → number_of was ≡ n
  number_second le None is = sym (second_none is.1)
  number_second le (Some slot) (inl is) = is_number second n two slot is.0
  number_second le (Some slot) (inr is) =
      let num = is_number first m one slot is.0 in
      let empty = none_smaller le slot is.1 num in
      let none = empty.1 in omega (arith, le, num)

  pub number_first : n < m → (was : Option Slot) → LoadsTo first second was → number_of was ≡ m
  number_first lt None is = absurd (not_none lt is.0)
  number_first lt (Some slot) (inl is) = absurd (none_greater lt slot is.1 (is_number second n two slot is.0))
  number_first lt (Some slot) (inr is) = is_number first m one slot is.0

  -- something is loaded, or nothing
  pub some_was : (n < m) ⊎ (m ≤ n) → (was : Option Slot) × LoadsTo first second was
  some_was (inl lt) = elim one [
    | inl empty ↦ absurd (not_none lt empty.0)
    | inr found ↦ (Some found.0, inr (found.1, λ other is. let o = is_number second n two other is in let f = found.2 in omega (arith, lt)))
  ]
  some_was (inr le) = elim two [
    | inr found ↦ (Some found.0, inl (found.1, λ other is. let o = is_number first m one other is in let f = found.2 in omega (arith, le)))
    | inl empty ↦ elim one [
      | inl none ↦ (None, (none.0, empty.0))
      | inr found ↦ (Some found.0, inr (found.1, λ other is. absurd (empty.0 other is)))
    ]
  ]

  module _ (new : Slot) where
    -- the new slot is the first
    pub first_new : new.number ≡ n + 1 → (image : List ℕ) → IsSlot image new → LoadsTo image second (Some new)
    first_new next_is image is = inr (is, λ other other_is. let o = is_number second n two other other_is in omega (arith, next_is))

    pub second_new : new.number ≡ m + 1 → (image : List ℕ) → IsSlot image new → LoadsTo first image (Some new)
    second_new next_is image is = inl (is, λ other other_is. let o = is_number first m one other other_is in omega (arith, next_is))

    first_empty : m ≤ n → (was : Option Slot) → LoadsTo first second was → (image : List ℕ) → IsEmpty image → LoadsOldOrNew was new image second
    first_empty le None is image empty = inl (empty, is.1)
    first_empty le (Some slot) (inl is) image empty = inl (inl (is.0, λ other other_is. absurd (empty other other_is)))
    first_empty le (Some slot) (inr is) image empty =
        let num = is_number first m one slot is.0 in
        let none = none_smaller le slot is.1 num in
        let zero = none.1 in
        inr (inr (omega (arith, le, num), (empty, none.0)))

    second_empty : n < m → (was : Option Slot) → LoadsTo first second was → (image : List ℕ) → IsEmpty image → LoadsOldOrNew was new first image
    second_empty lt None is image empty = inl (is.0, empty)
    second_empty lt (Some slot) (inl is) image empty = absurd (none_greater lt slot is.1 (is_number second n two slot is.0))
    second_empty lt (Some slot) (inr is) image empty = inl (inr (is.0, λ other other_is. absurd (empty other other_is)))

    -- whatever a crash leaves of the file that is written
    pub first_written : m ≤ n → new.number ≡ n + 1 → (was : Option Slot) → LoadsTo first second was → (image : List ℕ) → (image ≡ first) ⊎ (IsEmpty image ⊎ IsSlot image new) → LoadsOldOrNew was new image second
    first_written le next_is was is image (inl same) = inl (subst (λ (l : List ℕ). LoadsTo l second was) (sym same) is)
    first_written le next_is was is image (inr (inl empty)) = first_empty le was is image empty
    first_written le next_is was is image (inr (inr slot)) = inr (inl (first_new next_is image slot))

    pub second_written : n < m → new.number ≡ m + 1 → (was : Option Slot) → LoadsTo first second was → (image : List ℕ) → (image ≡ second) ⊎ (IsEmpty image ⊎ IsSlot image new) → LoadsOldOrNew was new first image
    second_written lt next_is was is image (inl same) = inl (subst (λ (l : List ℕ). LoadsTo first l was) (sym same) is)
    second_written lt next_is was is image (inr (inl empty)) = second_empty lt was is image empty
    second_written lt next_is was is image (inr (inr slot)) = inr (inl (second_new next_is image slot))

-- two files load to one slot
pub loads_once : (first second : List ℕ) (a b : Option Slot) → LoadsTo first second a → LoadsTo first second b → a ≡ b
loads_once first second None None is other = refl
loads_once first second None (Some b) is (inl other) = absurd (is.1 b other.0)
loads_once first second None (Some b) is (inr other) = absurd (is.0 b other.0)
loads_once first second (Some a) None (inl is) other = absurd (other.1 a is.0)
loads_once first second (Some a) None (inr is) other = absurd (other.0 a is.0)
loads_once first second (Some a) (Some b) (inl is) (inl other) = ap Some (one_slot second a b is.0 other.0)
loads_once first second (Some a) (Some b) (inl is) (inr other) = absurd (let most = is.1 b other.0 in let less = other.1 a is.0 in omega arith)
loads_once first second (Some a) (Some b) (inr is) (inl other) = absurd (let less = is.1 b other.0 in let most = other.1 a is.0 in omega arith)
loads_once first second (Some a) (Some b) (inr is) (inr other) = ap Some (one_slot first a b is.0 other.0)
