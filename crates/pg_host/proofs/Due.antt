-- What was saved last.
use Rattle.std.proofs.Common.{◌≡◌, ◌⊎◌, inl, inr, ℕ, zero, suc, ◌+◌, ◌-◌, ◌*◌, ◌%◌, ◌^◌, ◌==◌, ◌≤◌, ◌<◌, Bool, true, false, List, [], ◌∷◌, length, take, Option, Some, None, refl, sym, ◌∙◌, ap, subst, arith}
use Rattle.std.proofs.lemmas.Bool.{cases_lt}
use Rattle.std.proofs.lemmas.Bool.Decides.{nat_tests}
use Rattle.std.proofs.lemmas.Nat.{mod-mul-add}
use Rattle.pg_server.specs.Local.{effect_of}
use Rattle.pg_checkpoint.specs.Loads.{number_of}
use Rattle.pg_checkpoint.specs.Slots.{Slot}
use Rattle.pg_saving.specs.Saves.{CanSave, IsSavable, saved}
use Rattle.pg_state.specs.Spelling.{state_bytes}
use Rattle.pg_store.specs.declared.store.Store.{Store}
use Rattle.pg_host.specs.declared.asking.Asked.{Asked}
use Rattle.pg_host.specs.Sends.{after_all}
use Rattle.pg_host.specs.Slots.{IsSavedLast, SavesAt, SavesIf, SlotsBehind, between}

-- ---- when it is time

-- so many behind a multiple
behind_multiple : (n q r : ℕ) → n ≡ 1024 * q + r → r < 1024 → n % 1024 ≡ r
behind_multiple n q r is less =
    let e : n ≡ q * 1024 + r = omega (arith, is) in
    ap (λ (k : ℕ). k % 1024) e ∙ mod-mul-add q 1024 r less

not_due : (n q r : ℕ) → n ≡ 1024 * q + r → 1 ≤ r → r < 1024 → (n % between == 0) ≡ false
not_due n q r is some less =
    let left : n % 1024 ≡ r = behind_multiple n q r is less in
    ap (λ (k : ℕ). k == 0) left ∙ test
  where
    test : (r == 0) ≡ false
    test = grind (arith, nat_tests)

due : (n q : ℕ) → n ≡ 1024 * q → (n % between == 0) ≡ true
due n q is =
    let e : n ≡ 1024 * q + 0 = omega (arith, is) in
    let small : 0 < 1024 = omega arith in
    ap (λ (k : ℕ). k == 0) (behind_multiple n q 0 e small)

module _ (server servers : ℕ) where
  -- it is not
  nothing_saved : (n q r count : ℕ) (s : Store) (was now : Option Slot) → n ≡ 1024 * q + r → 1 ≤ r → r < 1024 → SavesAt server servers n count s was now → now ≡ was
  nothing_saved n q r count s was now is some less saves = subst (λ (b : Bool). SavesIf b server servers count s was now) (not_due n q r is some less) saves

  -- it is, and it can be saved
  one_saved : (n q count : ℕ) (s : Store) (was now : Option Slot) → n ≡ 1024 * q → CanSave server servers s was → SavesAt server servers n count s was now → now ≡ Some (saved count s was)
  one_saved n q count s was now is can saves = by (subst (λ (b : Bool). SavesIf b server servers count s was now) (due n q is) saves)
    where
      by : SavesIf true server servers count s was now → now ≡ Some (saved count s was)
      by (inl done) = done.2
      by (inr not) = absurd (not.0 can)

  -- a number grows by one at most
  grows_one : (n q count : ℕ) (s : Store) (was now : Option Slot) → n ≡ 1024 * q → SavesAt server servers n count s was now → number_of now ≤ number_of was + 1
  grows_one n q count s was now is saves = by (subst (λ (b : Bool). SavesIf b server servers count s was now) (due n q is) saves)
    where
      by : SavesIf true server servers count s was now → number_of now ≤ number_of was + 1
      by (inl done) = let same : number_of now ≡ number_of was + 1 = ap number_of done.2 in omega (arith, same)
      by (inr not) = let same : number_of now ≡ number_of was = ap number_of not.1 in omega (arith, same)

  -- behind the last time nothing is saved
  none_later : (m q r count : ℕ) (s : Store) (was now : Option Slot) (own : List Asked) → m ≡ 1024 * q + r → r + length own < 1024 → SlotsBehind server servers m count s was own now → now ≡ was
  none_later m q r count s was now [] is less behind = behind
  none_later m q r count s was now (a ∷ own) is less behind =
      none_later (m + 1) q (r + 1) (count + 1) (effect_of s a.input).store behind.0 now own (omega (arith, is)) (omega (arith, less)) behind.2
      ∙ nothing_saved (m + 1) q (r + 1) (count + 1) (effect_of s a.input).store was behind.0 (omega (arith, is)) (omega arith) (omega (arith, less)) behind.1

  -- an input, behind which it is saved last, or later
  module _ (m k count : ℕ) (s : Store) (was now : Option Slot) (a : Asked) (own : List Asked) (behind : SlotsBehind server servers m count s was (a ∷ own) now) where
    abbrev s1 : Store
    s1 = (effect_of s a.input).store

    here : (q r : ℕ) → m ≡ 1024 * q + r → r < 1024 → m + 1 ≡ 1024 * k → m + length (a ∷ own) < 1024 * k + 1024 → IsSavable server servers (after_all s (take (1024 * k - m) (a ∷ own)))
        → length (state_bytes (after_all s (take (1024 * k - m) (a ∷ own)))) < 2 ^ 32 → number_of was + (k - q) < 2 ^ 64 → IsSavedLast (count + (1024 * k - m)) (after_all s (take (1024 * k - m) (a ∷ own))) now
    here q r is less same last is_savable short room =
        let one : 1024 * k - m ≡ 1 = omega (arith, same) in
        let store : after_all s (take (1024 * k - m) (a ∷ own)) ≡ s1 = ap (λ (n : ℕ). after_all s (take n (a ∷ own))) one in
        let grown : q + 1 ≤ k = omega (arith, is, less, same) in
        let can : CanSave server servers s1 was = record {
          is = subst (IsSavable server servers) store is_savable;
          short = subst (λ (x : Store). length (state_bytes x) < 2 ^ 32) store short;
          room = omega (arith, room, grown);
        } in
        let done : behind.0 ≡ Some (saved (count + 1) s1 was) = one_saved (m + 1) k (count + 1) s1 was behind.0 same can behind.1 in
        let later : now ≡ behind.0 = none_later (m + 1) k 0 (count + 1) s1 behind.0 now own (omega (arith, same)) (omega (arith, last, same)) behind.2 in
        record { slot = saved (count + 1) s1 was; is = later ∙ done; folded = ap (λ (n : ℕ). count + n) (sym one); state = ap state_bytes (sym store) }

    abbrev Later : Type 0
    Later = IsSavedLast (count + 1 + (1024 * k - (m + 1))) (after_all s1 (take (1024 * k - (m + 1)) own)) now

    on : m + 1 < 1024 * k → Later → IsSavedLast (count + (1024 * k - m)) (after_all s (take (1024 * k - m) (a ∷ own))) now
    on earlier later =
        let more : 1024 * k - m ≡ suc (1024 * k - (m + 1)) = omega (arith, earlier) in
        let store : after_all s (take (1024 * k - m) (a ∷ own)) ≡ after_all s1 (take (1024 * k - (m + 1)) own) = ap (λ (n : ℕ). after_all s (take n (a ∷ own))) more in
        let count_is : count + 1 + (1024 * k - (m + 1)) ≡ count + (1024 * k - m) = omega (arith, more) in
        subst (λ (x : Store). IsSavedLast (count + (1024 * k - m)) x now) (sym store)
        (subst (λ (n : ℕ). IsSavedLast n (after_all s1 (take (1024 * k - (m + 1)) own)) now) count_is later)

    by_turn : (q r : ℕ) → m ≡ 1024 * q + r → r < 1024 → m + 1 < 1024 * k → number_of was + (k - q) < 2 ^ 64 → (r + 1 < 1024) ⊎ (1024 ≤ r + 1)
        → ((q1 r1 : ℕ) → m + 1 ≡ 1024 * q1 + r1 → r1 < 1024 → number_of behind.0 + (k - q1) < 2 ^ 64 → Later) → Later
    by_turn q r is less earlier room (inl within) rest =
        let same : behind.0 ≡ was = nothing_saved (m + 1) q (r + 1) (count + 1) s1 was behind.0 (omega (arith, is)) (omega arith) within behind.1 in
        let number : number_of behind.0 ≡ number_of was = ap number_of same in
        rest q (r + 1) (omega (arith, is)) within (omega (arith, room, number))
    by_turn q r is less earlier room (inr over) rest =
        let at : m + 1 ≡ 1024 * (q + 1) = omega (arith, is, less, over) in
        let number : number_of behind.0 ≤ number_of was + 1 = grows_one (m + 1) (q + 1) (count + 1) s1 was behind.0 at behind.1 in
        let grown : q + 1 < k = omega (arith, at, earlier) in
        rest (q + 1) 0 (omega (arith, at)) (omega arith) (omega (arith, room, number, grown))

    by_place : (q r : ℕ) → m ≡ 1024 * q + r → r < 1024 → (m + 1 < 1024 * k) ⊎ (1024 * k ≤ m + 1) → m < 1024 * k → m + length (a ∷ own) < 1024 * k + 1024
        → IsSavable server servers (after_all s (take (1024 * k - m) (a ∷ own))) → length (state_bytes (after_all s (take (1024 * k - m) (a ∷ own)))) < 2 ^ 32 → number_of was + (k - q) < 2 ^ 64
        → (m + 1 < 1024 * k → (q1 r1 : ℕ) → m + 1 ≡ 1024 * q1 + r1 → r1 < 1024 → number_of behind.0 + (k - q1) < 2 ^ 64 → Later) → IsSavedLast (count + (1024 * k - m)) (after_all s (take (1024 * k - m) (a ∷ own))) now
    by_place q r is less (inl earlier) before last is_savable short room rest = on earlier (by_turn q r is less earlier room (cases_lt (r + 1) 1024) (rest earlier))
    by_place q r is less (inr at) before last is_savable short room rest = here q r is less (omega (arith, before, at)) last is_savable short room

  last_by : (m q r k count : ℕ) (s : Store) (was now : Option Slot) (own : List Asked) → m ≡ 1024 * q + r → r < 1024 → m < 1024 * k → 1024 * k ≤ m + length own → m + length own < 1024 * k + 1024
      → SlotsBehind server servers m count s was own now → IsSavable server servers (after_all s (take (1024 * k - m) own)) → length (state_bytes (after_all s (take (1024 * k - m) own))) < 2 ^ 32
      → number_of was + (k - q) < 2 ^ 64 → IsSavedLast (count + (1024 * k - m)) (after_all s (take (1024 * k - m) own)) now
  last_by m q r k count s was now [] is less before reached last behind is_savable short room = absurd (omega (arith, before, reached))
  last_by m q r k count s was now (a ∷ own) is less before reached last behind is_savable short room =
      by_place m k count s was now a own behind q r is less (cases_lt (m + 1) (1024 * k)) before last is_savable short room
      (λ earlier q1 r1 is1 less1 room1.
      let more : 1024 * k - m ≡ suc (1024 * k - (m + 1)) = omega (arith, earlier) in
      let store : after_all s (take (1024 * k - m) (a ∷ own)) ≡ after_all (effect_of s a.input).store (take (1024 * k - (m + 1)) own) = ap (λ (n : ℕ). after_all s (take n (a ∷ own))) more in
      last_by (m + 1) q1 r1 k (count + 1) (effect_of s a.input).store behind.0 now own is1 less1 earlier (omega (arith, reached)) (omega (arith, last)) behind.2
      (subst (IsSavable server servers) store is_savable) (subst (λ (x : Store). length (state_bytes x) < 2 ^ 32) store short) room1)

  pub saved_last : (k count : ℕ) (s : Store) (was now : Option Slot) (own : List Asked) → 1 ≤ k → between * k ≤ length own + 1 → length own + 1 < between * k + between
      → SlotsBehind server servers 1 count s was own now → IsSavable server servers (after_all s (take (between * k - 1) own)) → length (state_bytes (after_all s (take (between * k - 1) own))) < 2 ^ 32
      → number_of was + k < 2 ^ 64 → IsSavedLast (count + (between * k - 1)) (after_all s (take (between * k - 1) own)) now
  saved_last k count s was now own some reached last behind is_savable short room =
      last_by 1 0 1 k count s was now own refl (omega arith) (omega (arith, some)) (omega (arith, reached)) (omega (arith, last)) behind is_savable short (omega (arith, room))
