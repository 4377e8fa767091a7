-- The bytes of slots.
use Rattle.std.proofs.Common.{◌≡◌, ◌≢◌, ℕ, ◌+◌, ◌<◌, ◌≤◌, ◌^◌, List, [], ◌∷◌, ◌++◌, length, take, drop, get_or, refl, sym, ◌∙◌, ap, subst, arith, append_assoc, length-append, length-drop, take-append-drop, w32, w64}
use Rattle.std.proofs.lemmas.List.{take_at, drop_at, take_all, drop-drop, length-take}
use Rattle.std.proofs.lemmas.Nat.{from_be_bytes-to_be_bytes_4, from_be_bytes-to_be_bytes_8}
use Rattle.std.specs.Int.{to_be_bytes, from_be_bytes}
use Rattle.pg_checkpoint.specs.Slots.{Slot, numbers, IsSlot, IsEmpty}

pub same_8 : (m n : ℕ) → m < 2 ^ 64 → n < 2 ^ 64 → to_be_bytes w64 m ≡ to_be_bytes w64 n → m ≡ n
same_8 m n small_m small_n same = sym (from_be_bytes-to_be_bytes_8 m small_m) ∙ ap (from_be_bytes w64) same ∙ from_be_bytes-to_be_bytes_8 n small_n

pub same_4 : (m n : ℕ) → m < 2 ^ 32 → n < 2 ^ 32 → to_be_bytes w32 m ≡ to_be_bytes w32 n → m ≡ n
same_4 m n small_m small_n same = sym (from_be_bytes-to_be_bytes_4 m small_m) ∙ ap (from_be_bytes w32) same ∙ from_be_bytes-to_be_bytes_4 n small_n

-- two lists whose first parts have one length
same_front : (n : ℕ) (a b x y : List ℕ) → length a ≡ n → length b ≡ n → a ++ x ≡ b ++ y → (a ≡ b) × (x ≡ y)
same_front n a b x y size_a size_b same =
    (sym (take_at a x n size_a) ∙ ap (take n) same ∙ take_at b y n size_b, sym (drop_at a x n size_a) ∙ ap (drop n) same ∙ drop_at b y n size_b)

pub twenty : (number folded size : ℕ) → length (numbers number folded size) ≡ 20
twenty number folded size = refl

pub same_numbers : (m f s n g t : ℕ) → m < 2 ^ 64 → f < 2 ^ 64 → s < 2 ^ 32 → n < 2 ^ 64 → g < 2 ^ 64 → t < 2 ^ 32 → numbers m f s ≡ numbers n g t → (m ≡ n) × (f ≡ g) × (s ≡ t)
same_numbers m f s n g t small_m small_f small_s small_n small_g small_t same =
    let first = same_front 8 (to_be_bytes w64 m) (to_be_bytes w64 n) (to_be_bytes w64 f ++ to_be_bytes w32 s) (to_be_bytes w64 g ++ to_be_bytes w32 t) refl refl same in
    let second = same_front 8 (to_be_bytes w64 f) (to_be_bytes w64 g) (to_be_bytes w32 s) (to_be_bytes w32 t) refl refl first.1 in
    (same_8 m n small_m small_n first.0, same_8 f g small_f small_g second.0, same_4 s t small_s small_t second.1)

-- the head of a slot, and all behind it
pub head_and_state : (file : List ℕ) (slot : Slot) (is : IsSlot file slot) → file ≡ (1 ∷ numbers slot.number slot.folded (length slot.state)) ++ (slot.state ++ is.rest)
head_and_state file slot is = is.spelled ∙ ap (λ (l : List ℕ). 1 ∷ l) (append_assoc (numbers slot.number slot.folded (length slot.state)) slot.state is.rest)

pub slot_size : (file : List ℕ) (slot : Slot) → IsSlot file slot → 21 + length slot.state ≤ length file
slot_size file slot is =
    let size = ap length (head_and_state file slot is) in
    let head = twenty slot.number slot.folded (length slot.state) in
    omega (arith, size, head, length-append (1 ∷ numbers slot.number slot.folded (length slot.state)) (slot.state ++ is.rest), length-append slot.state is.rest)

-- a file has one slot
pub one_slot : (file : List ℕ) (a b : Slot) → IsSlot file a → IsSlot file b → a ≡ b
one_slot file a b is other =
    let whole = same_front 21 (1 ∷ numbers a.number a.folded (length a.state)) (1 ∷ numbers b.number b.folded (length b.state)) (a.state ++ is.rest) (b.state ++ other.rest) refl refl
    (sym (head_and_state file a is) ∙ head_and_state file b other) in
    let heads : numbers a.number a.folded (length a.state) ≡ numbers b.number b.folded (length b.state) = ap (drop 1) whole.0 in
    let same = same_numbers a.number a.folded (length a.state) b.number b.folded (length b.state) is.fits.number is.fits.folded is.fits.short other.fits.number other.fits.folded other.fits.short heads in
    let states = same_front (length b.state) a.state b.state is.rest other.rest same.2 refl whole.1 in
    λ i. record { number = same.0 i; folded = same.1 i; state = states.0 i }

-- which files are empty
pub short_empty : (file : List ℕ) → length file < 21 → IsEmpty file
short_empty file short slot is = let size = slot_size file slot is in absurd (omega arith)

pub closed_empty : (file : List ℕ) (gate : ℕ) (rest : List ℕ) → file ≡ gate ∷ rest → gate ≢ 1 → IsEmpty file
closed_empty file gate rest spelled closed slot is = closed (ap (λ (l : List ℕ). get_or l 0 0) (sym spelled ∙ is.spelled))

module _ (file : List ℕ) (number folded size : ℕ) (small_number : number < 2 ^ 64) (small_folded : folded < 2 ^ 64) (small_size : size < 2 ^ 32)
    (head : take 21 file ≡ 1 ∷ numbers number folded size) where
  pub cut_empty : length file < 21 + size → IsEmpty file
  cut_empty short slot is =
      let first : numbers number folded size ≡ numbers slot.number slot.folded (length slot.state) =
      ap (drop 1) (sym head ∙ ap (take 21) (head_and_state file slot is) ∙ take_at (1 ∷ numbers slot.number slot.folded (length slot.state)) (slot.state ++ is.rest) 21 refl) in
      let same = same_numbers number folded size slot.number slot.folded (length slot.state) small_number small_folded small_size is.fits.number is.fits.folded is.fits.short first in
      let long = slot_size file slot is in
      let sizes = same.2 in
      absurd (omega arith)

  pub slot_there : 21 + size ≤ length file → IsSlot file (record { number = number; folded = folded; state = take size (drop 21 file) })
  slot_there long =
      let state : List ℕ = take size (drop 21 file) in
      let rest : List ℕ = drop size (drop 21 file) in
      let count : length state ≡ size = omega (arith, length-take size (drop 21 file), length-drop 21 file) in
      record {
        fits = record { number = small_number; folded = small_folded; short = subst (λ (n : ℕ). n < 2 ^ 32) (sym count) small_size };
        rest = rest;
        spelled = sym (take-append-drop 21 file)
            ∙ (λ i. head i ++ sym (take-append-drop size (drop 21 file)) i)
            ∙ ap (λ (l : List ℕ). 1 ∷ l) (sym (append_assoc (numbers number folded size) state rest))
            ∙ ap (λ (n : ℕ). 1 ∷ ((numbers number folded n ++ state) ++ rest)) (sym count);
      }

-- what was read of a file's beginning
pub head_is : (bytes file : List ℕ) (number folded size : ℕ) → bytes ≡ take 21 file → 21 ≤ length bytes → get_or bytes 0 0 ≡ 1
    → to_be_bytes w64 number ≡ take 8 (drop 1 bytes) → to_be_bytes w64 folded ≡ take 8 (drop 9 bytes) → to_be_bytes w32 size ≡ take 4 (drop 17 bytes)
    → take 21 file ≡ 1 ∷ numbers number folded size
head_is [] file number folded size is long gate a b c = absurd (omega (arith, long))
head_is (first ∷ rest) file number folded size is long gate a b c =
    let most : length (first ∷ rest) ≤ 21 = (let n = ap length is in omega (arith, n, length-take 21 file)) in
    let last : take 4 (drop 16 rest) ≡ drop 16 rest = take_all 4 (drop 16 rest) (omega (arith, most, length-drop 16 rest)) in
    let folds : take 8 (drop 8 rest) ++ drop 16 rest ≡ drop 8 rest = ap (λ (l : List ℕ). take 8 (drop 8 rest) ++ l) (sym (drop-drop 8 8 rest)) ∙ take-append-drop 8 (drop 8 rest) in
    sym is ∙ (λ i. gate i ∷ sym (take-append-drop 8 rest) i) ∙ ap (λ (l : List ℕ). 1 ∷ (take 8 rest ++ l)) (sym folds)
    ∙ (λ i. 1 ∷ (sym a i ++ (sym b i ++ (sym last ∙ sym c) i)))
