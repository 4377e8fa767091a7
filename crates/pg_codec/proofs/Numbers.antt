-- Bytes and numbers are fields.
use Rattle.std.proofs.Common.{◌≡◌, ℕ, zero, suc, ◌+◌, ◌*◌, ◌^◌, ◌/◌, ◌%◌, ◌<◌, ◌≤◌, Bool, true, false, cond, ltb, List, [], ◌∷◌, ◌++◌, length, take, drop, Ok, Err, refl, sym, ap, subst, ◌∙◌, arith, inl, inr}
use Rattle.std.proofs.Math.Nat.{mod-lt, mod-eq_of_lt}
use Rattle.std.specs.Int.{byte_at, bytes_high_first}
use Rattle.std.proofs.lemmas.Bool.{cases_lt, ltb-false, le-ltb}
use Rattle.std.proofs.lemmas.List.{append-nil, take_at, drop_at, take-append-drop, length-append, length-take, length-take-le, get_or-drop, get_or-take, get_or_past}
use Rattle.std.proofs.lemmas.Nat.{be_bytes_2, be_bytes_4, be_bytes_8}
use Rattle.byteorder.specs.Endian.{big_bytes, big_number}
use Rattle.byteorder.specs.Numbers.{big_number-reads_back, big_from-lt, length-bytes_high_first}
use Rattle.pg_codec.specs.Unread.{Unread}
use Rattle.pg_codec.specs.declared.error.ReadError.TheVariants.{Short}
use Rattle.pg_codec.specs.Spelling.{number_bytes}
use Rattle.pg_codec.specs.Reading.{bytes_at, behind, end_of, number_at}
use Rattle.pg_codec.specs.Laws.{AreBytes, Takes, IsField, HasWidth}
use Rattle.pg_codec.proofs.Binding.{seen_is}

-- a test that did not fail
guard_ok : {A E : Type 0} (b : Bool) (d : E) (x y : A) → cond b (Err d) (Ok x) ≡ Ok y → (b ≡ false) × (x ≡ y)
guard_ok true d x y e = absurd cc
guard_ok false d x y e = (refl, cc)

bytes_behind : (n : ℕ) (bytes : List ℕ) → AreBytes bytes → AreBytes (drop n bytes)
bytes_behind n bytes h i = rw get_or-drop (h (n + i))

bytes_before : (n : ℕ) (bytes : List ℕ) → AreBytes bytes → AreBytes (take n bytes)
bytes_before n bytes h i =
    elim (cases_lt i n) [
      | inl lt ↦ rw (get_or-take n bytes i 0 lt) (h i)
      | inr le ↦ rw (get_or_past (take n bytes) i 0 (omega (arith, length-take n bytes))) (omega arith)
    ]

-- so many bytes
pub record HasLength (n : ℕ) (bytes : List ℕ) : Type 0 where
  pub length : length bytes ≡ n
  pub width : AreBytes bytes

abbrev itself : List ℕ → List ℕ
itself bytes = bytes

pub bytes_field : (n : ℕ) → IsField (HasLength n) itself (bytes_at n)
bytes_field n = record {
  takes = λ from x bytes e.
      let g = guard_ok (ltb (length from.rest) n) (Short (end_of from)) (take n from.rest, behind n from) x e in
      let long : n ≤ length from.rest = ltb-false _ _ g.0 in
      let count : length (take n from.rest) ≡ n = length-take-le n from.rest long in
      let made : HasLength n (take n from.rest) × Takes from (take n from.rest) (behind n from) = (
        record { length = count; width = bytes_before n from.rest bytes },
        record { parts = sym (take-append-drop n from.rest); place = ap (λ (k : ℕ). from.place + k) (sym count); width = bytes_behind n from.rest bytes },
      ) in
      subst (λ (y : List ℕ × Unread). HasLength n y.0 × Takes from (itself y.0) y.1) g.1 made;
  again = λ bs place rest fits.
      let long : ltb (length (bs ++ rest)) n ≡ false = le-ltb _ _ (omega (arith, length-append bs rest, fits.length)) in
      let read : bytes_at n (record { place = place; rest = bs ++ rest }) ≡ Ok (bs, record { place = place + n; rest = rest }) =
      rw (long, take_at bs rest n fits.length, drop_at bs rest n fits.length) refl in
      read ∙ ap (λ (k : ℕ). Ok (bs, record { place = place + k; rest = rest })) (sym fits.length);
}

byte_below : (k x : ℕ) → byte_at k x < 256
byte_below zero x = mod-lt x (omega arith)
byte_below (suc k) x = mod-lt (x / 256 ^ suc k) (omega arith)

byte_by_byte : (n x : ℕ) → AreBytes (bytes_high_first n x)
byte_by_byte zero x i = omega arith
byte_by_byte (suc n) x zero = byte_below n x
byte_by_byte (suc n) x (suc i) = byte_by_byte n x i

-- bytes of that many are those of their number
abbrev HasBack : ℕ → Type 0
HasBack n = (bytes : List ℕ) → length bytes ≡ n → AreBytes bytes → big_bytes n (big_number n bytes) ≡ bytes

pub number_field : (n : ℕ) → HasBack n → IsField (HasWidth n) (number_bytes n) (number_at n)
unfolding number_at number_bytes
number_field n have =
    seen_is (big_number n) (HasLength n) itself (bytes_at n) (HasWidth n) (number_bytes n)
    (λ bs fits. (big_from-lt 0 n bs fits.width, have bs fits.length fits.width))
    (λ x fits. (big_bytes n x, record { length = length-bytes_high_first n x; width = byte_by_byte n x }, ap (big_number n) (sym (append-nil (big_bytes n x))) ∙ big_number-reads_back n x [] fits))
    (bytes_field n)

one_byte : (b : ℕ) → b < 256 → big_bytes 1 (big_number 1 (b ∷ [])) ≡ b ∷ []
one_byte b lt = let same : b * 1 + 0 ≡ b = omega arith in let small : b % 256 ≡ b = mod-eq_of_lt lt in ap (λ (x : ℕ). x % 256 ∷ []) same ∙ ap (λ (x : ℕ). x ∷ []) small

back_1 : HasBack 1
back_1 [] l h = absurd (omega arith)
back_1 (b ∷ []) l h = one_byte b (h 0)
back_1 (b ∷ c ∷ bs) l h = absurd (omega arith)

pub byte_field : IsField (HasWidth 1) (number_bytes 1) (number_at 1)
byte_field = number_field 1 back_1

pub short_field : IsField (HasWidth 2) (number_bytes 2) (number_at 2)
short_field = number_field 2 (λ bs l h. be_bytes_2 bs (big_number 2 bs) l h (omega arith))

pub narrow_field : IsField (HasWidth 4) (number_bytes 4) (number_at 4)
narrow_field = number_field 4 (λ bs l h. be_bytes_4 bs (big_number 4 bs) l h (omega arith))

pub wide_field : IsField (HasWidth 8) (number_bytes 8) (number_at 8)
wide_field = number_field 8 (λ bs l h. be_bytes_8 bs (big_number 8 bs) l h (omega arith))
