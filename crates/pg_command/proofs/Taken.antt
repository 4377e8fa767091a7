-- Words that were taken off one by one are all of them.
use Rattle.std.proofs.Common.{ℕ, ◌≡◌, ◌≤◌, ◌∙◌, List, [], ◌∷◌, ap, arith, get_or, length, map, refl, take}
use Rattle.std.specs.Global.{Global}
use Rattle.std.specs.Prelude.{String}
use Rattle.std.specs.String.{string_bytes}

pub no_words : (words : List (String Global)) → length words ≡ 0 → [] ≡ map string_bytes words
no_words [] none = refl
no_words (x ∷ xs) none = absurd (omega arith)

cons : (a b : List ℕ) (xs ys : List (List ℕ)) → a ≡ b → xs ≡ ys → a ∷ xs ≡ b ∷ ys
cons a b xs ys e f = cc

pub one_word : (words : List (String Global)) (x : String Global) (a : List ℕ) → length words ≡ 1
    → x ≡ get_or words 0 x
    → a ≡ string_bytes x
    → a ∷ [] ≡ map string_bytes words
one_word [] x a one is e = absurd (omega arith)
one_word (w ∷ []) x a one is e = cons a (string_bytes w) [] [] (e ∙ ap string_bytes is) refl
one_word (w ∷ v ∷ ws) x a one is e = absurd (omega arith)

pub two_words : (words : List (String Global)) (x y : String Global) (a b : List ℕ)
    → length words ≡ 2
    → x ≡ get_or words 0 x
    → y ≡ get_or words 1 y
    → a ≡ string_bytes x
    → b ≡ string_bytes y
    → a ∷ b ∷ [] ≡ map string_bytes words
two_words [] x y a b two is also e f = absurd (omega arith)
two_words (w ∷ []) x y a b two is also e f = absurd (omega arith)
two_words (w ∷ v ∷ []) x y a b two is also e f =
    cons a (string_bytes w) (b ∷ []) (string_bytes v ∷ []) (e ∙ ap string_bytes is)
    (cons b (string_bytes v) [] [] (f ∙ ap string_bytes also) refl)
two_words (w ∷ v ∷ u ∷ ws) x y a b two is also e f = absurd (omega arith)

pub three_words : (words : List (String Global)) (x y z : String Global) (a b c : List ℕ)
    → length words ≡ 3
    → x ≡ get_or words 0 x
    → y ≡ get_or words 1 y
    → z ≡ get_or words 2 z
    → a ≡ string_bytes x
    → b ≡ string_bytes y
    → c ≡ string_bytes z
    → a ∷ b ∷ c ∷ [] ≡ map string_bytes words
three_words [] x y z a b c three is also last e f g = absurd (omega arith)
three_words (w ∷ []) x y z a b c three is also last e f g = absurd (omega arith)
three_words (w ∷ v ∷ []) x y z a b c three is also last e f g = absurd (omega arith)
three_words (w ∷ v ∷ u ∷ []) x y z a b c three is also last e f g =
    cons a (string_bytes w) (b ∷ c ∷ []) (string_bytes v ∷ string_bytes u ∷ []) (e ∙ ap string_bytes is)
    (cons b (string_bytes v) (c ∷ []) (string_bytes u ∷ []) (f ∙ ap string_bytes also)
    (cons c (string_bytes u) [] [] (g ∙ ap string_bytes last) refl))
three_words (w ∷ v ∷ u ∷ t ∷ ws) x y z a b c three is also last e f g = absurd (omega arith)

-- the first three of words
pub first_three : (words : List (String Global)) (a b c : List ℕ) (rest : List (List ℕ))
    → map string_bytes words ≡ a ∷ b ∷ c ∷ rest
    → (3 ≤ length words) × (map string_bytes (take 3 words) ≡ a ∷ b ∷ c ∷ [])
first_three [] a b c rest e = absurd cc
first_three (x ∷ []) a b c rest e = absurd cc
first_three (x ∷ y ∷ []) a b c rest e = absurd cc
first_three (x ∷ y ∷ z ∷ ws) a b c rest e =
    let first : string_bytes x ≡ a = cc in
    let second : string_bytes y ≡ b = cc in
    let third : string_bytes z ≡ c = cc in (
      omega arith,
      cons (string_bytes x) a (string_bytes y ∷ string_bytes z ∷ []) (b ∷ c ∷ []) first
          (cons (string_bytes y) b (string_bytes z ∷ []) (c ∷ []) second
          (cons (string_bytes z) c [] [] third refl)),
    )
