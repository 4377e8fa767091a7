-- Words that were joined by a byte are cut apart there again.
use Rattle.std.proofs.Common.{ℕ, ◌≡◌, ◌≢◌, ◌<◌, List, [], ◌∷◌, false, eqb, refl, ap, ◌∙◌, arith, All, eq-eqb, inl, inr, take, length, zero, suc}
use Rattle.std.proofs.lemmas.Bool.Decides.{eqb_tells}
use Rattle.std.proofs.lemmas.List.Elements.{All-append, All-cons, All-nil, All-weaker}
use Rattle.std.proofs.lemmas.List.Splits.{slice_split_none, slice_split_at}
use Rattle.std.specs.List.{AllByRecursion, join_with_byte, slice_split}

abbrev pub Lacks : ℕ → List ℕ → Type 0
Lacks c word = All (λ b. b ≢ c) word

pub eqb-off : (x c : ℕ) → x ≢ c → eqb x c ≡ false
eqb-off x c h = elim (eqb_tells x c) [ inl p ↦ absurd (h p.1) | inr p ↦ p.0 ]

pub eqb-other : (c : ℕ) (xs : List ℕ) → Lacks c xs → All (λ x. eqb x c ≡ false) xs
eqb-other c xs h = All-weaker (λ x. x ≢ c) (λ x. eqb x c ≡ false) (λ x. eqb-off x c) xs h

-- words that were joined are cut apart again
pub split-join : (c : ℕ) (word : List ℕ) (words : List (List ℕ)) → AllByRecursion (Lacks c) (word ∷ words)
    → slice_split (λ b. eqb b c) (join_with_byte c (word ∷ words)) ≡ word ∷ words
split-join c word [] h = slice_split_none (λ b. eqb b c) word (eqb-other c word h.0)
split-join c word (next ∷ words) h =
    slice_split_at (λ b. eqb b c) word c (join_with_byte c (next ∷ words)) (eqb-other c word h.0) (eq-eqb c c refl)
    ∙ ap (λ ws. word ∷ ws) (split-join c next words h.1)

-- joined words lack what each of them lacks, where the byte between them is another
pub Lacks-join : (c between : ℕ) (words : List (List ℕ)) → between ≢ c → AllByRecursion (Lacks c) words → Lacks c (join_with_byte between words)
Lacks-join c between [] ne h = All-nil (λ b. b ≢ c)
Lacks-join c between (word ∷ []) ne h = h.0
Lacks-join c between (word ∷ next ∷ words) ne h =
    All-append (λ b. b ≢ c) word (between ∷ join_with_byte between (next ∷ words)) h.0
    (All-cons (λ b. b ≢ c) between (join_with_byte between (next ∷ words)) ne (Lacks-join c between (next ∷ words) ne h.1))

-- the word with this index
abbrev pub word_at : ℕ → List (List ℕ) → List ℕ
word_at n [] = []
word_at zero (word ∷ words) = word
word_at (suc n) (word ∷ words) = word_at n words

-- the first byte of a word, and of the first of some words
abbrev pub first_byte : List ℕ → ℕ
first_byte [] = 0
first_byte (x ∷ xs) = x

abbrev pub lead : List (List ℕ) → ℕ
lead words = first_byte (word_at 0 words)

-- the words behind the first
abbrev pub behind : List (List ℕ) → List (List ℕ)
behind [] = []
behind (word ∷ words) = words

-- where the first words are fewer than were asked for, they are all
pub take_short : (n : ℕ) (xs : List (List ℕ)) → length (take n xs) < n → take n xs ≡ xs
take_short zero xs h = absurd (omega arith)
take_short (suc n) [] h = refl
take_short (suc n) (x ∷ xs) h = ap (λ ys. x ∷ ys) (take_short n xs (omega arith))
