-- Texts with a comma between two of them, as they are written one by one.
use Rattle.std.proofs.Common.{ℕ, ◌≡◌, List, [], ◌∷◌, ◌++◌, map, ap, sym, ◌∙◌}
use Rattle.std.proofs.lemmas.List.{append-nil}
use Rattle.std.specs.List.{join_with_byte, flat_map}
use Rattle.pg_words.specs.ListWord.{list_word}

-- the first text, and each further one behind a comma
pub joined_by_commas : {A : Type 0} (text : A → List ℕ) (x : A) (xs : List A) → join_with_byte 44 (map text (x ∷ xs)) ≡ text x ++ flat_map (λ (a : A). 44 ∷ text a) xs
joined_by_commas {A} text x [] = sym (append-nil (text x))
joined_by_commas {A} text x (y ∷ ys) = ap (λ (t : List ℕ). text x ++ 44 ∷ t) (joined_by_commas text y ys)

-- where all behind the first are written, the word is
pub word_written : {A : Type 0} (text : A → List ℕ) (xs : List A) (x : A) (rest taken : List A) → xs ≡ x ∷ rest → taken ≡ rest → text x ++ flat_map (λ (a : A). 44 ∷ text a) taken ≡ list_word (map text xs)
word_written {A} text xs x rest taken e f =
    ap (λ (t : List A). text x ++ flat_map (λ (a : A). 44 ∷ text a) t) f ∙ sym (joined_by_commas text x rest) ∙ ap (λ (l : List A). list_word (map text l)) (sym e)
