-- Words that are lists: items with a comma between two of them, or a dash for none.
use Rattle.std.proofs.Common.{ℕ, ◌≡◌, ◌≢◌, ◌<◌, ◌≤◌, List, [], ◌∷◌, Bor, false, eqb, length, map, take, get_or, codes, refl, sym, ap, ◌∙◌, arith, zero, suc}
use Rattle.std.proofs.lemmas.List.{take_all}
use Rattle.std.proofs.lemmas.List.Elements.{All-from_recursion}
use Rattle.std.proofs.lemmas.List.Splits.{slice_split_none, length-slice_split, join_with_byte-slice_split}
use Rattle.std.specs.List.{AllByRecursion, join_with_byte, slice_split}
use Rattle.pg_words.specs.ListWord.{list_word}
use Rattle.pg_words.proofs.Splitting.{Lacks, split-join}

-- the items of a word that is no dash
abbrev pub split : List ℕ → List (List ℕ)
split word = slice_split (λ b. eqb b 44) word

-- the texts that a slice points to
abbrev pub texts : List (Bor (List ℕ)) → List (List ℕ)
texts ws = map (λ (w : Bor (List ℕ)). w.now) ws

not_empty : (word : List ℕ) → [] ≡ split word → ⊥
not_empty word e = let n = ap length e in omega (arith, length-slice_split (λ b. eqb b 44) word)

-- the texts of all items, with commas, are the word
pub joined : {A : Type 0} (text : A → List ℕ) (xs : List A) (word : List ℕ) → map text xs ≡ split word → word ≡ list_word (map text xs)
joined {A} text [] word e = absurd (not_empty word e)
joined {A} text (x ∷ xs) word e = sym (join_with_byte-slice_split 44 word) ∙ ap (join_with_byte 44) (sym e)

-- once all items were read, the list's word is the word
pub all_read : {A : Type 0} (text : A → List ℕ) (xs : List A) (ws : List (Bor (List ℕ))) (i : ℕ) (word : List ℕ) → length ws ≤ i → map text xs ≡ texts (take i ws) → texts ws ≡ split word → word ≡ list_word (map text xs)
all_read {A} text xs ws i word end so_far cut = joined text xs word (so_far ∙ ap texts (take_all i ws end) ∙ cut)

module _ {A : Type 0} (text : A → List ℕ) (P : A → Type 0) (lacks : (x : A) → P x → Lacks 44 (text x)) where
  all_lack : (xs : List A) → AllByRecursion P xs → AllByRecursion (Lacks 44) (map text xs)
  all_lack [] h = tt
  all_lack (x ∷ xs) h = (lacks x h.0, all_lack xs h.1)

  -- the word is cut into the texts of its items
  pub cut_again : (xs : List A) (word : List ℕ) → AllByRecursion P xs → word ≢ codes "-" → word ≡ list_word (map text xs) → split word ≡ map text xs
  cut_again [] word h ne e = absurd (ne e)
  cut_again (x ∷ xs) word h ne e = ap split e ∙ split-join 44 (text x) (map text xs) (all_lack (x ∷ xs) h)

  at_item : (xs : List A) (ws : List (Bor (List ℕ))) (i : ℕ) (w : Bor (List ℕ)) → AllByRecursion P xs → texts ws ≡ map text xs → i < length ws → ((x : A) → P x → (get_or ws i w).now ≡ text x → ⊥) → ⊥
  at_item xs [] i w h e more none = omega arith
  at_item [] (v ∷ vs) i w h e more none = let n = ap length e in omega arith
  at_item (x ∷ xs) (v ∷ vs) zero w h e more none = none x h.0 (cc)
  at_item (x ∷ xs) (v ∷ vs) (suc i) w h e more none = let rest : texts vs ≡ map text xs = cc in at_item xs vs i w h.1 rest (omega arith) none

  -- where one item is none, the word is no list
  pub none_at : (word : List ℕ) (ws : List (Bor (List ℕ))) (i : ℕ) (d : Bor (List ℕ)) → word ≢ codes "-" → texts ws ≡ split word → i < length ws → ((x : A) → P x → (get_or ws i d).now ≡ text x → ⊥) → (xs : List A) → AllByRecursion P xs → word ≡ list_word (map text xs) → ⊥
  none_at word ws i d ne cut more none xs h e = at_item xs ws i d h (cut ∙ cut_again xs word h ne e) more none

  module _ (one : (x y : A) → P x → P y → text x ≡ text y → x ≡ y) (some : (x : A) → P x → codes "-" ≢ text x) where
    same_texts : (xs ys : List A) → AllByRecursion P xs → AllByRecursion P ys → map text xs ≡ map text ys → xs ≡ ys
    same_texts [] [] hx hy e = refl
    same_texts [] (y ∷ ys) hx hy e = absurd (let n = ap length e in omega arith)
    same_texts (x ∷ xs) [] hx hy e = absurd (let n = ap length e in omega arith)
    same_texts (x ∷ xs) (y ∷ ys) hx hy e =
        let head : text x ≡ text y = cc in
        let rest : map text xs ≡ map text ys = cc in
        let first : x ≡ y = one x y hx.0 hy.0 head in
        let more : xs ≡ ys = same_texts xs ys hx.1 hy.1 rest in
        cc

    no_dash : (x : A) (xs : List A) → AllByRecursion P (x ∷ xs) → codes "-" ≡ list_word (map text (x ∷ xs)) → ⊥
    no_dash x xs h e =
        let dash : split (codes "-") ≡ codes "-" ∷ [] = slice_split_none (λ b. eqb b 44) (codes "-") (All-from_recursion (λ x. eqb x 44 ≡ false) (codes "-") (refl, tt)) in
        let cut : codes "-" ∷ [] ≡ text x ∷ map text xs = sym dash ∙ ap split e ∙ split-join 44 (text x) (map text xs) (all_lack (x ∷ xs) h) in
        some x h.0 (cc)

    -- no two lists have one word
    pub one_list : (xs ys : List A) → AllByRecursion P xs → AllByRecursion P ys → list_word (map text xs) ≡ list_word (map text ys) → xs ≡ ys
    one_list [] [] hx hy e = refl
    one_list [] (y ∷ ys) hx hy e = absurd (no_dash y ys hy e)
    one_list (x ∷ xs) [] hx hy e = absurd (no_dash x xs hx (sym e))
    one_list (x ∷ xs) (y ∷ ys) hx hy e =
        same_texts (x ∷ xs) (y ∷ ys) hx hy (sym (split-join 44 (text x) (map text xs) (all_lack (x ∷ xs) hx)) ∙ ap split e ∙ split-join 44 (text y) (map text ys) (all_lack (y ∷ ys) hy))
