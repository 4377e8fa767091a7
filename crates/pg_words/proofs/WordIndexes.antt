-- The words of a slice, by their indexes.
use Rattle.std.proofs.Common.{ℕ, ◌≡◌, ◌<◌, List, [], ◌∷◌, length, Bor, slice_index_or, ap, arith, zero, suc}
use Rattle.pg_words.proofs.ListWords.{texts}
use Rattle.pg_words.proofs.Splitting.{word_at}

-- the word with an index in a slice
abbrev pub at : List (Bor (List ℕ)) → Bor (List ℕ) → ℕ → List ℕ
at ws d k = (slice_index_or ws k d).now

-- the words stand at their indexes
pub at_index : (ws : List (Bor (List ℕ))) (d : Bor (List ℕ)) (k : ℕ) (words : List (List ℕ)) → k < length ws → texts ws ≡ words → at ws d k ≡ word_at k words
at_index [] d k words h e = absurd (omega arith)
at_index (w ∷ ws) d zero [] h e = absurd (let n = ap length e in omega arith)
at_index (w ∷ ws) d zero (x ∷ xs) h e = cc
at_index (w ∷ ws) d (suc k) [] h e = absurd (let n = ap length e in omega arith)
at_index (w ∷ ws) d (suc k) (x ∷ xs) h e = let rest : texts ws ≡ xs = cc in at_index ws d k xs (omega arith) rest
