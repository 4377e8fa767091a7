-- The words of a version that was made, by their indexes.
use Rattle.std.proofs.Common.{ℕ, ◌≡◌, List, [], ◌∷◌, length, Bor, arith, codes}
use Rattle.pg_msg.specs.UpdateText.{version_words}
use Rattle.pg_words.proofs.ListWords.{texts}
use Rattle.pg_words.proofs.WordIndexes.{at}

-- eleven words, of which five are those of each version that was made
pub eleven : (ws : List (Bor (List ℕ))) (d : Bor (List ℕ)) → length ws ≡ 11 → at ws d 0 ≡ codes "version" → at ws d 3 ≡ codes "from" → at ws d 5 ≡ codes "keep" → at ws d 7 ≡ codes "least" → at ws d 9 ≡ codes "parts"
    → texts ws ≡ version_words (at ws d 1) (at ws d 2) (at ws d 4) (at ws d 6) (at ws d 8) (at ws d 10)
eleven [] d h p0 p3 p5 p7 p9 = absurd (omega arith)
eleven (xa ∷ []) d h p0 p3 p5 p7 p9 = absurd (omega arith)
eleven (xa ∷ xb ∷ []) d h p0 p3 p5 p7 p9 = absurd (omega arith)
eleven (xa ∷ xb ∷ xc ∷ []) d h p0 p3 p5 p7 p9 = absurd (omega arith)
eleven (xa ∷ xb ∷ xc ∷ xd ∷ []) d h p0 p3 p5 p7 p9 = absurd (omega arith)
eleven (xa ∷ xb ∷ xc ∷ xd ∷ xe ∷ []) d h p0 p3 p5 p7 p9 = absurd (omega arith)
eleven (xa ∷ xb ∷ xc ∷ xd ∷ xe ∷ xf ∷ []) d h p0 p3 p5 p7 p9 = absurd (omega arith)
eleven (xa ∷ xb ∷ xc ∷ xd ∷ xe ∷ xf ∷ xg ∷ []) d h p0 p3 p5 p7 p9 = absurd (omega arith)
eleven (xa ∷ xb ∷ xc ∷ xd ∷ xe ∷ xf ∷ xg ∷ xh ∷ []) d h p0 p3 p5 p7 p9 = absurd (omega arith)
eleven (xa ∷ xb ∷ xc ∷ xd ∷ xe ∷ xf ∷ xg ∷ xh ∷ xi ∷ []) d h p0 p3 p5 p7 p9 = absurd (omega arith)
eleven (xa ∷ xb ∷ xc ∷ xd ∷ xe ∷ xf ∷ xg ∷ xh ∷ xi ∷ xj ∷ []) d h p0 p3 p5 p7 p9 = absurd (omega arith)
eleven (xa ∷ xb ∷ xc ∷ xd ∷ xe ∷ xf ∷ xg ∷ xh ∷ xi ∷ xj ∷ xk ∷ []) d h p0 p3 p5 p7 p9 = cc
eleven (xa ∷ xb ∷ xc ∷ xd ∷ xe ∷ xf ∷ xg ∷ xh ∷ xi ∷ xj ∷ xk ∷ xm ∷ more) d h p0 p3 p5 p7 p9 = absurd (omega arith)
