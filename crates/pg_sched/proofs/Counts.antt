-- Words that are counted: none of them is empty.
use Rattle.std.proofs.Common.{ℕ, ◌<◌, List, Bor, All, length, subst, arith}
use Rattle.std.proofs.lemmas.List.{length-map}
use Rattle.std.proofs.Math.ListN.{get_or-map}
use Rattle.pg_words.proofs.ListWords.{texts}

abbrev pub HasByte : List ℕ → Type 0
HasByte word = 0 < length word

pub each_has : (ws : List (Bor (List ℕ))) → All HasByte (texts ws) → All (λ w. 0 < length w.now) ws
each_has ws h k d l =
    let n = length-map ws (λ (w : Bor (List ℕ)). w.now) in
    subst HasByte (get_or-map (λ (w : Bor (List ℕ)). w.now) ws k d) (h k d.now (omega arith))
