use Rattle.std.proofs.Common.{◌<◌, ◌∙◌, map, length, List, ℕ, Bor, All, subst, arith}
use Rattle.std.proofs.lemmas.List.{length-map}
use Rattle.std.proofs.lemmas.List.Elements.{All-map}
use Rattle.std.proofs.Math.ListN.{get_or-map}
use Rattle.pg_call.proofs.reading.are_counted.Goals as goal

back : (ws : List (Bor (List ℕ))) → All (λ w. 0 < length w) (map (λ w. w.now) ws) → All (λ w. 0 < length w.now) ws
back ws h k d l =
    let P : List ℕ → Type 0 = λ w. 0 < length w in
    let n = length-map ws (λ (w : Bor (List ℕ)). w.now) in
    subst P (get_or-map (λ (w : Bor (List ℕ)). w.now) ws k d) (h k d.now (omega arith))

pub returns-then-words-count : goal.returns-then-words-count
returns-then-words-count c =
    let words = c.args.words.now in (
      λ h. record {
        count = length-map words (λ (w : Bor (List ℕ)). w.now) ∙ c.if-words-count.true ∙ c.count.ensures;
        some = All-map (λ w. 0 < length w) (λ (w : Bor (List ℕ)). w.now) words (c.have_bytes.ensures.0 h);
      },
      λ h. c.have_bytes.ensures.1 (back words h.some),
    )
