-- Where the components stand, found one after another.
use Rattle.std.proofs.Common.{ℕ, ◌≡◌, ◌≢◌, ◌<◌, ◌≤◌, ◌+◌, ◌-◌, List, [], ◌∷◌, ◌++◌, eq-eqb, refl, sym, ap, ◌∙◌, arith, length, take, drop, get_or, All, map, length-append, append_assoc, Some, ◌==◌}
use Rattle.std.specs.List.{slice_range, slice_get}
use Rattle.std.specs.Option.{option_map}
use Rattle.std.proofs.lemmas.List.{take_all, drop-drop, map-append, length-map}
use Rattle.std.proofs.Math.Seq.{take-append_seam, drop-append-add}
use Rattle.std.proofs.lemmas.List.Elements.{All-push}
use Rattle.std.proofs.lemmas.List.Splits.{slice_split_none, slice_split_at}
use Rattle.std.proofs.lemmas.Option.{slice_get-map, slice_get_read}
use Rattle.pg_path.specs.Path.{cut_at_slashes as cut, AreCuts, parts_of}
use Rattle.pg_path.proofs.Paths.{behind, parts_of-cut, other}

-- some parts are cut, and what is left begins at `start`
pub record Cut (text : List ℕ) (start : ℕ) (rest : List ℕ) (cuts : List (ℕ × ℕ)) : Type 0 where
  pub left : drop start text ≡ rest
  pub within : start + length rest ≡ length text
  pub inside : All (λ c. (c.0 ≤ c.1) × (c.1 ≤ length text)) cuts
  pub each : map (λ c. slice_range text c.0 c.1) cuts ++ cut rest ≡ cut (behind text)

-- the range of a part in the text
range_is : (text part rest : List ℕ) (start end : ℕ) → end ≡ start + length part → drop start text ≡ rest → take (length part) rest ≡ part → slice_range text start end ≡ part
range_is text part rest start end n e f = ap (λ k. take k (drop start text)) (let m : end - start ≡ length part = omega arith in m) ∙ ap (take (length part)) e ∙ f

-- one part more
pub cut_next : (text : List ℕ) (start : ℕ) (rest : List ℕ) (cuts : List (ℕ × ℕ)) (part after : List ℕ) → Cut text start rest cuts → rest ≡ part ++ 47 ∷ after → All (λ b. b ≢ 47) part → (start + length part + 1 ≤ length text) × Cut text (start + length part + 1) after (cuts ++ (start, start + length part) ∷ [])
cut_next text start rest cuts part after h e lacks =
    let n : length rest ≡ length part + length (47 ∷ after) = ap length e ∙ length-append part (47 ∷ after) in
    let within = h.within in
    let fits : start + length part + 1 ≤ length text = omega arith in
    let range = λ (c : ℕ × ℕ). slice_range text c.0 c.1 in
    let piece : range (start, start + length part) ≡ part = range_is text part rest start (start + length part) refl h.left (ap (take (length part)) e ∙ take-append_seam part (47 ∷ after)) in
    let parts : cut rest ≡ part ∷ cut after = ap cut e ∙ slice_split_at (λ b. b == 47) part 47 after (other part lacks) (eq-eqb 47 47 refl) in
    let sum : start + length part + 1 ≡ start + (length part + 1) = omega arith in (
      fits,
      record {
        left = ap (λ k. drop k text) sum ∙ sym (drop-drop (length part + 1) start text) ∙ ap (drop (length part + 1)) (h.left ∙ e) ∙ drop-append-add part (47 ∷ after) 1;
        within = omega arith;
        inside = All-push (λ c. (c.0 ≤ c.1) × (c.1 ≤ length text)) cuts (start, start + length part) h.inside (omega arith, omega arith);
        each = ap (λ ps. ps ++ cut after) (map-append range cuts ((start, start + length part) ∷ []))
            ∙ append_assoc (map range cuts) (range (start, start + length part) ∷ []) (cut after)
            ∙ ap (λ p. map range cuts ++ p ∷ cut after) piece
            ∙ ap (λ ps. map range cuts ++ ps) (sym parts)
            ∙ h.each;
      },
    )

-- the last part
pub cut_last : (text : List ℕ) (start : ℕ) (rest : List ℕ) (cuts : List (ℕ × ℕ)) → 1 < length text → Cut text start rest cuts → All (λ b. b ≢ 47) rest → AreCuts text (cuts ++ (start, length text) ∷ [])
cut_last text start rest cuts some h lacks =
    let within = h.within in
    let range = λ (c : ℕ × ℕ). slice_range text c.0 c.1 in
    let piece : range (start, length text) ≡ rest = range_is text rest rest start (length text) (sym h.within) h.left (take_all (length rest) rest (omega arith)) in
    record {
      inside = All-push (λ c. (c.0 ≤ c.1) × (c.1 ≤ length text)) cuts (start, length text) h.inside (omega arith, omega arith);
      each = map-append range cuts ((start, length text) ∷ [])
          ∙ ap (λ p. map range cuts ++ p ∷ []) piece
          ∙ ap (λ ps. map range cuts ++ ps) (sym (slice_split_none (λ b. b == 47) rest (other rest lacks)))
          ∙ h.each ∙ sym (parts_of-cut text some);
    }

-- a component is read where it stands
pub part_at : (text : List ℕ) (cuts : List (ℕ × ℕ)) (k : ℕ) (c : ℕ × ℕ) → AreCuts text cuts → k < length (parts_of text) → c ≡ get_or cuts k c → slice_get (parts_of text) k ≡ Some (slice_range text c.0 c.1)
part_at text cuts k c h lt e =
    let range = λ (c : ℕ × ℕ). slice_range text c.0 c.1 in
    let n : length (map range cuts) ≡ length (parts_of text) = ap length h.each in
    let m : length (map range cuts) ≡ length cuts = length-map cuts range in
    ap (λ ps. slice_get ps k) (sym h.each) ∙ slice_get-map range cuts k ∙ ap (option_map range) (slice_get_read cuts (length cuts) k c refl (omega arith) e)
