-- Histories that grow, and what a file had at each moment between two.
use Rattle.std.proofs.Common.{◌≡◌, ℕ, zero, suc, ◌+◌, ◌-◌, ◌≤◌, ◌==◌, ◌&&◌, Bool, true, false, List, [], ◌∷◌, length, drop, if◌then◌else◌, bytes_eq, refl, sym, ◌∙◌, ap, subst, arith}
use Rattle.std.proofs.lemmas.List.{drop-drop}
use Rattle.pg_disk.specs.Disk.{Step, IsImage}
use Rattle.pg_disk.specs.Told.{Event, steps_of}
use Rattle.pg_disk.specs.Moments.{LeavesOnly}

-- nothing was done
pub later-none : (h : List Event) → drop (length h - length h) h ≡ h
later-none h = let none : length h - length h ≡ 0 = omega arith in ap (λ (k : ℕ). drop k h) none

-- one step more
pub later-more : (old mid : List Event) (event : Event) → length old ≤ length mid → drop (length mid - length old) mid ≡ old → drop (length (event ∷ mid) - length old) (event ∷ mid) ≡ old
later-more old mid event grown later =
    let more : length (event ∷ mid) - length old ≡ suc (length mid - length old) = omega (arith, grown) in
    ap (λ (k : ℕ). drop k (event ∷ mid)) more ∙ later

-- one run of calls behind another
pub later-then : (old mid new : List Event) → length old ≤ length mid → drop (length mid - length old) mid ≡ old → length mid ≤ length new → drop (length new - length mid) new ≡ mid
    → drop (length new - length old) new ≡ old
later-then old mid new grown first grown_on second =
    let behind : ℕ = length new - length mid in
    let before : ℕ = length mid - length old in
    let all : length new - length old ≡ behind + before = omega (arith, grown, grown_on) in
    ap (λ (k : ℕ). drop k new) all ∙ sym (drop-drop before behind new) ∙ ap (λ (h : List Event). drop before h) second ∙ first

no_fewer : (test : Bool) (step : Step) (rest : List Step) → length rest ≤ length (if test then step ∷ rest else rest)
no_fewer true step rest = omega arith
no_fewer false step rest = omega arith

by_test : (test : Bool) (step : Step) (rest early between : List Step) → length early ≤ length rest → early ≡ (if test then step ∷ rest else rest) → (early ≡ rest → between ≡ rest)
    → between ≡ (if test then step ∷ rest else rest)
by_test true step rest early between few same later = absurd (let size = ap length same in omega (arith, few, size))
by_test false step rest early between few same later = later same

module _ (name : List ℕ) (file : ℕ) where
  abbrev own : Event → Bool
  own event = bytes_eq event.name name && (event.file == file)

  -- an earlier history has no more steps of the file
  fewer : (m : ℕ) (h : List Event) → length (steps_of name file (drop m h)) ≤ length (steps_of name file h)
  fewer zero h = omega arith
  fewer (suc m) [] = omega arith
  fewer (suc m) (event ∷ h) =
      let more = fewer m h in
      let one = no_fewer (own event) event.step (steps_of name file h) in
      omega (arith, more, one)

  -- where the steps at a moment are those at the end, so they are at each moment behind it
  between : (k m : ℕ) (h : List Event) → k ≤ m → steps_of name file (drop m h) ≡ steps_of name file h → steps_of name file (drop k h) ≡ steps_of name file h
  between zero m h within same = refl
  between (suc k) zero h within same = absurd (omega arith)
  between (suc k) (suc m) [] within same = refl
  between (suc k) (suc m) (event ∷ h) within same =
      by_test (own event) event.step (steps_of name file h) (steps_of name file (drop m h)) (steps_of name file (drop k h)) (fewer m h) same (between k m h (omega arith))

  -- a file that has the same steps at two moments has them at each between
  pub same_between : (old new : List Event) → length old ≤ length new → drop (length new - length old) new ≡ old → steps_of name file new ≡ steps_of name file old
      → (ago : ℕ) → ago + length old ≤ length new → steps_of name file (drop ago new) ≡ steps_of name file old
  same_between old new grown later same ago within =
      between ago (length new - length old) new (omega arith) (ap (steps_of name file) later ∙ sym same) ∙ same

  -- so what each image of the file had, each image at each moment has
  pub untouched_leaves : (P : List ℕ → Type 0) (old new : List Event) → length old ≤ length new → drop (length new - length old) new ≡ old → steps_of name file new ≡ steps_of name file old
      → ((image : List ℕ) → IsImage (steps_of name file old) image → P image) → LeavesOnly name file old new P
  untouched_leaves P old new grown later same here = record {
    no_fewer = grown;
    later = later;
    each = λ ago within image is. here image (subst (λ (s : List Step). IsImage s image) (same_between old new grown later same ago within) is);
  }
