-- A path's text is cut at its slashes into the path's components again.
use Rattle.std.proofs.Common.{ℕ, ◌≡◌, ◌≢◌, ◌<◌, ◌≤◌, ◌==◌, List, [], ◌∷◌, ◌+◌, false, refl, sym, ap, ◌∙◌, arith, length, take, drop, length-drop, ◌-◌, All, eq-eqb, slice_index, subst, inl, inr, Result, Err}
use Rattle.std.specs.List.{join_with_byte}
use Rattle.std.proofs.lemmas.Bool.Decides.{eqb_tells}
use Rattle.std.proofs.lemmas.List.Elements.{All-head, All-tail, All-weaker}
use Rattle.std.proofs.lemmas.List.{take_all}
use Rattle.std.proofs.lemmas.List.Splits.{slice_split_none, slice_split_at, join_with_byte-slice_split}
use Rattle.pg_path.specs.First.{IsFirstWithout}
use Rattle.pg_path.specs.Name.{IsComponentByte}
use Rattle.pg_path.specs.Path.{cut_at_slashes as cut, IsComponent, IsPath, path_text, parts_of, IsLong, IsTooDeep, HasBadName}
use Rattle.pg_path.specs.declared.error.BadPath.{BadPath}
use Rattle.pg_path.specs.declared.error.BadPath.TheVariants.{OutOfMemory, NoSlash, Long, TooDeep, BadName}
use Rattle.pg_path.proofs.Firsts.{not_first, one_first}

-- what stands behind the first byte
abbrev pub behind : List ℕ → List ℕ
behind text = take (length text - 1) (drop 1 text)

pub behind_is : (text : List ℕ) → behind text ≡ drop 1 text
behind_is text = take_all (length text - 1) (drop 1 text) (omega (arith, length-drop 1 text))

cut-drop : (text : List ℕ) → 1 < length text → parts_of text ≡ cut (drop 1 text)
cut-drop [] h = absurd (omega arith)
cut-drop (a ∷ []) h = absurd (omega arith)
cut-drop (a ∷ b ∷ rest) h = refl

pub parts_of-cut : (text : List ℕ) → 1 < length text → parts_of text ≡ cut (behind text)
parts_of-cut text h = cut-drop text h ∙ ap cut (sym (behind_is text))

joined : (text : List ℕ) → drop 1 text ≡ join_with_byte 47 (cut (behind text))
joined text = sym (join_with_byte-slice_split 47 (drop 1 text)) ∙ ap (λ t. join_with_byte 47 (cut t)) (sym (behind_is text))

front_is : (text : List ℕ) → slice_index text 0 ≡ 47 → text ≡ 47 ∷ drop 1 text
front_is [] h = absurd (let e : 0 ≡ 47 = h in omega arith)
front_is (a ∷ rest) h = let first : a ≡ 47 = h in ap (λ x. x ∷ rest) first

text_is : (text : List ℕ) → slice_index text 0 ≡ 47 → text ≡ path_text (cut (behind text))
text_is text h = front_is text h ∙ ap (λ t. 47 ∷ t) (joined text)

other_byte : (x : ℕ) → x ≢ 47 → (x == 47) ≡ false
other_byte x h = elim (eqb_tells x 47) [ inl p ↦ absurd (h p.1) | inr p ↦ p.0 ]

-- a part with no slash fails the test for one
pub other : (part : List ℕ) → All (λ x. x ≢ 47) part → All (λ x. (x == 47) ≡ false) part
other part h = All-weaker (λ x. x ≢ 47) (λ x. (x == 47) ≡ false) other_byte part h

lacks : (part : List ℕ) → IsComponent part → All (λ x. (x == 47) ≡ false) part
lacks part h = other part (All-weaker IsComponentByte (λ x. x ≢ 47) (λ x b. b.no_slash) part h.each)

-- components that were joined are cut apart again
pub cut-join : (part : List ℕ) (parts : List (List ℕ)) → All IsComponent (part ∷ parts) → cut (join_with_byte 47 (part ∷ parts)) ≡ part ∷ parts
cut-join part [] h = slice_split_none (λ b. b == 47) part (lacks part (All-head IsComponent part [] h))
cut-join part (next ∷ parts) h =
    slice_split_at (λ b. b == 47) part 47 (join_with_byte 47 (next ∷ parts)) (lacks part (All-head IsComponent part (next ∷ parts) h)) (eq-eqb 47 47 refl)
    ∙ ap (λ ps. part ∷ ps) (cut-join next parts (All-tail IsComponent part (next ∷ parts) h))

-- what stands behind the slash is not empty where there is a component
join_more : (byte : ℕ) (part : List ℕ) (parts : List (List ℕ)) → join_with_byte 47 ((byte ∷ part) ∷ parts) ≡ byte ∷ join_with_byte 47 (part ∷ parts)
join_more byte part [] = refl
join_more byte part (next ∷ parts) = refl

pub parts_of-path_text : (parts : List (List ℕ)) → All IsComponent parts → parts_of (path_text parts) ≡ parts
parts_of-path_text [] h = refl
parts_of-path_text ([] ∷ parts) h = let some = (All-head IsComponent [] parts h).some in absurd (omega arith)
parts_of-path_text ((byte ∷ part) ∷ parts) h =
    ap (λ rest. parts_of (47 ∷ rest)) (join_more byte part parts)
    ∙ ap cut (sym (join_more byte part parts)) ∙ cut-join (byte ∷ part) parts h

pub not_long : (text : List ℕ) (p : List (List ℕ)) → IsPath p → text ≡ path_text p → ¬ (IsLong text)
not_long text p fits e h = let short = fits.short in let many = h.many in let n = ap length e in omega arith

pub not_deep : (text : List ℕ) (p : List (List ℕ)) → IsPath p → text ≡ path_text p → ¬ (IsTooDeep text)
not_deep text p fits e h =
    let few = fits.few in let many = h.many in
    let n = ap (λ t. length (parts_of t)) e ∙ ap length (parts_of-path_text p fits.each) in omega arith

pub not_bad : (text : List ℕ) (p : List (List ℕ)) (component : ℕ) → IsPath p → text ≡ path_text p → ¬ (HasBadName text component)
not_bad text p component fits e h =
    let same : parts_of text ≡ p = ap parts_of e ∙ parts_of-path_text p fits.each in
    let P : List (List ℕ) → Type 0 = λ ps. All IsComponent ps in
    not_first IsComponent (parts_of text) [] h.first.0 (subst P (sym same) fits.each) h.first.2

pub one_text : (a b : List (List ℕ)) → IsPath a → IsPath b → path_text a ≡ path_text b → a ≡ b
one_text a b fa fb e = sym (parts_of-path_text a fa.each) ∙ ap parts_of e ∙ parts_of-path_text b fb.each

-- a text that was found to be a path
pub is_path : (text : List ℕ) → slice_index text 0 ≡ 47 → 1 < length text → length text ≤ 4096 → length (cut (behind text)) ≤ 64 → All IsComponent (cut (behind text)) → IsPath (parts_of text) × (text ≡ path_text (parts_of text))
is_path text slash some short few each =
    let e = parts_of-cut text some in
    let same : text ≡ path_text (parts_of text) = text_is text slash ∙ ap path_text (sym e) in
    let n : length text ≡ length (path_text (parts_of text)) = ap length same in
    let P : List (List ℕ) → Type 0 = λ ps. All IsComponent ps in
    let m : length (parts_of text) ≡ length (cut (behind text)) = ap length e in
    (record { few = omega arith; short = omega arith; each = subst P (sym e) each }, same)

-- a text with a first bad component
pub has_bad : (text : List ℕ) (index : ℕ) → slice_index text 0 ≡ 47 → 1 < length text → length text ≤ 4096 → length (cut (behind text)) ≤ 64 → IsFirstWithout IsComponent (cut (behind text)) index → HasBadName text (index + 1)
has_bad text index slash some short few first =
    let e = parts_of-cut text some in
    let m : length (parts_of text) ≡ length (cut (behind text)) = ap length e in
    let P : List (List ℕ) → Type 0 = λ ps. IsFirstWithout IsComponent ps index in
    record { slash = slash; short = short; few = omega arith; first = (index, refl, subst P (sym e) first) }

-- which is the only one
pub one_bad : (text : List ℕ) (a b : ℕ) → HasBadName text a → HasBadName text b → a ≡ b
one_bad text a b x y =
    let e = one_first IsComponent (parts_of text) [] x.first.0 y.first.0 x.first.2 y.first.2 in
    let p = x.first.1 in let q = y.first.1 in omega arith

-- what `check` may answer of the text of a path: at most want of memory
pub only_memory : {A : Type 0} (text : List ℕ) (p : List (List ℕ)) (e : BadPath) → IsPath p → text ≡ path_text p
    → (◌≡◌ {A = Result A BadPath} (Err e) (Err NoSlash) → slice_index text 0 ≢ 47)
    → (◌≡◌ {A = Result A BadPath} (Err e) (Err Long) → IsLong text)
    → (◌≡◌ {A = Result A BadPath} (Err e) (Err TooDeep) → IsTooDeep text)
    → ((k : ℕ) → ◌≡◌ {A = Result A BadPath} (Err e) (Err (BadName k)) → HasBadName text k)
    → e ≡ OutOfMemory
only_memory text p OutOfMemory fits same a b c d = refl
only_memory text p NoSlash fits same a b c d = absurd (a refl (ap (λ t. slice_index t 0) same))
only_memory text p Long fits same a b c d = absurd (not_long text p fits same (b refl))
only_memory text p TooDeep fits same a b c d = absurd (not_deep text p fits same (c refl))
only_memory text p (BadName k) fits same a b c d = absurd (not_bad text p k fits same (d k refl))
