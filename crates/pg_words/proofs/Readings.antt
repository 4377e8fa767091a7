-- A text that is lines, each with a line feed behind its body: it is so in one way only, and stops
-- being so at one place only.
use Rattle.std.proofs.Common.{ℕ, ◌≡◌, ◌≢◌, List, [], ◌∷◌, ◌++◌, length, refl, sym, ap, ◌∙◌, arith, append_assoc, length-append, suc}
use Rattle.std.specs.List.{AllByRecursion, flat_map}
use Rattle.pg_base.proofs.Parts.{cut_same}
use Rattle.pg_words.proofs.Splitting.{Lacks}

module _ {A : Type 0} (body : A → List ℕ) (P : A → Type 0) (lacks : (x : A) → P x → Lacks 10 (body x)) where
  -- a line with its end
  abbrev pub text : A → List ℕ
  text x = body x ++ 10 ∷ []

  abbrev pub texts_of : List A → List ℕ
  texts_of xs = flat_map text xs

  -- the text goes on, and not with a line
  pub record LacksLine (rest : List ℕ) : Type 0 where
    pub some : rest ≢ []
    pub none : (x : A) (more : List ℕ) → P x → rest ≡ text x ++ more → ⊥

  no_line : (x : A) (xs : List A) → [] ≡ texts_of (x ∷ xs) → ⊥
  no_line x xs e =
      let n = ap length e in
      omega (arith, length-append (body x ++ 10 ∷ []) (texts_of xs), length-append (body x) (10 ∷ []))

  after_line : (x : A) (xs : List A) (rest : List ℕ) → texts_of (x ∷ xs) ++ rest ≡ body x ++ 10 ∷ (texts_of xs ++ rest)
  after_line x xs rest = append_assoc (text x) (texts_of xs) rest ∙ append_assoc (body x) (10 ∷ []) (texts_of xs ++ rest)

  pub stops_once : (xs ys : List A) (more rest : List ℕ) → AllByRecursion P xs → AllByRecursion P ys → texts_of xs ++ more ≡ texts_of ys ++ rest
      → LacksLine more → LacksLine rest → (length xs ≡ length ys) × (more ≡ rest)
  stops_once [] [] more rest hx hy e lx ly = (refl, e)
  stops_once [] (y ∷ ys) more rest hx hy e lx ly = absurd (lx.none y (texts_of ys ++ rest) hy.0 (e ∙ append_assoc (text y) (texts_of ys) rest))
  stops_once (x ∷ xs) [] more rest hx hy e lx ly = absurd (ly.none x (texts_of xs ++ more) hx.0 (sym e ∙ append_assoc (text x) (texts_of xs) more))
  stops_once (x ∷ xs) (y ∷ ys) more rest hx hy e lx ly =
      let cut = cut_same 10 (body x) (texts_of xs ++ more) (body y) (texts_of ys ++ rest) (lacks x hx.0) (lacks y hy.0) (sym (after_line x xs more) ∙ e ∙ after_line y ys rest) in
      let once = stops_once xs ys more rest hx.1 hy.1 cut.1 lx ly in
      (ap suc once.0, once.1)

  no_end : (x : A) (xs : List A) (rest : List ℕ) → [] ≡ texts_of (x ∷ xs) ++ rest → ⊥
  no_end x xs rest e =
      let n = ap length e in
      omega (arith, length-append (texts_of (x ∷ xs)) rest, length-append (body x ++ 10 ∷ []) (texts_of xs), length-append (body x) (10 ∷ []))

  -- where a text is lines, it stops being so nowhere
  pub stops_nowhere : (good xs : List A) (rest : List ℕ) → AllByRecursion P good → AllByRecursion P xs → texts_of xs ≡ texts_of good ++ rest → LacksLine rest → ⊥
  stops_nowhere [] [] rest g l e h = h.some (sym e)
  stops_nowhere [] (x ∷ xs) rest g l e h = h.none x (texts_of xs) l.0 (sym e)
  stops_nowhere (y ∷ ys) [] rest g l e h = no_end y ys rest e
  stops_nowhere (y ∷ ys) (x ∷ xs) rest g l e h =
      let cut = cut_same 10 (body x) (texts_of xs) (body y) (texts_of ys ++ rest) (lacks x l.0) (lacks y g.0)
      (sym (append_assoc (body x) (10 ∷ []) (texts_of xs)) ∙ e ∙ after_line y ys rest) in
      stops_nowhere ys xs rest g.1 l.1 cut.1 h

  -- no two lists of lines have one text, where no two lines have one
  pub same_lines : ((x y : A) → P x → P y → body x ≡ body y → x ≡ y) → (xs ys : List A) → AllByRecursion P xs → AllByRecursion P ys → texts_of xs ≡ texts_of ys → xs ≡ ys
  same_lines one [] [] hx hy e = refl
  same_lines one [] (y ∷ ys) hx hy e = absurd (no_line y ys e)
  same_lines one (x ∷ xs) [] hx hy e = absurd (no_line x xs (sym e))
  same_lines one (x ∷ xs) (y ∷ ys) hx hy e =
      let cut = cut_same 10 (body x) (texts_of xs) (body y) (texts_of ys) (lacks x hx.0) (lacks y hy.0)
      (sym (append_assoc (body x) (10 ∷ []) (texts_of xs)) ∙ e ∙ append_assoc (body y) (10 ∷ []) (texts_of ys)) in
      let first : x ≡ y = one x y hx.0 hy.0 cut.0 in
      let rest : xs ≡ ys = same_lines one xs ys hx.1 hy.1 cut.1 in
      cc
