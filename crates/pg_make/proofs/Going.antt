-- An event more.
use Rattle.std.proofs.Common.{ℕ, suc, ◌≡◌, ◌≢◌, ◌+◌, ◌*◌, ◌%◌, cond, List, [], ◌∷◌, ◌++◌, sym, ap, ◌∙◌, subst, append_assoc, add-one}
use Rattle.std.proofs.lemmas.Bool.{ne_eqb}
use Rattle.std.proofs.lemmas.Grind.{flat_map-append}
use Rattle.pg_sched.specs.Schedule.{header, line_text, lines_text}
use Rattle.pg_sched.specs.declared.line.Line.{Line}
use Rattle.pg_sched.specs.declared.line.Line.TheVariants.{Settle}
use Rattle.rand_pcg.specs.Lcg.{Lcg}
use Rattle.pg_make.specs.Made.{settling_after, numbered_lines, first_lines}

-- no settling stands behind other events than each sixteenth
pub no_settling : (number : ℕ) → number % 16 ≢ 0 → settling_after number ≡ []
no_settling number h =
    ap (λ t. cond t (Settle 1 (10 * number) ∷ []) []) (ne_eqb (number % 16) 0 h)

-- lines behind lines are all their lines
joined : (start : List ℕ) (head : List ℕ) (xs ys : List Line)
    → (start ++ (head ++ lines_text xs)) ++ lines_text ys ≡ start ++ (head ++ lines_text (xs ++ ys))
joined start head xs ys =
    append_assoc start (head ++ lines_text xs) (lines_text ys)
    ∙ ap (λ t. start ++ t) (append_assoc head (lines_text xs) (lines_text ys)
    ∙ ap (λ t. head ++ t) (sym (flat_map-append line_text xs ys)))

-- the text behind the event of this number
text_behind : (start : List ℕ) (servers count : ℕ) (first words : Lcg) (old new : List ℕ)
    → old ≡ start ++ (header servers ++ lines_text (first_lines servers count first).0)
    → words ≡ (first_lines servers count first).1
    → (number : ℕ)
    → suc count ≡ number
    → new ≡ old ++ lines_text (numbered_lines servers number words).0
    → new ≡ start ++ (header servers ++ lines_text (first_lines servers number first).0)
text_behind start servers count first words old new text left number e more =
    let P : ℕ → Type 0 = λ n. new ≡ old ++ lines_text (numbered_lines servers n words).0 in
    let Q : ℕ → Type 0 = λ n. new ≡ start ++ (header servers ++ lines_text (first_lines servers n first).0) in
    let before = first_lines servers count first in
    subst Q e (subst P (sym e) more
    ∙ ap (λ t. t ++ lines_text (numbered_lines servers (suc count) words).0) text
    ∙ ap (λ w. (start ++ (header servers ++ lines_text (first_lines servers count first).0)) ++ lines_text (numbered_lines servers (suc count) w).0) left
    ∙ joined start (header servers) before.0 (numbered_lines servers (suc count) before.1).0)

pub text_after : (start : List ℕ) (servers count : ℕ) (first words : Lcg) (old new : List ℕ)
    → old ≡ start ++ (header servers ++ lines_text (first_lines servers count first).0)
    → words ≡ (first_lines servers count first).1
    → new ≡ old ++ lines_text (numbered_lines servers (count + 1) words).0
    → new ≡ start ++ (header servers ++ lines_text (first_lines servers (count + 1) first).0)
text_after start servers count first words old new text left more =
    text_behind start servers count first words old new text left (count + 1) (sym (add-one count)) more

-- the generator behind the event of this number
words_behind : (servers count : ℕ) (first words new : Lcg) → words ≡ (first_lines servers count first).1
    → (number : ℕ)
    → suc count ≡ number
    → new ≡ (numbered_lines servers number words).1
    → new ≡ (first_lines servers number first).1
words_behind servers count first words new left number e more =
    let P : ℕ → Type 0 = λ n. new ≡ (numbered_lines servers n words).1 in
    let Q : ℕ → Type 0 = λ n. new ≡ (first_lines servers n first).1 in
    subst Q e (subst P (sym e) more ∙ ap (λ w. (numbered_lines servers (suc count) w).1) left)

pub words_after : (servers count : ℕ) (first words new : Lcg) → words ≡ (first_lines servers count first).1
    → new ≡ (numbered_lines servers (count + 1) words).1
    → new ≡ (first_lines servers (count + 1) first).1
words_after servers count first words new left more =
    words_behind servers count first words new left (count + 1) (sym (add-one count)) more
