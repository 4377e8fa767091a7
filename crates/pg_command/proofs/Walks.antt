-- What clap makes of words that do not begin with a hyphen, one by one.
use Rattle.std.proofs.Common.{ℕ, ◌≡◌, ◌≢◌, ◌==◌, ◌∙◌, ◌&&◌, All, Bool, ap, arith, false, true, List, [], ◌∷◌, None, fold, refl}
use Rattle.std.proofs.lemmas.Bool.{and_from, ne_eqb}
use Rattle.std.specs.List.{list_all}
use Rattle.std.specs.Prelude.{nat_eq}
use Rattle.std.specs.Str.{bytes_eq}
use Rattle.clap.specs.Lexer.{long_of, short_of}
use Rattle.clap.specs.Simple.{Shape}
use Rattle.clap.specs.Takes.{default_passes, is_valid, level_passes, settle_passes, step_passes, turn_passes, walk_passes}
use Rattle.clap.specs.Walk.{Held, Rule, Text, Walk, arg_by_index, finished, idle, nothing_held, rows_after, to_positional, value, walk, walk_from, walked, word_met}

-- it is no flag, and not `--`
abbrev pub IsPlainWord : Text → Type 0
IsPlainWord word =
    (bytes_eq word (45 ∷ 45 ∷ []) ≡ false) × (long_of word ≡ None) × (short_of word ≡ None)

plain_head : (x : ℕ) (xs : List ℕ) → nat_eq x 45 ≡ false → (x == 45) ≡ false
    → IsPlainWord (x ∷ xs)
plain_head x xs e f = (rw e refl, rw f refl, rw f refl)

pub plain_word : (word : Text) → All (λ byte. byte ≢ 45) word → IsPlainWord word
plain_word [] h = (refl, refl, refl)
plain_word (x ∷ xs) h =
    let other : x ≢ 45 = h 0 x (omega arith) in
    plain_head x xs (ne_eqb x 45 other) (ne_eqb x 45 other)

plain_met : (c : List Rule) (at : ℕ) (word : Text) (h : Held) → IsPlainWord word
    → word_met c [] false idle at word h ≡ (h, value)
plain_met c at word h p = rw (p.0, p.1, p.2) refl

-- behind a word that goes to the next positional
abbrev pub behind : List Rule → Walk → Text → Walk
behind c w word = to_positional c (arg_by_index c w.position) word w w.held

-- no option waits for a value, no `--` came, and no subcommand
abbrev pub IsBetween : Walk → Type 0
IsBetween w = (w.stopped ≡ None) × (w.is_trailing ≡ false) × (w.waiting ≡ idle)

walked_plain : (c : List Rule) (w : Walk) (word : Text) → IsBetween w → IsPlainWord word
    → walked c [] w word ≡ behind c w word
unfolding walked
walked_plain c w word b p = rw (b.0, b.1, b.2, plain_met c w.position word w.held p) refl

turn_plain : (s : Shape) (w : Walk) (word : Text) → IsBetween w → IsPlainWord word
    → turn_passes s [] w word ≡ step_passes s w.position w.held value
turn_plain s w word b p =
    rw (b.0, b.1, b.2, plain_met s.rules w.position word w.held p, p.0, p.1, p.2) refl

-- each word goes to a positional of the command, which takes it
abbrev pub AreTaken : Shape → Walk → List Text → Type 0
AreTaken s w [] = Unit {0}
AreTaken s w (word ∷ words) =
    (IsBetween w × IsPlainWord word × (step_passes s w.position w.held value ≡ true))
    × AreTaken s (behind s.rules w word) words

pub walks : (s : Shape) (w : Walk) (words : List Text) → AreTaken s w words
    → fold (walked s.rules []) w words ≡ fold (behind s.rules) w words
walks s w [] taken = refl
walks s w (word ∷ words) taken =
    ap (λ v. fold (walked s.rules []) v words) (walked_plain s.rules w word taken.0.0 taken.0.1)
    ∙ walks s (behind s.rules w word) words taken.1

pub walk_passes_on : (s : Shape) (w : Walk) (words : List Text) → AreTaken s w words
    → walk_passes s [] w words ≡ true
unfolding walk_passes
walk_passes_on s w [] taken = refl
walk_passes_on s w (word ∷ words) taken =
    and_from (turn_passes s [] w word) (walk_passes s [] (walked s.rules [] w word) words)
    (turn_plain s w word taken.0.0 taken.0.1 ∙ taken.0.2)
    (ap (λ v. walk_passes s [] v words) (walked_plain s.rules w word taken.0.0 taken.0.1)
    ∙ walk_passes_on s (behind s.rules w word) words taken.1)

-- what is asked at the end of the words
abbrev pub ends_well : Shape → Held → Bool
ends_well s h = settle_passes s.rules s.args_override_self h
    && (list_all default_passes s.rules && is_valid s (finished s.rules h) false)

-- so many words, and what is held behind them
abbrev pub behind_all : Shape → List Text → Held
behind_all s words = (fold (behind s.rules) (walk_from nothing_held) words).held

pub rows_are : (s : Shape) (words : List Text) → AreTaken s (walk_from nothing_held) words
    → rows_after s.rules [] words ≡ finished s.rules (behind_all s words)
rows_are s words taken =
    ap (λ (w : Walk). finished s.rules w.held) (walks s (walk_from nothing_held) words taken)

pub level_passes_so : (s : Shape) (words : List Text) → AreTaken s (walk_from nothing_held) words
    → ends_well s (behind_all s words) ≡ true
    → level_passes s [] nothing_held words false ≡ true
level_passes_so s words taken well =
    and_from (walk_passes s [] (walk_from nothing_held) words)
    (ends_well s (walk s.rules [] nothing_held words).held)
    (walk_passes_on s (walk_from nothing_held) words taken)
    (ap (λ (w : Walk). ends_well s w.held) (walks s (walk_from nothing_held) words taken) ∙ well)
