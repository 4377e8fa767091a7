-- The first words of a line, as they are cut off one by one.
use Rattle.std.proofs.Common.{ℕ, ◌≡◌, ◌<◌, ◌≤◌, ◌+◌, List, [], ◌∷◌, ◌++◌, Bor, Option, None, Some, eqb, refl, sym, ap, ◌∙◌, arith, eq-eqb, take, set, length, append_assoc}
use Rattle.std.proofs.lemmas.List.{append-nil, take_all, take_more_set, take-append-le, length-map, length-take, map-append}
use Rattle.std.proofs.lemmas.List.Splits.{slice_split_none, slice_split_at}
use Rattle.pg_words.specs.Words.{words_in}
use Rattle.pg_words.proofs.ListWords.{texts}
use Rattle.pg_words.proofs.Splitting.{Lacks, eqb-other}

-- the words of what is left of a line
abbrev pub left : Option (Bor (List ℕ)) → List (List ℕ)
left None = []
left (Some text) = words_in text.now

-- one word was put behind the others
texts_more : (room : List (Bor (List ℕ))) (i : ℕ) (w : Bor (List ℕ)) → i < length room → texts (take (i + 1) (set room i w)) ≡ texts (take i room) ++ w.now ∷ []
texts_more room i w lt = ap texts (take_more_set room i w lt) ∙ map-append (λ (v : Bor (List ℕ)). v.now) (take i room) (w ∷ [])

pub word_cut : (line : List ℕ) (room : List (Bor (List ℕ))) (i : ℕ) (text word more : Bor (List ℕ)) → i < length room → words_in line ≡ texts (take i room) ++ words_in text.now
    → text.now ≡ word.now ++ 32 ∷ more.now → Lacks 32 word.now → words_in line ≡ texts (take (i + 1) (set room i word)) ++ words_in more.now
word_cut line room i text word more lt so_far cut lacks =
    so_far
    ∙ ap (λ t. texts (take i room) ++ words_in t) cut
    ∙ ap (λ ws. texts (take i room) ++ ws) (slice_split_at (λ b. eqb b 32) word.now 32 more.now (eqb-other 32 word.now lacks) (eq-eqb 32 32 refl))
    ∙ sym (append_assoc (texts (take i room)) (word.now ∷ []) (words_in more.now))
    ∙ ap (λ ws. ws ++ words_in more.now) (sym (texts_more room i word lt))

pub word_last : (line : List ℕ) (room : List (Bor (List ℕ))) (i : ℕ) (text : Bor (List ℕ)) → i < length room → words_in line ≡ texts (take i room) ++ words_in text.now
    → Lacks 32 text.now → words_in line ≡ texts (take (i + 1) (set room i text)) ++ []
word_last line room i text lt so_far lacks =
    so_far
    ∙ ap (λ ws. texts (take i room) ++ ws) (slice_split_none (λ b. eqb b 32) text.now (eqb-other 32 text.now lacks))
    ∙ sym (texts_more room i text lt)
    ∙ sym (append-nil (texts (take (i + 1) (set room i text))))

-- the line has no more words
pub all_words : (line : List ℕ) (room : List (Bor (List ℕ))) (i : ℕ) → i ≤ length room → words_in line ≡ texts (take i room) ++ [] → texts (take i room) ≡ take (length room) (words_in line)
all_words line room i le whole =
    let same : words_in line ≡ texts (take i room) = whole ∙ append-nil (texts (take i room)) in
    let few = length-map (take i room) (λ (w : Bor (List ℕ)). w.now) in
    let taken = length-take i room in
    sym (ap (take (length room)) same ∙ take_all (length room) (texts (take i room)) (omega arith))

-- there is no more room
pub full_room : (line : List ℕ) (room : List (Bor (List ℕ))) (i : ℕ) (rest : List (List ℕ)) → i ≡ length room → words_in line ≡ texts (take i room) ++ rest → texts (take (length room) room) ≡ take (length room) (words_in line)
full_room line room i rest end whole =
    let n = length room in
    let all : take i room ≡ room = take_all i room (omega arith) in
    let whole' : words_in line ≡ texts room ++ rest = whole ∙ ap (λ ws. texts ws ++ rest) all in
    let few = length-map room (λ (w : Bor (List ℕ)). w.now) in
    ap texts (take_all n room (omega arith))
    ∙ sym (ap (take n) whole' ∙ take-append-le n (texts room) rest (omega arith) ∙ take_all n (texts room) (omega arith))
