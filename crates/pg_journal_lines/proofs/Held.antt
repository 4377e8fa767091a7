-- What the words behind `at` are, where they spell a line.
use Rattle.std.proofs.Common.{ℕ, ◌≡◌, ◌≢◌, ◌<◌, ◌^◌, Bool, Bor, List, [], ◌∷◌, ◌++◌, All, refl, sym, ap, subst, arith, codes, decimal, length}
use Rattle.std.specs.List.{AllByRecursion}
use Rattle.std.proofs.lemmas.List.Elements.{All-head}
use Rattle.pg_base.specs.Id.{Fits, spelling}
use Rattle.pg_base.specs.declared.id.FileId.{FileId}
use Rattle.pg_base.specs.declared.id.Kind.{Kind}
use Rattle.pg_base.specs.declared.id.Kind.TheVariants.{Dir, File}
use Rattle.pg_base.specs.declared.stamp.Stamp.{Stamp}
use Rattle.pg_base.proofs.Parts.{decimal-without}
use Rattle.pg_base.proofs.Spellings.{spelling-same}
use Rattle.pg_register.specs.declared.place.Place.{Place}
use Rattle.pg_trace.specs.declared.journal_line.JournalLine.{JournalLine}
use Rattle.pg_trace.specs.declared.journal_line.JournalLine.TheVariants.{Replica, Nowhere}
use Rattle.pg_trace.specs.declared.replica.ShownContent.{ShownContent}
use Rattle.pg_trace.specs.declared.replica.ShownContent.TheVariants as contents
use Rattle.pg_trace.specs.JournalLine.{contents_words, AreFirst, IsContents}
use Rattle.pg_journal_lines.specs.Reading.{Reads}
use Rattle.pg_journal_lines.specs.declared.verb.Verb.TheVariants as verb
use Rattle.pg_words.specs.ChoiceWord.{full_word, gold_word}
use Rattle.pg_words.specs.PlaceWords.{IsPlace, place_words}
use Rattle.pg_words.specs.StampWord.{IsStamp}
use Rattle.pg_words.proofs.ListWords.{texts}
use Rattle.pg_words.proofs.Splitting.{behind, word_at}
use Rattle.pg_words.proofs.WordIndexes.{at}

-- a number is no dash
no_dash : (n : ℕ) → n < 2 ^ 32 → codes "-" ≡ decimal n → ⊥
no_dash n lt e =
    let P : List ℕ → Type 0 = All (λ b. b ≢ 45) in
    All-head (λ b. b ≢ 45) 45 [] (subst P (sym e) (decimal-without 45 n (λ r. omega arith) (omega arith))) refl

-- what a file shows, as these words say
abbrev pub IsFileShown : List (List ℕ) → Type 0
IsFileShown words =
    (s : List Stamp) × (k : ℕ) × (b : List ℕ) × AllByRecursion IsStamp s × (k < 2 ^ 64) × AreFirst b × (words ≡ contents_words (contents.File s k b))

pub file_shown : (words : List (List ℕ)) (c : ShownContent) → IsContents File c → words ≡ contents_words c → IsFileShown words
file_shown words (contents.File s k b) fits e = (s, k, b, fits.0, fits.1, fits.2, e)
file_shown words (contents.Dir n) fits e = absurd fits

-- a dash, and an id
pub nowhere_is : (words : List (List ℕ)) (p : JournalLine) → Reads verb.At (codes "-" ∷ words) p → (f : FileId) × Fits f × (words ≡ spelling f ∷ [])
nowhere_is words (Nowhere f) h = (f, h.fits, ap behind h.behind)
nowhere_is words (Replica r) h = let t = h.fits in absurd (no_dash r.server t.server (ap (word_at 0) h.behind))
nowhere_is words p h = absurd (let v = h.verb in cc)

-- something stands behind the id
pub some_held : (n : ℕ) (f : FileId) (p : JournalLine) → n < 2 ^ 32 → Reads verb.At (decimal n ∷ spelling f ∷ []) p → ⊥
some_held n f (Replica r) lt h = let l = ap length h.behind in omega arith
some_held n f (Nowhere g) lt h = no_dash n lt (sym (ap (word_at 0) h.behind))
some_held n f p lt h = let v = h.verb in cc

-- and that is the word of a gold flag
pub gold_held : (n : ℕ) (f : FileId) (word : List ℕ) (rest : List (List ℕ)) (p : JournalLine) → n < 2 ^ 32 → ((g : Bool) → word ≡ gold_word g → ⊥) → Reads verb.At (decimal n ∷ spelling f ∷ word ∷ rest) p → ⊥
gold_held n f word rest (Replica r) lt other h = other r.gold (ap (word_at 2) h.behind)
gold_held n f word rest (Nowhere g) lt other h = no_dash n lt (sym (ap (word_at 0) h.behind))
gold_held n f word rest p lt other h = let v = h.verb in cc

-- what stands behind a replica's gold flag
abbrev pub IsReplicaHeld : Kind → List (List ℕ) → Type 0
IsReplicaHeld kind words =
    (full : Bool) × (p : Place) × (c : ShownContent) × IsPlace p × IsContents kind c × (words ≡ full_word full ∷ codes "place" ∷ (place_words p ++ contents_words c))

pub replica_is : (n : ℕ) (f : FileId) (g : Bool) (words : List (List ℕ)) (p : JournalLine) → Fits f → Reads verb.At (decimal n ∷ spelling f ∷ gold_word g ∷ words) p → IsReplicaHeld f.kind words
replica_is n f g words (Replica r) fits h =
    let t = h.fits in
    let same : r.id ≡ f = sym (spelling-same f r.id fits t.id_fits (ap (word_at 1) h.behind)) in
    let P : FileId → Type 0 = λ x. IsContents x.kind r.contents in
    (r.full, r.place, r.contents, t.place, subst P same t.contents_fit, ap (λ ws. behind (behind (behind ws))) h.behind)
replica_is n f g words (Nowhere q) fits h = absurd (let l = ap length h.behind in omega arith)
replica_is n f g words p fits h = absurd (let v = h.verb in cc)

-- five words, of which two are those of each thing that is shown
pub five : (ws : List (Bor (List ℕ))) (d : Bor (List ℕ)) → length ws ≡ 5 → at ws d 0 ≡ codes "heads" → at ws d 2 ≡ codes "shown"
    → texts ws ≡ codes "heads" ∷ at ws d 1 ∷ codes "shown" ∷ at ws d 3 ∷ at ws d 4 ∷ []
five [] d h p q = absurd (omega arith)
five (xa ∷ []) d h p q = absurd (omega arith)
five (xa ∷ xb ∷ []) d h p q = absurd (omega arith)
five (xa ∷ xb ∷ xc ∷ []) d h p q = absurd (omega arith)
five (xa ∷ xb ∷ xc ∷ xd ∷ []) d h p q = absurd (omega arith)
five (xa ∷ xb ∷ xc ∷ xd ∷ xe ∷ []) d h p q = cc
five (xa ∷ xb ∷ xc ∷ xd ∷ xe ∷ xf ∷ more) d h p q = absurd (omega arith)
