-- What stands behind the last tilde of a text.
use Rattle.std.proofs.Common.{ℕ, ◌≡◌, ◌≢◌, ◌⊎◌, inl, inr, List, [], ◌∷◌, ◌++◌, sym, ◌∙◌}
use Rattle.std.specs.List.{All}
use Rattle.std.proofs.lemmas.List.Elements.{All-head, All-tail}
use Rattle.pg_base.proofs.Parts.{not_cut}

abbrev NotTilde : ℕ → Type 0
NotTilde byte = byte ≢ 126

-- this is what stands behind the last tilde, or it has that tilde
abbrev pub EndsIn : List ℕ → List ℕ → Type 0
EndsIn rest tail = (rest ≡ tail) ⊎ ((front : List ℕ) × (rest ≡ front ++ 126 ∷ tail))

-- so of whatever stands behind the last tilde of the text
abbrev pub IsTail : List ℕ → List ℕ → Type 0
IsTail text rest = (front tail : List ℕ) → All (λ byte. byte ≢ 126) tail → text ≡ front ++ 126 ∷ tail → EndsIn rest tail

pub tail_from : (text : List ℕ) → IsTail text text
tail_from text front tail plain e = inr (front, e)

-- behind its first tilde
cut_off : (a b front tail : List ℕ) → All NotTilde a → a ++ 126 ∷ b ≡ front ++ 126 ∷ tail → EndsIn b tail
cut_off [] b [] tail plain e = inl (let r : b ≡ tail = cc in r)
cut_off [] b (z ∷ zs) tail plain e = inr (zs, (let r : b ≡ zs ++ 126 ∷ tail = cc in r))
cut_off (x ∷ xs) b [] tail plain e = absurd (All-head NotTilde x xs plain (let r : x ≡ 126 = cc in r))
cut_off (x ∷ xs) b (z ∷ zs) tail plain e = cut_off xs b zs tail (All-tail NotTilde x xs plain) (let r : xs ++ 126 ∷ b ≡ zs ++ 126 ∷ tail = cc in r)

cut_by : (rest a b tail : List ℕ) → All NotTilde a → All NotTilde tail → rest ≡ a ++ 126 ∷ b → EndsIn rest tail → EndsIn b tail
cut_by rest a b tail plain end e (inl same) = absurd (not_cut 126 tail a b end (sym same ∙ e))
cut_by rest a b tail plain end e (inr more) = cut_off a b more.0 tail plain (sym e ∙ more.1)

pub tail_on : (text rest a b : List ℕ) → IsTail text rest → rest ≡ a ++ 126 ∷ b → All (λ byte. byte ≢ 126) a → IsTail text b
tail_on text rest a b so_far e plain front tail end whole = cut_by rest a b tail plain end e (so_far front tail end whole)

ends_by : (rest tail : List ℕ) → All NotTilde rest → EndsIn rest tail → rest ≡ tail
ends_by rest tail none (inl same) = same
ends_by rest tail none (inr more) = absurd (not_cut 126 rest more.0 tail none more.1)

-- where no tilde is left
pub tail_is : (text rest : List ℕ) → IsTail text rest → All (λ byte. byte ≢ 126) rest → (front tail : List ℕ) → All (λ byte. byte ≢ 126) tail → text ≡ front ++ 126 ∷ tail → rest ≡ tail
tail_is text rest so_far none front tail end whole = ends_by rest tail none (so_far front tail end whole)
