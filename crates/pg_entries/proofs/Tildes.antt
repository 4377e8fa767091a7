-- Texts that end in a tilde and an id.
use Rattle.std.proofs.Common.{ℕ, ◌≡◌, ◌≢◌, Bool, true, false, eqb, IsTrue, ◌↔◌, ◌⊎◌, inl, inr, Decides, List, [], ◌∷◌, ◌++◌, length, take, drop, refl, sym, ap, ◌∙◌, arith, decimal}
use Rattle.std.specs.Cmp.Lexicographic.{pointwise}
use Rattle.std.proofs.lemmas.Slice.Eq.{slice_eq-Decides}
use Rattle.std.proofs.lemmas.Bool.Decides.{Decides-eqb}
use Rattle.std.proofs.lemmas.List.{take-append-drop, append_cancel_left, take_at}
use Rattle.std.specs.Int.{IsInRange}
use Rattle.std.specs.List.{All}
use Rattle.std.proofs.lemmas.List.Elements.{All-append, All-cons}
use Rattle.pg_base.specs.declared.id.Kind.{Kind}
use Rattle.pg_base.specs.declared.id.Kind.TheVariants.{Dir, File}
use Rattle.pg_base.specs.declared.id.FileId.{FileId}
use Rattle.pg_base.specs.Id.{spelling, letter, Fits, is_same_file}
use Rattle.pg_base.proofs.Parts.{decimal-without, not_cut}
use Rattle.pg_base.proofs.Spellings.{spelling-same}
use Rattle.pg_base.proofs.Orders.{is_same_file-true, is_same_file-refl}

tilde_other : ¬ (IsInRange 48 57 126)
tilde_other h = omega arith

letter-other : (k : Kind) → letter k ≢ 126
letter-other Dir h = let e : ◌≡◌ {A = ℕ} 100 126 = h in absurd (omega arith)
letter-other File h = let e : ◌≡◌ {A = ℕ} 102 126 = h in absurd (omega arith)

-- no id's spelling has a tilde
pub spelling-lacks : (id : FileId) → Fits id → All (λ z. z ≢ 126) (spelling id)
spelling-lacks id fits =
    let s = fits.server in
    let n = fits.number in
    All-cons (λ z. z ≢ 126) (letter id.kind) (decimal id.server ++ 46 ∷ decimal id.number) (letter-other id.kind)
    (All-append (λ z. z ≢ 126) (decimal id.server) (46 ∷ decimal id.number) (decimal-without 126 id.server tilde_other (omega arith))
    (All-cons (λ z. z ≢ 126) 46 (decimal id.number) (λ h. let e : ◌≡◌ {A = ℕ} 46 126 = h in absurd (omega arith)) (decimal-without 126 id.number tilde_other n)))

-- a text has one last c
pub cut_last : (c : ℕ) (a b x y : List ℕ) → All (λ z. z ≢ c) b → All (λ z. z ≢ c) y → a ++ c ∷ b ≡ x ++ c ∷ y → b ≡ y
cut_last c [] b [] y h k e = cc
cut_last c [] b (z ∷ zs) y h k e = let rest : b ≡ zs ++ c ∷ y = cc in absurd (not_cut c b zs y h rest)
cut_last c (z ∷ zs) b [] y h k e = let rest : zs ++ c ∷ b ≡ y = cc in absurd (not_cut c y zs b k (sym rest))
cut_last c (z ∷ zs) b (w ∷ ws) y h k e = let rest : zs ++ c ∷ b ≡ ws ++ c ∷ y = cc in cut_last c zs b ws y h k rest

-- an id was read of a text: the text spells another exactly where that is the same id
pub read_is : (text : List ℕ) (read id : FileId) (t : Bool) → Fits read → Fits id → text ≡ spelling read → t ≡ is_same_file read id → IsTrue t ↔ (text ≡ spelling id)
read_is text read id t fr fi e is =
    (λ h. e ∙ ap spelling (is_same_file-true read id (sym is ∙ h)), λ f. is ∙ (let same : read ≡ id = spelling-same read id fr fi (sym e ∙ f) in ap (λ x. is_same_file x id) same) ∙ is_same_file-refl id)

same_bytes : (xs ys : List ℕ) → Decides (pointwise eqb xs ys) (xs ≡ ys)
same_bytes xs ys = slice_eq-Decides Decides-eqb xs ys (pointwise eqb xs ys) refl

-- the text begins with the name
pub begins : (text name rest tail : List ℕ) (t : Bool) → pointwise eqb (take (length name) text) name ≡ true → rest ≡ drop (length name) text → IsTrue t ↔ (rest ≡ tail) → IsTrue t ↔ (text ≡ name ++ tail)
begins text name rest tail t same is h =
    let front : take (length name) text ≡ name = (same_bytes (take (length name) text) name).0 same in
    let whole : text ≡ name ++ rest = sym (take-append-drop (length name) text) ∙ ap (λ x. x ++ drop (length name) text) front ∙ ap (λ x. name ++ x) (sym is) in
    (λ k. whole ∙ ap (λ x. name ++ x) (h.0 k), λ e. h.1 (append_cancel_left name rest tail (sym whole ∙ e)))

-- the text does not
pub not_begins : (text name tail : List ℕ) → pointwise eqb (take (length name) text) name ≡ false → text ≡ name ++ tail → ⊥
not_begins text name tail other e =
    let front : take (length name) text ≡ name = ap (take (length name)) e ∙ take_at name tail (length name) refl in
    let same = (same_bytes (take (length name) text) name).1 front in
    (let x : true ≡ false = sym same ∙ other in cc)

-- ---- shown names differ

-- a name without a tilde, or the one that is made of the child's own id
pub own_or_plain : (a f : List ℕ) (e g : FileId) → Fits e → Fits g → (All (λ z. z ≢ 126) a) ⊎ (a ≡ 126 ∷ spelling e) → a ≡ f ++ 126 ∷ spelling g → e ≡ g
own_or_plain a f e g fe fg (inl plain) h = absurd (not_cut 126 a f (spelling g) plain h)
own_or_plain a f e g fe fg (inr own) h =
    let same : [] ++ 126 ∷ spelling e ≡ f ++ 126 ∷ spelling g = sym own ∙ h in
    spelling-same e g fe fg (cut_last 126 [] (spelling e) f (spelling g) (spelling-lacks e fe) (spelling-lacks g fg) same)

pub both_with_id : (a b : List ℕ) (e g : FileId) → Fits e → Fits g → a ++ 126 ∷ spelling e ≡ b ++ 126 ∷ spelling g → e ≡ g
both_with_id a b e g fe fg h = spelling-same e g fe fg (cut_last 126 a (spelling e) b (spelling g) (spelling-lacks e fe) (spelling-lacks g fg) h)
