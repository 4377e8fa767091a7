-- One more piece behind what was laid.
use Rattle.std.proofs.Common.{ℕ, cond, ◌≡◌, ◌≢◌, ◌<◌, ◌≤◌, ◌-◌, ◌⊎◌, inl, inr, List, [], ◌∷◌, ◌++◌, length, get_or, refl, sym, ap, subst, ◌∙◌, arith, ltb, leb, ◌&&◌, slice_range}
use Rattle.std.proofs.lemmas.List.{get_or_append_left, get_or-append_right, length-append}
use Rattle.std.proofs.lemmas.List.Edits.{get_or-between, length-between}
use Rattle.std.proofs.lemmas.Bool.{cases_lt}
use Rattle.std.proofs.lemmas.Bool.Decides.{nat_tests}
use Rattle.pg_patch.specs.declared.part.Part.{Part}
use Rattle.pg_patch.specs.declared.laying.Open.{Open}
use Rattle.pg_patch.specs.declared.laying.Open.TheVariants.{Nothing, Whole, Joined}
use Rattle.pg_patch.specs.Parts.{end_of, byte_of, byte_or, AreInOrder}
use Rattle.pg_patch.specs.declared.laying.Laying.{Laying}
use Rattle.pg_patch.specs.Laying.{opened, laid, IsLaid, Adds}
use Rattle.pg_patch.proofs.Parts.{holds-below, holds-behind, holds-within, byte_or-append, byte_or-skip, byte_or-here, byte_or-behind, in_order-push, in_order-grown, in_order-but_last, in_order-wider, last_to}

-- the bytes of a part from one index to another, as a part
abbrev pub piece : Part → ℕ → ℕ → List ℕ
piece p start to = slice_range p.bytes (start - p.offset) (to - p.offset)

-- the piece lies within the part
pub record IsPiece (p : Part) (start to : ℕ) : Type 0 where
  pub from : p.offset ≤ start
  pub some : start < to
  pub upto : to ≤ end_of p

pub length-piece : (p : Part) (start to : ℕ) → IsPiece p start to → length (piece p start to) ≡ to - start
length-piece p start to h = length-between p.bytes (start - p.offset) (to - p.offset) (omega (arith, h.upto)) ∙ omega (arith, h.from)

pub get_or-piece : (p : Part) (start to : ℕ) → IsPiece p start to → (i : ℕ) → start ≤ i → i < to → get_or (piece p start to) (i - start) 0 ≡ byte_of p i
get_or-piece p start to h i a b =
    get_or-between p.bytes (start - p.offset) (to - p.offset) (i - start) 0 (omega (arith, h.from)) ∙ ap (λ k. get_or p.bytes k 0) (omega (arith, h.from))

pub within_yes : (start to i v w : ℕ) → start ≤ i → i < to → cond (leb start i && ltb i to) v w ≡ v
within_yes start to i v w a b = grind (arith, nat_tests)

pub within_below : (start to i v w : ℕ) → i < start → cond (leb start i && ltb i to) v w ≡ w
within_below start to i v w a = grind (arith, nat_tests)

pub within_behind : (start to i v w : ℕ) → to ≤ i → cond (leb start i && ltb i to) v w ≡ w
within_behind start to i v w a = grind (arith, nat_tests)

-- an index before the piece, in it or behind it
abbrev At : ℕ → ℕ → ℕ → Type 0
At start to i = (i < start) ⊎ (((start ≤ i) × (i < to)) ⊎ (to ≤ i))

at_by : (start to i : ℕ) → (i < start) ⊎ (start ≤ i) → (i < to) ⊎ (to ≤ i) → At start to i
at_by start to i (inl a) b = inl a
at_by start to i (inr a) (inl b) = inr (inl (a, b))
at_by start to i (inr a) (inr b) = inr (inr b)

at : (start to i : ℕ) → At start to i
at start to i = at_by start to i (cases_lt i start) (cases_lt i to)

-- ---- a new part
new_byte_by : (ps : List Part) (p q : Part) (start to i d : ℕ) → AreInOrder 0 ps start → IsPiece p start to → q.offset ≡ start → q.bytes ≡ piece p start to → At start to i
    → byte_or ps i (byte_or (q ∷ []) i d) ≡ cond (leb start i && ltb i to) (byte_of p i) (byte_or ps i d)
new_byte_by ps p q start to i d o h e f (inl a) =
    ap (byte_or ps i) (byte_or-skip q [] i d (holds-below q i (omega arith))) ∙ sym (within_below start to i (byte_of p i) (byte_or ps i d) a)
new_byte_by ps p q start to i d o h e f (inr (inl a)) =
    byte_or-behind 0 start ps o i (byte_or (q ∷ []) i d) a.0
    ∙ byte_or-here q [] i d (holds-within q i (omega (arith, a.0)) (omega (arith, a.1, ap length f, length-piece p start to h)))
    ∙ ap (λ b. get_or b (i - q.offset) 0) f ∙ ap (λ s. get_or (piece p start to) (i - s) 0) e
    ∙ get_or-piece p start to h i a.0 a.1 ∙ sym (within_yes start to i (byte_of p i) (byte_or ps i d) a.0 a.1)
new_byte_by ps p q start to i d o h e f (inr (inr a)) =
    ap (byte_or ps i) (byte_or-skip q [] i d (holds-behind q i (omega (arith, h.some, ap length f, length-piece p start to h)))) ∙ sym (within_behind start to i (byte_of p i) (byte_or ps i d) a)

-- nothing is open, or one part
opened-cases : (o : Open) → (opened o ≡ []) ⊎ ((p : Part) × (opened o ≡ p ∷ []))
opened-cases Nothing = inl refl
opened-cases (Whole p) = inr (p, refl)
opened-cases (Joined n b) = inr (record { offset = n; bytes = b.items }, refl)

new_order_by : (ds os : List Part) (p q : Part) (start to : ℕ) → AreInOrder 0 (ds ++ os) start → (os ≡ [] → ds ≡ []) → ((r : Part) → os ≡ r ∷ [] → end_of r ≢ start) → IsPiece p start to → q.offset ≡ start → q.bytes ≡ piece p start to
    → (os ≡ []) ⊎ ((r : Part) × (os ≡ r ∷ [])) → AreInOrder 0 ((ds ++ os) ++ q ∷ []) to
new_order_by ds os p q start to o b g h e f (inl n) =
    let none : ds ++ os ≡ [] = ap (λ xs. xs ++ os) (b n) ∙ n in
    let P : List Part → Type 0 = λ xs. AreInOrder 0 (xs ++ q ∷ []) to in
    subst P (sym none) (omega arith, omega (arith, h.some, ap length f, length-piece p start to h), omega (arith, h.some, ap length f, length-piece p start to h), tt)
new_order_by ds os p q start to o b g h e f (inr r) =
    let P : List Part → Type 0 = λ xs. AreInOrder 0 (ds ++ xs) start in
    let was : AreInOrder 0 (ds ++ r.0 ∷ []) start = subst P r.1 o in
    let Q : List Part → Type 0 = λ xs. AreInOrder 0 ((ds ++ xs) ++ q ∷ []) to in
    let tight = in_order-grown 0 start ds r.0 r.0 was refl (omega arith) in
    let before : end_of r.0 < q.offset = omega (arith, g r.0 r.1, last_to 0 start ds r.0 was) in
    let more = in_order-push 0 (end_of r.0) (ds ++ r.0 ∷ []) q tight (omega arith) before (omega (arith, h.some, ap length f, length-piece p start to h)) in
    subst Q (sym r.1) (in_order-wider 0 (end_of q) 0 to ((ds ++ r.0 ∷ []) ++ q ∷ []) (omega arith) (omega (arith, h.some, ap length f, length-piece p start to h)) more)

-- a piece that touches nothing is a part of its own
pub new_order : (ds : List Part) (o : Open) (ns : List Part) (p : Part) (start to : ℕ) → AreInOrder 0 (ds ++ opened o) start → (opened o ≡ [] → ds ≡ []) → ((r : Part) → opened o ≡ r ∷ [] → end_of r ≢ start) → IsPiece p start to
    → (let q : Part = record { offset = start; bytes = piece p start to } in ns ≡ q ∷ []) → AreInOrder 0 ((ds ++ opened o) ++ ns) to
new_order ds o ns p start to k b g h e =
    let q : Part = record { offset = start; bytes = piece p start to } in
    let P : List Part → Type 0 = λ xs. AreInOrder 0 ((ds ++ opened o) ++ xs) to in
    subst P (sym e) (new_order_by ds (opened o) p q start to k b g h refl refl (opened-cases o))

pub new_adds : (ps ns : List Part) (p : Part) (start to : ℕ) → AreInOrder 0 ps start → IsPiece p start to → (let q : Part = record { offset = start; bytes = piece p start to } in ns ≡ q ∷ []) → Adds ps (ps ++ ns) p start to
new_adds ps ns p start to o h e =
    let q : Part = record { offset = start; bytes = piece p start to } in
    record { bytes = λ i d. ap (λ xs. byte_or (ps ++ xs) i d) e ∙ byte_or-append ps (q ∷ []) i d ∙ new_byte_by ps p q start to i d o h refl refl (at start to i) }

-- ---- a part that grows
grown_in : (p q r : Part) (start to i : ℕ) → IsPiece p start to → end_of r ≡ start → q.offset ≡ r.offset → q.bytes ≡ r.bytes ++ piece p start to → start ≤ i → i < to → byte_of q i ≡ byte_of p i
grown_in p q r start to i h t e f a b =
    ap (λ xs. get_or xs (i - q.offset) 0) f ∙ get_or-append_right r.bytes (piece p start to) (length r.bytes) (i - q.offset) 0 refl (omega arith)
    ∙ ap (λ k. get_or (piece p start to) k 0) (omega arith) ∙ get_or-piece p start to h i a b

grown_out : (q r : Part) (more : List ℕ) (i : ℕ) → q.offset ≡ r.offset → q.bytes ≡ r.bytes ++ more → r.offset ≤ i → i < end_of r → byte_of q i ≡ byte_of r i
grown_out q r more i e f a b =
    ap (λ xs. get_or xs (i - q.offset) 0) f ∙ get_or_append_left r.bytes more 0 (i - q.offset) (omega arith) ∙ ap (λ s. get_or r.bytes (i - s) 0) e

grown_length : (p q r : Part) (start to : ℕ) → IsPiece p start to → end_of r ≡ start → q.offset ≡ r.offset → q.bytes ≡ r.bytes ++ piece p start to → end_of q ≡ to
grown_length p q r start to h t e f = omega (arith, h.some, ap length f, length-append r.bytes (piece p start to), length-piece p start to h)

-- the last part alone, before and after
grown_before : (q r : Part) (more : List ℕ) (i d : ℕ) → q.offset ≡ r.offset → q.bytes ≡ r.bytes ++ more → i < end_of r → end_of r ≤ end_of q → (i < r.offset) ⊎ (r.offset ≤ i) → byte_or (q ∷ []) i d ≡ byte_or (r ∷ []) i d
grown_before q r more i d e f b c (inl a) = byte_or-skip q [] i d (holds-below q i (omega arith)) ∙ sym (byte_or-skip r [] i d (holds-below r i a))
grown_before q r more i d e f b c (inr a) =
    byte_or-here q [] i d (holds-within q i (omega arith) (omega arith)) ∙ grown_out q r more i e f a b ∙ sym (byte_or-here r [] i d (holds-within r i a b))

grown_byte : (ds : List Part) (p q r : Part) (start to i d : ℕ) → AreInOrder 0 (ds ++ r ∷ []) start → IsPiece p start to → end_of r ≡ start → q.offset ≡ r.offset → q.bytes ≡ r.bytes ++ piece p start to → At start to i
    → byte_or ds i (byte_or (q ∷ []) i d) ≡ cond (leb start i && ltb i to) (byte_of p i) (byte_or ds i (byte_or (r ∷ []) i d))
grown_byte ds p q r start to i d o h t e f (inl a) =
    ap (byte_or ds i) (grown_before q r (piece p start to) i d e f (omega arith) (omega (arith, h.some, grown_length p q r start to h t e f)) (cases_lt i r.offset))
    ∙ sym (within_below start to i (byte_of p i) (byte_or ds i (byte_or (r ∷ []) i d)) a)
grown_byte ds p q r start to i d o h t e f (inr (inl a)) =
    byte_or-behind 0 (r.offset - 1) ds (in_order-but_last 0 start ds r o) i (byte_or (q ∷ []) i d) (omega (arith, a.0))
    ∙ byte_or-here q [] i d (holds-within q i (omega (arith, a.0)) (omega (arith, a.1, grown_length p q r start to h t e f)))
    ∙ grown_in p q r start to i h t e f a.0 a.1 ∙ sym (within_yes start to i (byte_of p i) (byte_or ds i (byte_or (r ∷ []) i d)) a.0 a.1)
grown_byte ds p q r start to i d o h t e f (inr (inr a)) =
    ap (byte_or ds i) (byte_or-skip q [] i d (holds-behind q i (omega (arith, grown_length p q r start to h t e f))) ∙ sym (byte_or-skip r [] i d (holds-behind r i (omega (arith, h.some)))))
    ∙ sym (within_behind start to i (byte_of p i) (byte_or ds i (byte_or (r ∷ []) i d)) a)

abbrev pub grown : Part → List ℕ → Part
grown r more = record { offset = r.offset; bytes = r.bytes ++ more }

-- a piece that touches the last part makes it longer
pub grown_order : (ds os ns : List Part) (p r : Part) (start to : ℕ) → AreInOrder 0 (ds ++ os) start → IsPiece p start to → os ≡ r ∷ [] → end_of r ≡ start → ns ≡ grown r (piece p start to) ∷ [] → AreInOrder 0 (ds ++ ns) to
grown_order ds os ns p r start to o h e t f =
    let q = grown r (piece p start to) in
    let P : List Part → Type 0 = λ xs. AreInOrder 0 (ds ++ xs) start in
    let Q : List Part → Type 0 = λ xs. AreInOrder 0 (ds ++ xs) to in
    let long = in_order-grown 0 start ds r q (subst P e o) refl (omega (arith, length-append r.bytes (piece p start to))) in
    subst Q (sym f) (in_order-wider 0 (end_of q) 0 to (ds ++ q ∷ []) (omega arith) (omega (arith, grown_length p q r start to h t refl refl)) long)

pub grown_adds : (ds os ns : List Part) (p r : Part) (start to : ℕ) → AreInOrder 0 (ds ++ os) start → IsPiece p start to → os ≡ r ∷ [] → end_of r ≡ start → ns ≡ grown r (piece p start to) ∷ [] → Adds (ds ++ os) (ds ++ ns) p start to
grown_adds ds os ns p r start to o h e t f =
    let q = grown r (piece p start to) in
    let P : List Part → Type 0 = λ xs. AreInOrder 0 (ds ++ xs) start in
    record {
      bytes = λ i d.
          ap (λ xs. byte_or (ds ++ xs) i d) f ∙ byte_or-append ds (q ∷ []) i d
          ∙ grown_byte ds p q r start to i d (subst P e o) h t refl refl (at start to i)
          ∙ ap (cond (leb start i && ltb i to) (byte_of p i)) (sym (ap (λ xs. byte_or (ds ++ xs) i d) e ∙ byte_or-append ds (r ∷ []) i d));
    }

-- the open part ends where the laid ones end
pub open_to : (ds os : List Part) (p : Part) (start : ℕ) → AreInOrder 0 (ds ++ os) start → os ≡ p ∷ [] → end_of p ≤ start
open_to ds os p start o e = let P : List Part → Type 0 = λ xs. AreInOrder 0 (ds ++ xs) start in last_to 0 start ds p (subst P e o)

pub laid-wider : (l : Laying) (from to : ℕ) → from ≤ to → IsLaid l from → IsLaid l to
laid-wider l from to le h = record { parts = in_order-wider 0 from 0 to (laid l) (omega arith) le h.parts; begun = h.begun }
