-- Blocks, one behind the other.
use Rattle.std.proofs.Common.{ℕ, ◌≡◌, ◌+◌, ◌-◌, ◌<◌, ◌≤◌, ◌∙◌, List, [], ◌∷◌, ◌++◌, length, take, drop, set, get_or, refl, sym, ap, subst, zero, suc, append_assoc, arith}
use Rattle.std.specs.Prelude.{Option}
use Rattle.std.specs.List.{remove, slice_get}
use Rattle.std.proofs.lemmas.List.{get_or_default}
use Rattle.std.proofs.lemmas.List.Edits.{remove-append_left, remove-append_right}
use Rattle.pg_bag.specs.Blocks.{joined, without, IsAt}

-- an item of the second of two lists, and one of the first
get_behind : {A : Type 0} (xs ys : List A) (k : ℕ) → slice_get (xs ++ ys) (length xs + k) ≡ slice_get ys k
get_behind [] ys k = let e : 0 + k ≡ k = omega arith in ap (slice_get ys) e
get_behind (x ∷ xs) ys k =
    let e : suc (length xs) + k ≡ suc (length xs + k) = omega arith in
    ap (slice_get (x ∷ (xs ++ ys))) e ∙ get_behind xs ys k

get_before : {A : Type 0} (xs ys : List A) (k : ℕ) → k < length xs → slice_get (xs ++ ys) k ≡ slice_get xs k
get_before [] ys k lt = absurd (omega arith)
get_before (x ∷ xs) ys zero lt = refl
get_before (x ∷ xs) ys (suc k) lt = get_before xs ys k (omega arith)

-- a block, with what stands before and behind it
joined_at : {A : Type 0} (bs : List (List A)) (k : ℕ) → k < length bs
    → joined bs ≡ joined (take k bs) ++ (get_or bs k [] ++ joined (drop (suc k) bs))
joined_at [] k lt = absurd (omega arith)
joined_at (b ∷ bs) zero lt = refl
joined_at (b ∷ bs) (suc k) lt =
    ap (λ xs. b ++ xs) (joined_at bs k (omega arith))
    ∙ sym (append_assoc b (joined (take k bs)) (get_or bs k [] ++ joined (drop (suc k) bs)))

-- another block in its place
joined_set : {A : Type 0} (bs : List (List A)) (k : ℕ) (c : List A) → k < length bs
    → joined (set bs k c) ≡ joined (take k bs) ++ (c ++ joined (drop (suc k) bs))
joined_set [] k c lt = absurd (omega arith)
joined_set (b ∷ bs) zero c lt = refl
joined_set (b ∷ bs) (suc k) c lt =
    ap (λ xs. b ++ xs) (joined_set bs k c (omega arith))
    ∙ sym (append_assoc b (joined (take k bs)) (c ++ joined (drop (suc k) bs)))

-- a block without items may go
joined_remove : {A : Type 0} (bs : List (List A)) (k : ℕ) → k < length bs → get_or bs k [] ≡ []
    → joined (remove bs k) ≡ joined bs
joined_remove [] k lt e = absurd (omega arith)
joined_remove {A = A} (b ∷ bs) zero lt e = ap (λ (c : List A). c ++ joined bs) (sym e)
joined_remove (b ∷ bs) (suc k) lt e = ap (λ xs. b ++ xs) (joined_remove bs k (omega arith) e)

-- ---- an item by its index

get_at : {A : Type 0} (bs : List (List A)) (index k offset : ℕ) → IsAt bs index k offset
    → slice_get (get_or bs k []) offset ≡ slice_get (joined bs) index
get_at bs index k offset at =
    let front = joined (take k bs) in
    let back = joined (drop (suc k) bs) in
    sym (
    ap (slice_get (joined bs)) (sym at.same)
    ∙ ap (λ xs. slice_get xs (length front + offset)) (joined_at bs k at.there)
    ∙ get_behind front (get_or bs k [] ++ back) offset
    ∙ get_before (get_or bs k []) back offset at.within)

pub without_at : {A : Type 0} (bs : List (List A)) (index k offset : ℕ) → IsAt bs index k offset
    → without bs k offset ≡ remove (joined bs) index
without_at bs index k offset at =
    let front = joined (take k bs) in
    let back = joined (drop (suc k) bs) in
    let block = get_or bs k [] in
    let from : length front ≤ length front + offset = omega arith in
    let left : (length front + offset) - length front ≡ offset = omega arith in
    sym (
    ap (remove (joined bs)) (sym at.same)
    ∙ ap (λ xs. remove xs (length front + offset)) (joined_at bs k at.there)
    ∙ remove-append_right front (block ++ back) (length front) (length front + offset) refl from
    ∙ ap (λ i. front ++ remove (block ++ back) i) left
    ∙ ap (λ xs. front ++ xs) (remove-append_left block back offset at.within))

-- ---- blocks that change

empty : {A : Type 0} (xs : List A) → length xs ≡ 0 → xs ≡ []
empty [] e = refl
empty (x ∷ xs) e = absurd (omega arith)

-- the block without the item
pub without_set : {A : Type 0} (bs : List (List A)) (k offset : ℕ) (c : List A) → k < length bs
    → c ≡ remove (get_or bs k []) offset → joined (set bs k c) ≡ without bs k offset
without_set bs k offset c lt e =
    joined_set bs k c lt ∙ ap (λ xs. joined (take k bs) ++ (xs ++ joined (drop (suc k) bs))) e

get_set : {A : Type 0} (bs : List (List A)) (k : ℕ) (c : List A) → k < length bs → get_or (set bs k c) k [] ≡ c
get_set [] k c lt = absurd (omega arith)
get_set (b ∷ bs) zero c lt = refl
get_set (b ∷ bs) (suc k) c lt = get_set bs k c (omega arith)

length_set : {A : Type 0} (bs : List (List A)) (k : ℕ) (c : List A) → length (set bs k c) ≡ length bs
length_set [] k c = refl
length_set (b ∷ bs) zero c = refl
length_set (b ∷ bs) (suc k) c = ap suc (length_set bs k c)

-- and without the block, where the item was its last
pub without_block : {A : Type 0} (bs : List (List A)) (k offset : ℕ) (c : List A) → k < length bs
    → c ≡ remove (get_or bs k []) offset → length c ≡ 0 → joined (remove (set bs k c) k) ≡ without bs k offset
without_block bs k offset c lt e none =
    let there : k < length (set bs k c) = omega (arith, length_set bs k c) in
    joined_remove (set bs k c) k there (get_set bs k c lt ∙ empty c none) ∙ without_set bs k offset c lt e

append_none : {A : Type 0} (xs : List A) → xs ++ [] ≡ xs
append_none [] = refl
append_none (x ∷ xs) = ap (λ ys. x ∷ ys) (append_none xs)

-- an item more in the last block
joined_push : {A : Type 0} (bs : List (List A)) (k : ℕ) (x : A) → k + 1 ≡ length bs
    → joined (set bs k (get_or bs k [] ++ x ∷ [])) ≡ joined bs ++ x ∷ []
joined_push [] k x e = absurd (omega arith)
joined_push (b ∷ []) zero x e =
    append_assoc b (x ∷ []) [] ∙ ap (λ ys. ys ++ x ∷ []) (sym (append_none b))
joined_push (b ∷ c ∷ bs) zero x e = absurd (omega arith)
joined_push (b ∷ bs) (suc k) x e =
    ap (λ xs. b ++ xs) (joined_push bs k x (omega arith)) ∙ sym (append_assoc b (joined bs) (x ∷ []))

-- ---- what the code has: a block b that was read, a slice of all blocks

pub read_at : {A : Type 0} (bs : List (List A)) (k : ℕ) (b : List A) → k < length bs → b ≡ get_or bs k b → b ≡ get_or bs k []
read_at bs k b lt e = e ∙ get_or_default bs k b [] lt

pub at_blocks : {A : Type 0} (slice bs : List (List A)) (index k offset : ℕ) → slice ≡ bs → IsAt slice index k offset → IsAt bs index k offset
at_blocks {A = A} slice bs index k offset same at = let P : List (List A) → Type 0 = (λ xs. IsAt xs index k offset) in subst P same at

-- the item that was read
pub item_at : {A : Type 0} (bs : List (List A)) (all : List A) (o : Option A) (index k offset : ℕ)
    → joined bs ≡ all → IsAt bs index k offset → o ≡ slice_get (get_or bs k []) offset → o ≡ slice_get all index
item_at bs all o index k offset view at got =
    got ∙ get_at bs index k offset at ∙ ap (λ xs. slice_get xs index) view

-- a block after the item left it
pub rest_at : {A : Type 0} (bs : List (List A)) (k offset : ℕ) (b c : List A) → k < length bs → offset < length (get_or bs k [])
    → b ≡ get_or bs k b → (offset < length b → c ≡ remove b offset) → c ≡ remove (get_or bs k []) offset
rest_at bs k offset b c lt within read rest =
    let same = read_at bs k b lt read in
    rest (omega (arith, ap length same)) ∙ ap (λ xs. remove xs offset) same

-- an item more in the block that was read
pub push_at : {A : Type 0} (bs : List (List A)) (k : ℕ) (x : A) (b c all : List A) → k + 1 ≡ length bs → joined bs ≡ all
    → b ≡ get_or bs k b → c ≡ b ++ x ∷ [] → joined (set bs k c) ≡ all ++ x ∷ []
push_at bs k x b c all last same read pushed =
    let lt : k < length bs = omega arith in
    ap (λ d. joined (set bs k d)) (pushed ∙ ap (λ d. d ++ x ∷ []) (read_at bs k b lt read))
    ∙ joined_push bs k x last ∙ ap (λ xs. xs ++ x ∷ []) same
