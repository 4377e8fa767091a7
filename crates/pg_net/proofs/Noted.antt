-- What a clock notes, and how many takes were counted: of one call behind others, and of a clock in
-- memory.
use Rattle.std.proofs.Common.{◌≡◌, ℕ, zero, suc, ◌+◌, ◌-◌, ◌^◌, ◌≤◌, ◌<◌, min, List, [], ◌∷◌, ◌++◌, length, take, refl, sym, ◌∙◌, ap, subst, append_assoc, arith, length-append}
use Rattle.std.proofs.lemmas.List.{append-nil, take_all, length-take}
use Rattle.pg_net.specs.Clock.{Numbers, AreNoted, first, item_at, moved}
use Rattle.pg_net.specs.Net.{IsTaken}

take_over : (n : ℕ) (xs ys : List ℕ) → take n (xs ++ ys) ≡ take n xs ++ take (n - length xs) ys
take_over zero xs ys = let none : 0 ≡ 0 - length xs = omega arith in ap (λ (k : ℕ). take k ys) none
take_over (suc n) [] ys = let all : suc n ≡ suc n - 0 = omega arith in ap (λ (k : ℕ). take k ys) all
take_over (suc n) (x ∷ xs) ys =
    let fewer : n - length xs ≡ suc n - length (x ∷ xs) = omega arith in
    ap (λ (l : List ℕ). x ∷ l) (take_over n xs ys) ∙ ap (λ (k : ℕ). x ∷ (take n xs ++ take k ys)) fewer

-- none were given
pub noted-none : (old : List ℕ) → AreNoted old old []
noted-none old = sym (append-nil old) ∙ ap (λ (l : List ℕ). old ++ l) (sym (take_all (2 ^ 64 - 1 - length old) [] (omega arith)))

-- some were given, and then others
pub noted-append : (a b d xs ys : List ℕ) → AreNoted a b xs → AreNoted b d ys → AreNoted a d (xs ++ ys)
noted-append a b d xs ys one more =
    let room : ℕ = 2 ^ 64 - 1 - length a in
    let size : length b ≡ length a + min room (length xs) = ap length one ∙ length-append a (take room xs) ∙ ap (λ (n : ℕ). length a + n) (length-take room xs) in
    let rest : 2 ^ 64 - 1 - length b ≡ room - length xs = omega (arith, size) in
    more
    ∙ ap (λ (n : ℕ). b ++ take n ys) rest
    ∙ ap (λ (l : List ℕ). l ++ take (room - length xs) ys) one
    ∙ append_assoc a (take room xs) (take (room - length xs) ys)
    ∙ ap (λ (l : List ℕ). a ++ l) (sym (take_over room xs ys))

-- all of them stand there, where the list has room
pub noted-all : (old new numbers : List ℕ) → AreNoted old new numbers → length old + length numbers ≤ 2 ^ 64 - 1 → new ≡ old ++ numbers
noted-all old new numbers noted fits = noted ∙ ap (λ (l : List ℕ). old ++ l) (take_all (2 ^ 64 - 1 - length old) numbers (omega (arith, fits)))

-- no take, and some takes and then others
pub taken-none : (old : ℕ) → IsTaken 0 old old
taken-none old = omega arith

pub taken-add : (m n a b d : ℕ) → IsTaken m a b → IsTaken n b d → IsTaken (m + n) a d
taken-add m n a b d one more = omega (arith, one, more)

-- of a count that is one of a u64
pub taken-one : (old new : ℕ) → old < 2 ^ 64 → new ≡ min (old + 1) (2 ^ 64 - 1) → IsTaken 1 old new
taken-one old new bound is = omega (arith, bound, is)

length-first : (items : List ℕ) (n : ℕ) → length (first items n) ≡ n
length-first items zero = refl
length-first items (suc n) = let so_far = length-first items n in omega (arith, length-append (first items n) (item_at items n ∷ []))

-- one number more of a list that has room for so many
one_noted : (items : List ℕ) (n room : ℕ) → n + room ≡ 2 ^ 64 - 1 → first items (min (n + 1) (2 ^ 64 - 1)) ≡ first items n ++ take room (item_at items n ∷ [])
one_noted items n zero is =
    let same : min (n + 1) (2 ^ 64 - 1) ≡ n = omega (arith, is) in
    ap (first items) same ∙ sym (append-nil (first items n))
one_noted items n (suc room) is =
    let more : min (n + 1) (2 ^ 64 - 1) ≡ suc n = omega (arith, is) in
    ap (first items) more ∙ ap (λ (l : List ℕ). first items n ++ l) (sym (take_all (suc room) (item_at items n ∷ []) (omega arith)))

noted : (items : List ℕ) (n : ℕ) → n ≤ 2 ^ 64 - 1 → AreNoted (first items n) (first items (min (n + 1) (2 ^ 64 - 1))) (item_at items n ∷ [])
noted items n bound =
    let room : ℕ = 2 ^ 64 - 1 - length (first items n) in
    one_noted items n room (omega (arith, bound, length-first items n))

-- the same of a queue of numbers before a call and behind it
pub noted_from : (old new : Numbers) (result : ℕ) → old.made < 2 ^ 64 → result ≡ item_at old.items old.made → new ≡ moved old
    → AreNoted (first old.items old.made) (first new.items new.made) (result ∷ [])
noted_from old new result bound gives is =
    subst (λ (n : Numbers). AreNoted (first old.items old.made) (first n.items n.made) (result ∷ [])) (sym is)
    (subst (λ (r : ℕ). AreNoted (first old.items old.made) (first old.items (min (old.made + 1) (2 ^ 64 - 1))) (r ∷ [])) (sym gives) (noted old.items old.made (omega (arith, bound))))
