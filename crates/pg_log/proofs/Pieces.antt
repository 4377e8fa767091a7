-- A file that is read in pieces.
use Rattle.std.proofs.Common.{◌≡◌, ℕ, ◌+◌, ◌≤◌, List, ◌++◌, length, take, drop, sym, ◌∙◌, ap, subst, arith, length-append}
use Rattle.std.proofs.Math.Seq.{take-add}
use Rattle.std.proofs.lemmas.List.{take_all, length-take}
use Rattle.pg_disk.specs.Told.{IsRead}

-- the bytes read so far are the first of the file
abbrev pub IsFirst : List ℕ → List ℕ → Type 0
IsFirst bytes file = take (length bytes) file ≡ bytes

pub read_more : (file bytes piece : List ℕ) (n : ℕ) → n ≤ length piece → IsFirst bytes file → IsRead file (length bytes) n piece → IsFirst (bytes ++ take n piece) file
read_more file bytes piece n fits so_far read =
    let size : length (bytes ++ take n piece) ≡ length bytes + n = omega (arith, length-append bytes (take n piece), length-take n piece) in
    let rest : take n (drop (length bytes) file) ≡ take n piece = sym read.bytes in
    ap (λ (k : ℕ). take k file) size ∙ take-add (length bytes) n file ∙ (λ i. so_far i ++ rest i)

pub read_all : (file bytes : List ℕ) → IsFirst bytes file → length file ≤ length bytes → bytes ≡ file
read_all file bytes so_far end = sym so_far ∙ take_all (length bytes) file end

-- the same of a list that is equal to these, read at a count that is equal to theirs
pub read_piece : (file bytes new piece : List ℕ) (at n : ℕ) → at ≡ length bytes → n ≤ length piece → IsFirst bytes file → IsRead file at n piece → new ≡ bytes ++ take n piece → IsFirst new file
read_piece file bytes new piece at n at_is fits so_far read is =
    subst (λ (l : List ℕ). IsFirst l file) (sym is) (read_more file bytes piece n fits so_far (subst (λ (k : ℕ). IsRead file k n piece) at_is read))
