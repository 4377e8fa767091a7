-- Bytes of a file that are read in pieces.
use Rattle.std.proofs.Common.{◌≡◌, ℕ, ◌+◌, ◌≤◌, List, ◌++◌, length, take, drop, sym, ◌∙◌, ap, arith, length-append, length-drop}
use Rattle.std.proofs.Math.Seq.{take-add}
use Rattle.std.proofs.lemmas.List.{take_all, take-take, drop-drop, length-take}
use Rattle.pg_disk.specs.Told.{IsRead}

-- the bytes read so far are the first of the list
abbrev pub IsFirst : List ℕ → List ℕ → Type 0
IsFirst bytes list = take (length bytes) list ≡ bytes

-- some of a piece that was read behind them
pub read_more : (file bytes new piece : List ℕ) (at place n k : ℕ) → place ≡ at + length bytes → k ≤ n → n ≤ length piece → IsFirst bytes (drop at file) → IsRead file place n piece
    → new ≡ bytes ++ take k piece → IsFirst new (drop at file)
read_more file bytes new piece at place n k place_is some fits so_far read is =
    let size : length new ≡ length bytes + k = omega (arith, ap length is, length-append bytes (take k piece), length-take k piece) in
    let behind : drop (length bytes) (drop at file) ≡ drop place file = drop-drop (length bytes) at file ∙ ap (λ (p : ℕ). drop p file) (sym place_is) in
    let rest : take k (drop (length bytes) (drop at file)) ≡ take k piece =
    ap (take k) behind ∙ sym (take-take k n (drop place file) some) ∙ ap (take k) (sym read.bytes) ∙ take-take k n piece some in
    ap (λ (m : ℕ). take m (drop at file)) size ∙ take-add (length bytes) k (drop at file) ∙ (λ i. so_far i ++ rest i) ∙ sym is

-- no more bytes are wanted
pub read_enough : (list bytes : List ℕ) (most : ℕ) → IsFirst bytes list → length bytes ≡ most → bytes ≡ take most list
read_enough list bytes most so_far size = sym so_far ∙ ap (λ (m : ℕ). take m list) size

-- there are no more bytes
pub read_all : (file bytes : List ℕ) (at place most : ℕ) → place ≡ at + length bytes → length bytes ≤ most → IsFirst bytes (drop at file) → length file ≤ place → bytes ≡ take most (drop at file)
read_all file bytes at place most place_is within so_far end =
    let size = length-drop at file in
    sym so_far ∙ take_all (length bytes) (drop at file) (omega (arith, place_is, end, size)) ∙ sym (take_all most (drop at file) (omega (arith, place_is, end, size, within)))

pub size_more : (bytes new piece : List ℕ) (n k : ℕ) → new ≡ bytes ++ take k piece → k ≤ n → n ≤ length piece → length new ≡ length bytes + k
size_more bytes new piece n k is some fits = omega (arith, ap length is, length-append bytes (take k piece), length-take k piece)
