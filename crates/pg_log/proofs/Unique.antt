-- A file opens to one list of entries.
use Rattle.std.proofs.Common.{◌≡◌, inl, inr, ℕ, ◌+◌, ◌<◌, ◌≤◌, List, [], ◌∷◌, ◌++◌, length, take, drop, get_or, refl, sym, ◌∙◌, ap, subst, arith, append_assoc, take-append-drop, w32}
use Rattle.std.proofs.lemmas.Bool.{cases_lt}
use Rattle.std.proofs.lemmas.List.{take_at, drop_at, append_cancel_left, take-take}
use Rattle.std.proofs.lemmas.Nat.{from_be_bytes-to_be_bytes_4}
use Rattle.std.specs.Int.{to_be_bytes, from_be_bytes}
use Rattle.pg_log.specs.Bytes.{start, blocks, IsTail, IsLog, OpensTo, IsLogStart, IsBadAt}

-- the gate and the length in front of an entry
abbrev pub head_of : List ℕ → List ℕ
head_of entry = 1 ∷ to_be_bytes w32 (length entry)

pub same_number : (m n : ℕ) → m ≤ 65536 → n ≤ 65536 → to_be_bytes w32 m ≡ to_be_bytes w32 n → m ≡ n
same_number m n small_m small_n same =
    sym (from_be_bytes-to_be_bytes_4 m (omega arith)) ∙ ap (from_be_bytes w32) same ∙ from_be_bytes-to_be_bytes_4 n (omega arith)

-- what a tail with one entry in front is
pub record Peeled (entry tail : List ℕ) (entries : List (List ℕ)) : Type 0 where
  pub others : List (List ℕ)
  pub are : entries ≡ entry ∷ others
  pub is_tail : IsTail tail others

-- the entry that stands there is the first
pub peeled : (entry tail : List ℕ) (entries : List (List ℕ)) → length entry ≤ 65536 → IsTail (head_of entry ++ entry ++ tail) entries → Peeled entry tail entries
peeled entry tail [] fits is = absurd (is.closed (sym (ap (λ (l : List ℕ). get_or l 0 0) is.spelled)))
peeled entry tail (first ∷ others) fits is =
    let end : List ℕ = is.gate ∷ is.rest in
    let all : head_of entry ++ (entry ++ tail) ≡ head_of first ++ (first ++ (blocks others ++ end)) =
    sym (append_assoc (head_of entry) entry tail) ∙ is.spelled
    ∙ append_assoc (head_of first ++ first) (blocks others) end ∙ append_assoc (head_of first) first (blocks others ++ end) in
    let heads : head_of entry ≡ head_of first =
    sym (take_at (head_of entry) (entry ++ tail) 5 refl) ∙ ap (take 5) all ∙ take_at (head_of first) (first ++ (blocks others ++ end)) 5 refl in
    let lengths : length entry ≡ length first = same_number (length entry) (length first) fits is.fit.0 (ap (drop 1) heads) in
    let behind : entry ++ tail ≡ first ++ (blocks others ++ end) =
    sym (drop_at (head_of entry) (entry ++ tail) 5 refl) ∙ ap (drop 5) all ∙ drop_at (head_of first) (first ++ (blocks others ++ end)) 5 refl in
    let same : entry ≡ first =
    sym (take_at entry tail (length entry) refl) ∙ ap (take (length entry)) behind ∙ take_at first (blocks others ++ end) (length entry) (sym lengths) in
    let tails : tail ≡ blocks others ++ end =
    sym (drop_at entry tail (length entry) refl) ∙ ap (drop (length entry)) behind ∙ drop_at first (blocks others ++ end) (length entry) (sym lengths) in
    record {
      others = others;
      are = ap (λ (e : List ℕ). e ∷ others) (sym same);
      is_tail = record { gate = is.gate; rest = is.rest; spelled = tails; closed = is.closed; fit = is.fit.1 };
    }

pub one_tail : (a b : List (List ℕ)) (bytes : List ℕ) → IsTail bytes a → IsTail bytes b → a ≡ b
one_tail [] [] bytes is other = refl
one_tail [] (entry ∷ b) bytes is other = absurd (is.closed (ap (λ (l : List ℕ). get_or l 0 0) (sym is.spelled ∙ other.spelled)))
one_tail (entry ∷ a) b bytes is other =
    let tail : List ℕ = blocks a ++ is.gate ∷ is.rest in
    let spelled : bytes ≡ head_of entry ++ entry ++ tail = is.spelled ∙ append_assoc (head_of entry ++ entry) (blocks a) (is.gate ∷ is.rest) in
    let rest = peeled entry tail b is.fit.0 (subst (λ (l : List ℕ). IsTail l b) spelled other) in
    let same : a ≡ rest.others = one_tail a rest.others tail (record { gate = is.gate; rest = is.rest; spelled = refl; closed = is.closed; fit = is.fit.1 }) rest.is_tail in
    ap (λ (es : List (List ℕ)). entry ∷ es) same ∙ sym rest.are

pub one_log : (file : List ℕ) (a b : List (List ℕ)) → IsLog file a → IsLog file b → a ≡ b
one_log file a b is other =
    let tails : is.tail ≡ other.tail = append_cancel_left start is.tail other.tail (sym is.spelled ∙ other.spelled) in
    one_tail a b is.tail is.is_tail (subst (λ (l : List ℕ). IsTail l b) (sym tails) other.is_tail)

pub opens_once : (file : List ℕ) (a b : List (List ℕ)) → OpensTo file a → OpensTo file b → a ≡ b
opens_once file a b (inl short) (inl other) = short.1 ∙ sym other.1
opens_once file a b (inl short) (inr other) = let s = short.0 in let o = other.0 in absurd (omega arith)
opens_once file a b (inr long) (inl other) = let s = long.0 in let o = other.0 in absurd (omega arith)
opens_once file a b (inr long) (inr other) = one_log file a b long.1 other.1

-- ---- and a file that does not open is bad at one place

start_shorter : (bytes : List ℕ) (k : ℕ) → IsLogStart bytes → IsLogStart (take k bytes)
start_shorter bytes k begins = (
  drop k bytes ++ begins.0,
  begins.1,
  subst (λ (l : List ℕ). IsLog l begins.1) (ap (λ (l : List ℕ). l ++ begins.0) (sym (take-append-drop k bytes)) ∙ append_assoc (take k bytes) (drop k bytes) begins.0) begins.2,
)

no_earlier : (file : List ℕ) (a b : ℕ) → IsBadAt file a → IsBadAt file b → a < b → ⊥
no_earlier file a b bad other before =
    bad.byte (omega (arith, before, other.within))
    (subst IsLogStart (take-take (a + 1) b file (omega (arith, before))) (start_shorter (take b file) (a + 1) other.before))

pub one_place : (file : List ℕ) (a b : ℕ) → IsBadAt file a → IsBadAt file b → a ≡ b
one_place file a b bad other = elim (cases_lt a b) [
  | inl before ↦ absurd (no_earlier file a b bad other before)
  | inr behind ↦ elim (cases_lt b a) [
    | inl before ↦ absurd (no_earlier file b a other bad before)
    | inr same ↦ omega arith
  ]
]

pub never_both : (file : List ℕ) (entries : List (List ℕ)) (place : ℕ) → OpensTo file entries → IsBadAt file place → ⊥
never_both file entries place (inl short) bad = let s = short.0 in omega (arith, bad.long)
never_both file entries place (inr long) bad = bad.no_log entries long.1
