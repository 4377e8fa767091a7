-- The bytes of logs.
use Rattle.std.proofs.Common.{◌≡◌, ◌≢◌, inl, inr, ℕ, ◌+◌, ◌-◌, ◌≤◌, List, [], ◌∷◌, ◌++◌, length, take, drop, replicate, refl, sym, ◌∙◌, ap, arith, append_assoc, length-append, w32}
use Rattle.std.proofs.lemmas.Bool.{cases_lt}
use Rattle.std.proofs.lemmas.List.{append-nil, take_all, drop_all, take_at, drop_at}
use Rattle.std.specs.Int.{to_be_bytes}
use Rattle.pg_disk.specs.Disk.{written}
use Rattle.pg_log.specs.Bytes.{start, blocks, AllFit, front, IsLog, OpensTo}

-- an entry behind its gate, and a closed gate behind it
abbrev pub block_of : List ℕ → List ℕ
block_of entry = to_be_bytes w32 (length entry) ++ entry ++ 0 ∷ []

pub blocks-push : (entries : List (List ℕ)) (entry rest : List ℕ) → blocks (entries ++ entry ∷ []) ++ rest ≡ blocks entries ++ ((1 ∷ to_be_bytes w32 (length entry)) ++ entry ++ rest)
blocks-push [] entry rest = ap (λ (l : List ℕ). l ++ rest) (append-nil ((1 ∷ to_be_bytes w32 (length entry)) ++ entry))
blocks-push (first ∷ entries) entry rest =
    let head : List ℕ = (1 ∷ to_be_bytes w32 (length first)) ++ first in
    append_assoc head (blocks (entries ++ entry ∷ [])) rest
    ∙ ap (λ (l : List ℕ). head ++ l) (blocks-push entries entry rest)
    ∙ sym (append_assoc head (blocks entries) ((1 ∷ to_be_bytes w32 (length entry)) ++ entry ++ rest))

pub AllFit-push : (entries : List (List ℕ)) (entry : List ℕ) → AllFit entries → length entry ≤ 65536 → AllFit (entries ++ entry ∷ [])
AllFit-push [] entry fit fits = (fits, tt)
AllFit-push (first ∷ entries) entry fit fits = (fit.0, AllFit-push entries entry fit.1 fits)

pub front-push : (entries : List (List ℕ)) (entry rest : List ℕ) → front (entries ++ entry ∷ []) ++ rest ≡ front entries ++ ((1 ∷ to_be_bytes w32 (length entry)) ++ entry ++ rest)
front-push entries entry rest =
    append_assoc start (blocks (entries ++ entry ∷ [])) rest
    ∙ ap (λ (l : List ℕ). start ++ l) (blocks-push entries entry rest)
    ∙ sym (append_assoc start (blocks entries) ((1 ∷ to_be_bytes w32 (length entry)) ++ entry ++ rest))

-- a closed gate ends a log, whatever stands behind it
pub closed_log : (entries : List (List ℕ)) (gate : ℕ) (rest : List ℕ) → gate ≢ 1 → AllFit entries → IsLog (front entries ++ gate ∷ rest) entries
closed_log entries gate rest closed fit = record {
  tail = blocks entries ++ gate ∷ rest;
  spelled = append_assoc start (blocks entries) (gate ∷ rest);
  is_tail = record { gate = gate; rest = rest; spelled = refl; closed = closed; fit = fit };
}

none_in : (entries : List (List ℕ)) (gate : ℕ) (rest : List ℕ) → length (blocks entries ++ gate ∷ rest) ≤ 1 → entries ≡ []
none_in [] gate rest short = refl
none_in (entry ∷ entries) gate rest short = absurd (omega (
  arith,
  length-append (((1 ∷ to_be_bytes w32 (length entry)) ++ entry) ++ blocks entries) (gate ∷ rest),
  length-append ((1 ∷ to_be_bytes w32 (length entry)) ++ entry) (blocks entries),
  length-append (1 ∷ to_be_bytes w32 (length entry)) entry,
))

pub log_opens : (file : List ℕ) (entries : List (List ℕ)) → IsLog file entries → OpensTo file entries
log_opens file entries log = elim (cases_lt 17 (length file)) [
  | inl long ↦ inr (long, log)
  | inr short ↦ inl (short, none_in entries log.is_tail.gate log.is_tail.rest (omega (arith, ap length log.spelled, length-append start log.tail, ap length log.is_tail.spelled)))
]

pub closed_opens : (entries : List (List ℕ)) (gate : ℕ) (rest : List ℕ) → gate ≢ 1 → AllFit entries → OpensTo (front entries ++ gate ∷ rest) entries
closed_opens entries gate rest closed fit = log_opens (front entries ++ gate ∷ rest) entries (closed_log entries gate rest closed fit)

-- bytes written at the end, and one in the middle
pub written_end : (file bytes : List ℕ) (at : ℕ) → at ≡ length file → written at bytes file ≡ file ++ bytes
written_end file [] at is = sym (append-nil file)
written_end file (byte ∷ bytes) at is =
    let n : ℕ = length (byte ∷ bytes) in
    let no_gap : at - length file ≡ 0 = omega arith in
    let whole : take at file ≡ file = take_all at file (omega arith) in
    let none : drop (at + n) file ≡ [] = drop_all (at + n) file (omega arith) in
    (λ i. whole i ++ replicate (no_gap i) 0 ++ (byte ∷ bytes) ++ none i) ∙ append-nil ((file ++ []) ++ (byte ∷ bytes)) ∙ ap (λ (l : List ℕ). l ++ (byte ∷ bytes)) (append-nil file)

pub written_one : (before behind : List ℕ) (at was byte : ℕ) → at ≡ length before → written at (byte ∷ []) (before ++ was ∷ behind) ≡ before ++ byte ∷ behind
written_one before behind at was byte is =
    let file : List ℕ = before ++ was ∷ behind in
    let no_gap : at - length file ≡ 0 = omega (arith, length-append before (was ∷ behind)) in
    let first : take at file ≡ before = take_at before (was ∷ behind) at (sym is) in
    let rest : drop (at + 1) file ≡ behind = ap (drop (at + 1)) (sym (append_assoc before (was ∷ []) behind)) ∙ drop_at (before ++ was ∷ []) behind (at + 1) (omega (arith, length-append before (was ∷ []))) in
    (λ i. first i ++ replicate (no_gap i) 0 ++ (byte ∷ []) ++ rest i) ∙ ap (λ (l : List ℕ). l ++ (byte ∷ []) ++ behind) (append-nil before) ∙ append_assoc before (byte ∷ []) behind
