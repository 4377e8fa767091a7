-- What is said of the text that was read is said of the input.
use Rattle.std.proofs.Common.{◌≡◌, ◌≤◌, ◌++◌, ℕ, List, [], ◌∷◌, Option, Some, IfSome, length, arith, sym, subst, ◌∙◌}
use Rattle.std.proofs.lemmas.List.{length-append}
use Rattle.pg_trace.specs.JournalLine.{journal_spelling, printed_body, printed_text}
use Rattle.pg_trace.specs.declared.journal_line.JournalLine.{JournalLine}

-- what was read of a known input is the input
pub whole_is : (left : Option (List ℕ)) (read all : List ℕ) → left ≡ Some all
    → IfSome left (λ bytes. read ≡ bytes) → read ≡ all
whole_is left read all e h =
    let P : Option (List ℕ) → Type 0 = (λ o. IfSome o (λ bytes. read ≡ bytes)) in subst P e h

pub of_all : (left : Option (List ℕ)) (read seen all : List ℕ) (P : List ℕ → Type 0) → left ≡ Some all
    → IfSome left (λ bytes. read ≡ bytes) → seen ≡ read → P all → P seen
of_all left read seen all P e h same p = subst P (sym (same ∙ whole_is left read all e h)) p

-- each line has a byte at least
pub lines_few : (j : List JournalLine) → length j ≤ length (journal_spelling j)
lines_few [] = omega arith
lines_few (p ∷ ps) =
    let more = lines_few ps in
    omega (arith, length-append (printed_text p) (journal_spelling ps), length-append (printed_body p) (10 ∷ []))
