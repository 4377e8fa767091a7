-- The first line of a text as a header.
use Rattle.std.proofs.Common.{ℕ, ◌≡◌, ◌≤◌, List, ◌∷◌, ◌++◌, length, refl, sym, ◌∙◌, arith, All, inl, decimal, append_assoc, length-append}
use Rattle.std.proofs.lemmas.List.Elements.{All-append, All-from_recursion}
use Rattle.std.proofs.lemmas.Fmt.{length-decimal-le}
use Rattle.pg_base.proofs.Parts.{cut_same}
use Rattle.pg_sched.specs.Cause.{IsPrintable, IsCutCause, IsCause}
use Rattle.pg_sched.specs.Schedule.{header, LacksHeader, IsCount}
use Rattle.pg_call.specs.declared.fault.Fault.{Fault}
use Rattle.pg_call.specs.declared.fault.Fault.TheVariants as fault
use Rattle.pg_sched.proofs.Causes.{no_cut_cause, later_cause, printable_lacks}
use Rattle.pg_sched.proofs.Lines.{format, header-rest}
use Rattle.pg_sched.proofs.WordBytes.{decimal_printable}

-- a header without its end
abbrev pub head : ℕ → List ℕ
head n = format ++ decimal n

header_cut : (n : ℕ) (more : List ℕ) → header n ++ more ≡ head n ++ 10 ∷ more
header_cut n more = header-rest n more ∙ sym (append_assoc format (decimal n) (10 ∷ more))

head_printable : (n : ℕ) → IsCount n → All IsPrintable (head n)
head_printable n h = let most = h.1 in All-append IsPrintable format (decimal n) (All-from_recursion IsPrintable format (omega arith)) (decimal_printable n (omega arith))

head_short : (n : ℕ) → IsCount n → length (head n) ≤ 70000
head_short n h =
    let most = h.1 in
    let few = length-decimal-le 2 n (omega arith) (omega arith) (omega arith) in
    let e = length-append format (decimal n) in
    omega arith

-- what cannot be cut is no header
pub no_header_cut : (text : List ℕ) (f : Fault) → IsCutCause text f → LacksHeader text
no_header_cut text f cause n rest fits e =
    no_cut_cause text (head n) rest f (e ∙ header_cut n rest) (printable_lacks (head n) (head_printable n fits)) (head_printable n fits) (head_short n fits) cause

-- nor is a line that says something else
pub no_header_there : (text line rest : List ℕ) → text ≡ line ++ 10 ∷ rest → All IsPrintable line → ((n : ℕ) → IsCount n → line ≡ head n → ⊥) → LacksHeader text
no_header_there text line rest e p none n more fits same =
    none n fits ((cut_same 10 line rest (head n) more (printable_lacks line p) (printable_lacks (head n) (head_printable n fits)) (sym e ∙ same ∙ header_cut n more)).0)

-- a first line that is no header
pub header_cause : (text line rest : List ℕ) → text ≡ line ++ 10 ∷ rest → All IsPrintable line → length line ≤ 70000 → IsCause 1 text fault.Header
header_cause text line rest e p q = later_cause 1 text line rest fault.Header e (printable_lacks line p) p q (inl (λ two. omega arith, refl))
