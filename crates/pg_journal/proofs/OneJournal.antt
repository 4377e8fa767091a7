-- A text has at most one reading: one journal, or one first other line.
use Rattle.std.proofs.Common.{ℕ, ◌≡◌, List, sym, ap, ◌∙◌, inl, inr, ◌+◌, subst}
use Rattle.pg_call.specs.declared.fault.Fault.{Fault}
use Rattle.pg_trace.specs.declared.journal_line.JournalLine.{JournalLine}
use Rattle.pg_trace.specs.JournalLine.{printed_body, journal_spelling, ArePrinted, IsPrinted}
use Rattle.pg_journal.specs.Journal.{LacksPrinted, IsOtherFault, IsFirstOther}
use Rattle.pg_journal_lines.proofs.OnePrinted.{one_printed}
use Rattle.pg_journal_lines.proofs.PrintedWords.{printed_body-lacks}
use Rattle.pg_words.proofs.Readings as lines
use Rattle.pg_words.proofs.Readings.{same_lines, stops_nowhere, stops_once}

lacking : (rest : List ℕ) → LacksPrinted rest → lines.LacksLine printed_body IsPrinted printed_body-lacks rest
lacking rest h = record { some = h.some; none = h.none }

one_fault : (text : List ℕ) (f g : Fault) → IsOtherFault text f → IsOtherFault text g → f ≡ g
one_fault text f g (inl a) (inl b) = a.1 ∙ sym b.1
one_fault text f g (inl a) (inr b) = absurd (a.0 b.0)
one_fault text f g (inr a) (inl b) = absurd (b.0 a.0)
one_fault text f g (inr a) (inr b) = a.1 ∙ sym b.1

-- no text has two first other lines
pub one_other : (text : List ℕ) (n m : ℕ) (f g : Fault) → IsFirstOther text n f → IsFirstOther text m g → (n ≡ m) × (f ≡ g)
one_other text n m f g a b =
    let once = stops_once printed_body IsPrinted printed_body-lacks a.good b.good a.rest b.rest a.each b.each (sym a.whole ∙ b.whole) (lacking a.rest a.other) (lacking b.rest b.other) in
    let P : List ℕ → Type 0 = λ t. IsOtherFault t f in (
      a.count ∙ ap (λ k. k + 1) once.0 ∙ sym b.count,
      one_fault b.rest f g (subst P once.1 a.cause) b.cause,
    )

-- no two journals have one spelling
pub one_journal : (xs ys : List JournalLine) → ArePrinted xs → ArePrinted ys → journal_spelling xs ≡ journal_spelling ys → xs ≡ ys
one_journal xs ys hx hy e = same_lines printed_body IsPrinted printed_body-lacks one_printed xs ys hx hy e

-- a text that spells a journal has no first other line
pub none_other_in : (text : List ℕ) (xs : List JournalLine) (m : ℕ) (f : Fault) → ArePrinted xs → text ≡ journal_spelling xs → IsFirstOther text m f → ⊥
none_other_in text xs m f each same b =
    stops_nowhere printed_body IsPrinted printed_body-lacks b.good xs b.rest b.each each (sym same ∙ b.whole) (lacking b.rest b.other)
