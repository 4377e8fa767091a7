-- A whole journal: which line of a text is the first that is none of a journal.
use Rattle.std.specs.Prelude.{ℕ, ◌≡◌, ◌≢◌, ◌+◌, ◌⊎◌, List, [], ◌∷◌, ◌++◌, length}
use Rattle.pg_call.specs.declared.fault.Fault.{Fault}
use Rattle.pg_call.specs.declared.fault.Fault.TheVariants.{End, Verb}
use Rattle.pg_trace.specs.declared.journal_line.JournalLine.{JournalLine}
use Rattle.pg_trace.specs.JournalLine.{printed_text, journal_spelling, IsPrinted, ArePrinted}

-- the text goes on, and not with a line of a journal
pub record LacksPrinted (text : List ℕ) : Type 0 where
  pub some : text ≢ []
  pub none : (line : JournalLine) (rest : List ℕ) → IsPrinted line
      → text ≡ printed_text line ++ rest → ⊥

-- a line feed stands in the text
abbrev pub HasEnd : List ℕ → Type 0
HasEnd text = (line : List ℕ) × (rest : List ℕ) × (text ≡ line ++ 10 ∷ rest)

-- what is wrong with the first line of the text: no line feed ends it, or it is no line of a
-- journal
abbrev pub IsOtherFault : List ℕ → Fault → Type 0
IsOtherFault text fault = ((HasEnd text → ⊥) × (fault ≡ End)) ⊎ (HasEnd text × (fault ≡ Verb))

-- the line with this number is the first that is none of a journal, for this fault; the text's
-- first line has number 1
pub record IsFirstOther (text : List ℕ) (number : ℕ) (fault : Fault) : Type 0 where
  pub good : List JournalLine
  pub rest : List ℕ
  pub each : ArePrinted good
  pub whole : text ≡ journal_spelling good ++ rest
  pub count : number ≡ length good + 1
  pub other : LacksPrinted rest
  pub cause : IsOtherFault rest fault
