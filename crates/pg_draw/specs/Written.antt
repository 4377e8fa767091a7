-- What the program writes of an input, and when it ends how.
use Rattle.std.specs.Prelude.{ℕ, ◌≡◌, ◌≤◌, ◌<◌, ◌⊎◌, List, Option, Some, IfSome, IsSomeAnd, length, take}
use Rattle.std.specs.Io.KnownBytes.{Appends}
use Rattle.pg_call.specs.declared.fault.Fault.{Fault}
use Rattle.pg_journal.specs.Journal.{IsFirstOther}
use Rattle.pg_picture.specs.Picture.{draw}
use Rattle.pg_picture.specs.Picture.Drawing.{Drawn, Lacking}
use Rattle.pg_picture.specs.declared.lack.Lack.{Lack}
use Rattle.pg_picture.specs.declared.sketch.Sketch.{Sketch}
use Rattle.pg_svg.specs.Svg.{svg_text}
use Rattle.pg_trace.specs.JournalLine.{ArePrinted, journal_spelling}
use Rattle.pg_trace.specs.declared.journal_line.JournalLine.{JournalLine}
use Rattle.pg_draw.specs.declared.command.TheConstants.{LIMIT}
use Rattle.pg_draw.specs.declared.ending.Ending.{Ending}
use Rattle.pg_draw.specs.declared.ending.Ending.TheVariants.{OutOfMemory}

-- the most bytes that an input may have. A clause of `run` says which number it is
abbrev pub most_input : ℕ
most_input = LIMIT

abbrev pub IsTooLong : List ℕ → Type 0
IsTooLong input = most_input < length input

-- the input spells a journal that has a picture, and P holds of the text of that picture
pub record IsPictureOf (input : List ℕ) (P : List ℕ → Type 0) : Type 0 where
  pub journal : List JournalLine
  pub sketch : Sketch
  pub each : ArePrinted journal
  pub whole : input ≡ journal_spelling journal
  pub picture : draw journal ≡ Drawn sketch
  pub written : P (svg_text sketch)

-- a known input has a picture, and exactly its text stands behind what the sink held
abbrev pub WritesAll : Option (List ℕ) → Option (List ℕ) → Option (List ℕ) → Type 0
WritesAll input before after = IfSome input (λ bytes. IsPictureOf bytes (Appends before after))

-- of that text a prefix that is not the whole
abbrev pub AppendsPrefix : Option (List ℕ) → Option (List ℕ) → List ℕ → Type 0
AppendsPrefix before after text =
    (n : ℕ) × (n < length text) × Appends before after (take n text)

abbrev pub WritesPrefix : Option (List ℕ) → Option (List ℕ) → Option (List ℕ) → Type 0
WritesPrefix input before after =
    IfSome input (λ bytes. IsPictureOf bytes (AppendsPrefix before after))

-- the input spells a journal, and this line of it is the first that lacks something
pub record LacksAt (input : List ℕ) (number : ℕ) (lack : Lack) : Type 0 where
  pub journal : List JournalLine
  pub each : ArePrinted journal
  pub whole : input ≡ journal_spelling journal
  pub lacking : draw journal ≡ Lacking number lack

-- the input spells a journal that has a picture
pub record IsDrawn (input : List ℕ) : Type 0 where
  pub journal : List JournalLine
  pub sketch : Sketch
  pub each : ArePrinted journal
  pub whole : input ≡ journal_spelling journal
  pub picture : draw journal ≡ Drawn sketch

-- the input is known, spells a journal that has a picture, and is not too long
abbrev pub IsDrawable : Option (List ℕ) → Type 0
IsDrawable input = IsSomeAnd input (λ bytes. IsDrawn bytes × (length bytes ≤ most_input))

-- so, or out of memory
abbrev pub EndsOnly : Ending → Ending → Type 0
EndsOnly result ending = (result ≡ ending) ⊎ (result ≡ OutOfMemory)

-- the input is known, and this is its first line that is none of a journal, and why
abbrev pub FirstOtherIs : Option (List ℕ) → ℕ → Fault → Type 0
FirstOtherIs input number fault = IfSome input (λ bytes. IsFirstOther bytes number fault)

-- the input is known, and this is its first line that lacks something, and what
abbrev pub FirstLacks : Option (List ℕ) → ℕ → Lack → Type 0
FirstLacks input number lack = IfSome input (λ bytes. LacksAt bytes number lack)
