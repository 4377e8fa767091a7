-- What the program writes of an input, and when it ends how.
use Rattle.std.specs.Prelude.{ℕ, ◌≡◌, ◌≤◌, ◌<◌, Bool, List, [], true, false, Option, Some, IfSome, length, take}
pub use Rattle.std.specs.Io.KnownBytes.{Appends}
use Rattle.pg_sched.specs.declared.line.Line.{Line}
use Rattle.pg_sched.specs.Schedule.{spelling, AreLines}
pub use Rattle.pg_sched.specs.Schedule.{IsCount}
use Rattle.pg_program.specs.declared.replay.TheConstants.{LIMIT}
use Rattle.pg_command.specs.declared.command.Command.{Command}
use Rattle.pg_command.specs.declared.command.Command.TheVariants.{Replay, Make, Soak, Node, Call, Help}
use Rattle.pg_make.specs.Made.{made_text}
use Rattle.pg_meter.specs.declared.meter.Reading.{Reading}
pub use Rattle.pg_meter.specs.Note.{reading}
pub use Rattle.pg_replay.specs.Apart.{JournalsAreAlike}
pub use Rattle.pg_replay.specs.Lines.{LinesAreEvents}
use Rattle.pg_replay.specs.Soaking.{soak_text}
use Rattle.pg_replay.specs.Text.{IsTextOf}

-- the most bytes that an input may have. A clause of `run` says which number it is
abbrev pub most_input : ℕ
most_input = LIMIT

abbrev pub IsTooLong : List ℕ → Type 0
IsTooLong input = most_input < length input

-- a known input spells a schedule, and exactly the text of its run stands behind what the sink held
abbrev pub WritesAll : List Reading → Option (List ℕ) → Option (List ℕ) → Option (List ℕ)
    → Type 0
WritesAll meters input before after =
    IfSome input (λ bytes. IsTextOf meters bytes (Appends before after))

-- of that text a prefix that is not the whole
abbrev pub AppendsPrefix : Option (List ℕ) → Option (List ℕ) → List ℕ → Type 0
AppendsPrefix before after text =
    (n : ℕ) × (n < length text) × Appends before after (take n text)

-- the same of a prefix of that text
abbrev pub WritesPrefix : List Reading → Option (List ℕ) → Option (List ℕ) → Option (List ℕ)
    → Type 0
WritesPrefix meters input before after =
    IfSome input (λ bytes. IsTextOf meters bytes (AppendsPrefix before after))

-- the input is known, spells a schedule, and is not too long
pub record IsGoodInput (input : Option (List ℕ)) : Type 0 where
  pub servers : ℕ
  pub lines : List Line
  pub count : IsCount servers
  pub each : AreLines lines
  pub whole : input ≡ Some (spelling servers lines)
  pub short : length (spelling servers lines) ≤ most_input

-- ---- each command

-- the meters that are handed in, where a replay has some
abbrev pub handed : Bool → List Reading → List Reading
handed true meters = meters
handed false meters = []

-- What is behind what the sink held, when the command is done: of help some text, and of nodes and
-- calls `Does` says it.
abbrev pub Writes : Command → List Reading → Option (List ℕ) → Option (List ℕ) → Option (List ℕ)
    → Type 0
Writes (Replay metered) meters input before after =
    WritesAll (handed metered meters) input before after
Writes (Make numbers) meters input before after =
    Appends before after (made_text numbers.seed numbers.servers numbers.events)
Writes (Soak numbers) meters input before after =
    Appends before after (soak_text numbers.seed numbers.servers numbers.events)
Writes (Node server servers port name turns) meters input before after = Unit {0}
Writes (Call server port request) meters input before after = Unit {0}
Writes (Help help) meters input before after = (text : List ℕ) × Appends before after text

-- a prefix of that
abbrev pub WritesFront : Command → List Reading → Option (List ℕ) → Option (List ℕ)
    → Option (List ℕ) → Type 0
WritesFront (Replay metered) meters input before after =
    WritesPrefix (handed metered meters) input before after
WritesFront (Make numbers) meters input before after =
    AppendsPrefix before after (made_text numbers.seed numbers.servers numbers.events)
WritesFront (Soak numbers) meters input before after =
    AppendsPrefix before after (soak_text numbers.seed numbers.servers numbers.events)
WritesFront (Node server servers port name turns) meters input before after = Unit {0}
WritesFront (Call server port request) meters input before after = Unit {0}
WritesFront (Help help) meters input before after =
    (text : List ℕ) × AppendsPrefix before after text
