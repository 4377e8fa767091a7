-- A line of a schedule: what it is spelled as.
use Rattle.std.specs.Prelude.{ℕ, ◌<◌, ◌≤◌, ◌^◌, List, [], ◌∷◌, decimal, codes, length}
use Rattle.std.specs.List.{join_with_byte}
use Rattle.pg_base.specs.Id as id
use Rattle.pg_event.specs.Event.{event_words, IsEvent}
use Rattle.pg_sched.specs.declared.line.Form.{Form}
use Rattle.pg_sched.specs.declared.line.Form.TheVariants.{Full, Short}
use Rattle.pg_sched.specs.declared.line.Line.{Line}
use Rattle.pg_sched.specs.declared.line.Line.TheVariants.{Happens, Settle, Show, Quiet, Trace, MeterOff}

-- the words of a settling whose words after the verb are these
abbrev pub settle_words : List ℕ → List ℕ → List (List ℕ)
settle_words rounds moment = codes "settle" ∷ rounds ∷ moment ∷ []

abbrev pub form_word : Form → List ℕ
form_word Full = codes "full"
form_word Short = codes "short"

abbrev pub line_words : Line → List (List ℕ)
line_words (Happens event) = event_words event
line_words (Settle rounds moment) = settle_words (decimal rounds) (decimal moment)
line_words (Show what) = codes "show" ∷ id.spelling what ∷ []
line_words Quiet = codes "quiet" ∷ []
line_words (Trace form) = codes "trace" ∷ form_word form ∷ []
line_words (MeterOff number) = codes "meter" ∷ codes "off" ∷ decimal number ∷ []

-- the words with a space between two of them
abbrev pub line_body : Line → List ℕ
line_body line = join_with_byte 32 (line_words line)

-- what its words can spell
abbrev pub HasWords : Line → Type 0
HasWords (Happens event) = IsEvent event
HasWords (Settle rounds moment) = (rounds < 2 ^ 32) × (moment < 2 ^ 64)
HasWords (Show what) = id.Fits what
HasWords Quiet = Unit {0}
HasWords (Trace form) = Unit {0}
HasWords (MeterOff number) = number < 2 ^ 64

-- what has a spelling: its words have, and they are not too long together, as a path may be of any
-- length
pub record IsLine (line : Line) : Type 0 where
  pub words : HasWords line
  pub short : length (line_body line) ≤ 70000
