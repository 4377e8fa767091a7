-- What a word has to be in its place, and which word is the first that is not.
use Rattle.std.specs.Prelude.{ℕ, ◌≡◌, ◌≤◌, ◌<◌, ◌+◌, ◌/◌, ◌%◌, ◌⊎◌, List, [], ◌∷◌, All, decimal, length}
use Rattle.hex.specs.Hex.{encode_lower}
use Rattle.pg_call.specs.Fields.{Field, IsWordOf}
use Rattle.pg_call.specs.Fields.Field.{Narrow, Wide, Count, Bytes, AnyId, Path, PathOrId, PolicyName, Form, Off}
use Rattle.pg_sched.specs.Cause.{Unless}
use Rattle.pg_words.specs.HexWord.{AreBytes}
use Rattle.pg_command.specs.declared.argument.Argument.{Argument}
use Rattle.pg_command.specs.declared.argument.Argument.TheVariants as argument

-- a number between these
pub record IsNumber (least most : ℕ) (word : List ℕ) : Type 0 where
  pub number : ℕ
  pub low : least ≤ number
  pub high : number ≤ most
  pub spelled : word ≡ decimal number

-- a lower case letter or a digit
abbrev pub IsNameByte : ℕ → Type 0
IsNameByte byte = ((97 ≤ byte) × (byte ≤ 122)) ⊎ ((48 ≤ byte) × (byte ≤ 57))

-- the name of a node
pub record IsNodeName (name : List ℕ) : Type 0 where
  pub some : 0 < length name
  pub few : length name ≤ 64
  pub each : All IsNameByte name

-- ---- arguments of calls

-- what schedules call it
abbrev pub field_of : Argument → Field
field_of argument.Narrow = Narrow
field_of argument.Wide = Wide
field_of argument.Count = Count
field_of argument.Payload = Bytes
field_of argument.Id = AnyId
field_of argument.Path = Path
field_of argument.Target = PathOrId
field_of argument.Policy = PolicyName

-- a path or a target has at most 5,000 bytes
abbrev pub IsShort : Field → List ℕ → Type 0
IsShort Narrow word = Unit {0}
IsShort Wide word = Unit {0}
IsShort Count word = Unit {0}
IsShort Bytes word = Unit {0}
IsShort AnyId word = Unit {0}
IsShort Path word = length word ≤ 5000
IsShort PathOrId word = length word ≤ 5000
IsShort PolicyName word = Unit {0}
IsShort Form word = Unit {0}
IsShort Off word = Unit {0}

abbrev pub AreShort : List Field → List (List ℕ) → Type 0
AreShort [] words = Unit {0}
AreShort (field ∷ fields) [] = Unit {0}
AreShort (field ∷ fields) (word ∷ words) = IsShort field word × AreShort fields words

-- pairs, one at least and no more than one write has bytes
pub record ArePairs (word : List ℕ) : Type 0 where
  pub some : 0 < length word
  pub even : length word % 2 ≡ 0
  pub few : length word / 2 ≤ 32768

-- bytes of one write, one at least, as pairs of digits
pub record SpellsBytes (word : List ℕ) : Type 0 where
  pub bytes : List ℕ
  pub few : AreBytes 32768 bytes
  pub spelled : word ≡ encode_lower bytes

-- the word is what a schedule has there, and no longer than a packet takes it
pub record IsArgument (field : Field) (word : List ℕ) : Type 0 where
  pub spelled : IsWordOf field word
  pub short : IsShort field word

abbrev pub AreArguments : List Field → List (List ℕ) → Type 0
AreArguments [] [] = Unit {0}
AreArguments [] (word ∷ words) = ⊥
AreArguments (field ∷ fields) [] = ⊥
AreArguments (field ∷ fields) (word ∷ words) = IsArgument field word × AreArguments fields words

-- ---- slots

-- what a word has to be: this text, a number between these, the name of a node, or an argument
pub data Slot : Type 0 where
  Text : List ℕ → Slot
  Number : ℕ → ℕ → Slot
  Name : Slot
  Argued : Field → Slot

abbrev pub Fits : Slot → List ℕ → Type 0
Fits (Text text) word = word ≡ text
Fits (Number least most) word = IsNumber least most word
Fits Name word = IsNodeName word
Fits (Argued field) word = IsArgument field word

-- there is no word, or the first does not fit
abbrev pub Lacks : Slot → List (List ℕ) → Type 0
Lacks slot [] = Unit {0}
Lacks slot (word ∷ words) = Fits slot word → ⊥

-- the word with the number k is the first that does not fit, is missing, or is one too many, where
-- the next word has the number `at`
abbrev pub IsFirstWrong : ℕ → List Slot → List (List ℕ) → ℕ → Type 0
IsFirstWrong at [] [] k = ⊥
IsFirstWrong at [] (word ∷ words) k = k ≡ at
IsFirstWrong at (slot ∷ slots) [] k = k ≡ at
IsFirstWrong at (slot ∷ slots) (word ∷ words) k =
    Unless (Fits slot word) (k ≡ at) (IsFirstWrong (at + 1) slots words k)
