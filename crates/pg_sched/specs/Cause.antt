-- Why a line is bad: the first of the faults that holds of it.
use Rattle.std.specs.Prelude.{ℕ, ◌≡◌, ◌≢◌, ◌≤◌, ◌⊎◌, List, [], ◌∷◌, ◌++◌, All, length, cond, ◌==◌, codes}
use Rattle.pg_call.specs.Call.{kind_word}
use Rattle.pg_call.specs.Fields.{Field, AreCounted, IsBadWord}
use Rattle.pg_call.specs.declared.call.CallKind.{CallKind}
use Rattle.pg_call.specs.declared.fault.Fault.{Fault}
use Rattle.pg_call.specs.declared.fault.Fault.TheVariants.{Byte, Long, End, Header, Verb, Words}
use Rattle.pg_sched.specs.declared.verb.Verb as verb
use Rattle.pg_sched.specs.Fields.{called_fields, fields, verb_word}
use Rattle.pg_words.specs.Words.{words_in}

-- A holds unless P does, and then B
abbrev pub Unless : Type 0 → Type 0 → Type 0 → Type 0
Unless P A B = ((P → ⊥) × A) ⊎ (P × B)

-- the text's first line, without its end
abbrev pub first_line : List ℕ → List ℕ
first_line [] = []
first_line (byte ∷ bytes) = cond (byte == 10) [] (byte ∷ first_line bytes)

abbrev pub IsPrintable : ℕ → Type 0
IsPrintable byte = (32 ≤ byte) × (byte ≤ 126)

-- a line feed ends the text's first line; a text of no byte has no line
abbrev pub IsEnded : List ℕ → Type 0
IsEnded text = (text ≡ []) ⊎ ((line : List ℕ) × (rest : List ℕ) × (text ≡ line ++ 10 ∷ rest))

-- why the text's first line is none, whatever it is to say
abbrev pub IsCutCause : List ℕ → Fault → Type 0
IsCutCause text fault =
    Unless (All IsPrintable (first_line text)) (fault ≡ Byte)
    (Unless (length (first_line text) ≤ 70000) (fault ≡ Long)
    ((IsEnded text → ⊥) × (fault ≡ End)))

-- why the words behind a verb are no line, where these fields are wanted
abbrev pub IsRestCause : List Field → List (List ℕ) → Fault → Type 0
IsRestCause wanted words fault =
    Unless (AreCounted wanted words) (fault ≡ Words) (IsBadWord wanted words fault)

-- why the words behind `call` are no line: the third of them names the call
abbrev pub IsCalledCause : List (List ℕ) → Fault → Type 0
IsCalledCause [] fault = fault ≡ Words
IsCalledCause (server ∷ []) fault = fault ≡ Words
IsCalledCause (server ∷ moment ∷ []) fault = fault ≡ Words
IsCalledCause (server ∷ moment ∷ call ∷ words) fault =
    (((k : CallKind) → call ≢ kind_word k) × (fault ≡ Verb))
    ⊎ ((k : CallKind) × (call ≡ kind_word k)
    × IsRestCause (called_fields k) (server ∷ moment ∷ words) fault)

-- why words are no line
abbrev pub IsWordsCause : List (List ℕ) → Fault → Type 0
IsWordsCause [] fault = fault ≡ Verb
IsWordsCause (word ∷ words) fault =
    (((v : verb.Verb) → word ≢ verb_word v) × (word ≢ codes "call") × (fault ≡ Verb))
    ⊎ (((v : verb.Verb) × (word ≡ verb_word v) × IsRestCause (fields v) words fault)
    ⊎ ((word ≡ codes "call") × IsCalledCause words fault))

-- why the first line of the text is bad, which has this number in the schedule; the header has
-- number 1
abbrev pub IsCause : ℕ → List ℕ → Fault → Type 0
IsCause number text fault =
    Unless (All IsPrintable (first_line text)) (fault ≡ Byte)
    (Unless (length (first_line text) ≤ 70000) (fault ≡ Long)
    (Unless (IsEnded text) (fault ≡ End)
    (Unless (2 ≤ number) (fault ≡ Header)
    (IsWordsCause (words_in (first_line text)) fault))))
