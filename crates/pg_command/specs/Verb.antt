-- The words that name commands, and those that ask for help.
use Rattle.std.specs.Prelude.{ℕ, ◌≡◌, Bool, true, false, Option, List, [], ◌∷◌, Some, None, codes}
use Rattle.pg_command.specs.declared.command.Help.{Help}
use Rattle.pg_command.specs.declared.verb.Verb.{Verb}
use Rattle.pg_command.specs.declared.verb.Verb.TheVariants as verb

abbrev pub verb_word : Verb → List ℕ
verb_word verb.Replay = codes "replay"
verb_word verb.Make = codes "make"
verb_word verb.Soak = codes "soak"
verb_word verb.Node = codes "node"
verb_word verb.Call = codes "call"

pub record IsVerb (word : List ℕ) : Type 0 where
  pub verb : Verb
  pub spelled : word ≡ verb_word verb

-- there is no word, or the first names no command
abbrev pub LacksVerb : List (List ℕ) → Type 0
LacksVerb [] = Unit {0}
LacksVerb (word ∷ words) = IsVerb word → ⊥

-- ---- help

-- in short, or at length
abbrev pub help_word : Bool → List ℕ
help_word false = codes "-h"
help_word true = codes "--help"

-- alone, or behind the word of a command
abbrev pub help_on : Option Verb → Bool → List (List ℕ)
help_on None long = help_word long ∷ []
help_on (Some verb) long = verb_word verb ∷ help_word long ∷ []

abbrev pub help_words : Help → List (List ℕ)
help_words help = help_on help.of help.long

-- the words ask for help, and for nothing else
pub record IsHelp (words : List (List ℕ)) : Type 0 where
  pub help : Help
  pub spelled : words ≡ help_words help
