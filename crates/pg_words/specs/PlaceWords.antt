-- Places as words: when it was made, the directory, the name in it, and whether it is live.
use Rattle.std.specs.Prelude.{ℕ, List, [], ◌∷◌, codes}
use Rattle.pg_base.specs.Id.{spelling}
use Rattle.pg_base.specs.StampText.{stamp_text}
use Rattle.pg_register.specs.Place.{IsPlaceName}
use Rattle.pg_register.specs.declared.place.Place.{Place}
use Rattle.pg_words.specs.ChoiceWord.{life_word}
use Rattle.pg_words.specs.FileWord.{IsDirectory}
use Rattle.pg_words.specs.StampWord.{IsStamp}

-- a name as it stands; the root has the empty name, which is written as a slash
abbrev pub name_word : List ℕ → List ℕ
name_word [] = codes "/"
name_word (byte ∷ bytes) = byte ∷ bytes

abbrev pub place_words : Place → List (List ℕ)
place_words place =
    stamp_text place.stamp ∷ spelling place.parent ∷ name_word place.name
    ∷ life_word place.live ∷ []

-- what has a spelling
pub record IsPlace (place : Place) : Type 0 where
  pub stamp : IsStamp place.stamp
  pub parent : IsDirectory place.parent
  pub name : IsPlaceName place.name
