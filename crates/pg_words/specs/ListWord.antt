-- Words that are lists.
use Rattle.std.specs.Prelude.{ℕ, List, [], ◌∷◌, codes}
use Rattle.std.specs.List.{join_with_byte}

-- some words with a comma between two of them, or a dash for none
abbrev pub list_word : List (List ℕ) → List ℕ
list_word [] = codes "-"
list_word (w ∷ ws) = join_with_byte 44 (w ∷ ws)
