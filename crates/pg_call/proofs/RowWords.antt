-- Rows as words: each has a space in front.
use Rattle.std.proofs.Common.{ℕ, ◌≡◌, List, [], ◌∷◌, ◌++◌, map, ap, decimal, codes}
use Rattle.std.proofs.lemmas.List.{append-nil}
use Rattle.std.specs.List.{join_with_byte}
use Rattle.pg_call.specs.Reply.{row_word, rows_text}
use Rattle.pg_path.specs.declared.row.Row.{Row}

pub joined_rows : (first : List ℕ) (rows : List Row) → first ++ rows_text rows ≡ join_with_byte 32 (first ∷ map row_word rows)
joined_rows first [] = append-nil first
joined_rows first (row ∷ rows) = ap (λ (t : List ℕ). first ++ 32 ∷ t) (joined_rows (row_word row) rows)

pub names_text : (total : ℕ) (rows : List Row) → codes "names " ++ decimal total ++ rows_text rows ≡ join_with_byte 32 (codes "names" ∷ decimal total ∷ map row_word rows)
names_text total rows = ap (λ (t : List ℕ). codes "names " ++ t) (joined_rows (decimal total) rows)
