-- How a log stands on a disk.
use Rattle.std.specs.Prelude.{ℕ, ◌≡◌, ◌≢◌, ◌⊎◌, List, [], ◌∷◌, ◌++◌, length}
use Rattle.std.specs.declared.option.Option.{Option}
use Rattle.std.specs.Prelude.{Some}
use Rattle.pg_disk.specs.Disk.{IsSettled}
use Rattle.pg_disk.specs.Told.{Told, steps, given}
use Rattle.pg_log.specs.Bytes.{front, AllFit, OpensTo}

-- The log has these entries: the file is these and a closed gate, whose place the log knows, and a
-- crash leaves just that.
pub record Stands (log : Option ℕ) (told : Told) (entries : List (List ℕ)) : Type 0 where
  pub place : log ≡ Some (length (front entries))
  pub gate : ℕ
  pub closed : gate ≢ 1
  pub file : given told 0 ≡ front entries ++ gate ∷ []
  pub fit : AllFit entries
  pub settled : IsSettled (steps told 0)

-- the file opens to these entries, or to these and one more
abbrev pub OpensWithOrWithout : List (List ℕ) → List ℕ → List ℕ → Type 0
OpensWithOrWithout entries entry file = OpensTo file entries ⊎ OpensTo file (entries ++ entry ∷ [])
