-- The texts of paths: what they name, and which component is at fault.
use Rattle.std.specs.Prelude.{ℕ, ◌+◌, ◌==◌, Bool, true, false, not, nat_lt, if◌then◌else◌, List, [], ◌∷◌, length, slice_index, Option, None, Some, Result, Ok}
use Rattle.std.specs.List.{position}
use Rattle.pg_path.specs.Path.{parts_of}
use Rattle.pg_path.specs.Tested.{is_client_name, is_component}
use Rattle.pg_pieces.specs.pg_call.declared.refusal.Refusal.TheVariants.{BadPath}
use Rattle.pg_lookup.specs.declared.paths.LookupError.{LookupError}
use Rattle.pg_lookup.specs.Walk.{and_then, refused}
use Rattle.pg_checks.specs.declared.paths.Paths.{Paths}

-- ---- whole texts

abbrev pub all_of : List (List ℕ) → Option ℕ → Result (List (List ℕ)) LookupError
all_of parts None = Ok parts
all_of parts (Some index) = refused (BadPath (index + 1))

-- the first component that is none, counted from 1
abbrev pub checked_parts : List (List ℕ) → Result (List (List ℕ)) LookupError
checked_parts parts = all_of parts (position (λ part. not (is_component part)) parts)

-- the components of a path: no slash in front is 0, over 4,096 bytes 66, over 64 components 65
abbrev pub path_of : List ℕ → Result (List (List ℕ)) LookupError
path_of text =
    if not (slice_index text 0 == 47) then refused (BadPath 0)
    else (if nat_lt 4096 (length text) then refused (BadPath 66)
    else (if nat_lt 64 (length (parts_of text)) then refused (BadPath 65)
    else checked_parts (parts_of text)))

-- ---- paths of new names

-- the last component
abbrev pub last_of : List (List ℕ) → List ℕ
last_of [] = []
last_of (part ∷ []) = part
last_of (part ∷ next ∷ parts) = last_of (next ∷ parts)

abbrev pub is_none : List (List ℕ) → Bool
is_none [] = true
is_none (part ∷ parts) = false

-- the last component is to be a new name: it has to be one that a client may give
abbrev pub with_new_name : List (List ℕ) → Result (List (List ℕ)) LookupError
with_new_name parts =
    if is_none parts then Ok parts
    else (if is_client_name (last_of parts) then Ok parts else refused (BadPath (length parts)))

abbrev pub new_path_of : List ℕ → Result (List (List ℕ)) LookupError
new_path_of text = and_then (path_of text) with_new_name

-- two paths: the first is walked to its end, then the second to the parent of its last component
abbrev pub paths_of : List ℕ → List ℕ → Result Paths LookupError
paths_of from to =
    and_then (path_of from)
    (λ first. and_then (new_path_of to) (λ second. Ok (record { from = first; to = second })))
