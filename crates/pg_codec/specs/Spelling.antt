-- How fields are spelled.
use Rattle.std.specs.Prelude.{ℕ, Bool, true, false, List, [], ◌∷◌, ◌++◌}
use Rattle.byteorder.specs.Endian.{big_bytes}
use Rattle.pg_base.specs.Id.{letter}
use Rattle.pg_base.specs.declared.id.FileId.{FileId}
use Rattle.pg_base.specs.declared.stamp.Stamp.{Stamp}

-- a number in so many bytes, the highest first
unfoldable pub number_bytes : ℕ → ℕ → List ℕ
number_bytes width n = big_bytes width n

-- a truth value
unfoldable pub flag_bytes : Bool → List ℕ
flag_bytes false = 0 ∷ []
flag_bytes true = 1 ∷ []

-- `d` or `f`, the server and the number
unfoldable pub file_bytes : FileId → List ℕ
file_bytes id = (letter id.kind ∷ []) ++ (number_bytes 4 id.server ++ number_bytes 8 id.number)

-- the time and the server
unfoldable pub stamp_bytes : Stamp → List ℕ
stamp_bytes s = number_bytes 8 s.time ++ number_bytes 4 s.server
