-- Which directories stand above a directory at a server.
use Rattle.std.specs.Prelude.{ℕ, Bool, true, false, if◌then◌else◌, zero, suc, length, Option, None, Some}
use Rattle.pg_base.specs.declared.id.FileId.{FileId}
use Rattle.pg_base.specs.Id.{is_same_file}
use Rattle.pg_register.specs.Place.{root}
use Rattle.pg_names.specs.declared.attributes.Attributes.{Attributes}
use Rattle.pg_names.specs.Names.{NamesValue, own_at}

-- the thing is this directory, or what stands above it in its own place has it above or is it; the
-- chain ends at the root, and at what is not held
abbrev pub is_at_or_above : (FileId → Bool) → FileId → FileId → Option Attributes → Bool
is_at_or_above above thing dir None = false
is_at_or_above above thing dir (Some own) =
    if is_same_file dir thing then true
    else (if is_same_file dir root then false else above own.place.parent)

-- the same, over no more than so many members of the chain
abbrev pub is_above_within : NamesValue → FileId → ℕ → FileId → Bool
is_above_within names thing zero dir = false
is_above_within names thing (suc n) dir =
    is_at_or_above (is_above_within names thing n) thing dir (own_at names dir)

-- the thing is the directory, or on its chain of held parents. A chain that does not end comes to
-- no new member behind as many as are held
abbrev pub is_above : NamesValue → FileId → FileId → Bool
is_above names thing dir = is_above_within names thing (length names.held) dir
