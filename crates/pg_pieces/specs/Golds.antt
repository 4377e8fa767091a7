-- Gold replicas, and things that see no live one.
use Rattle.std.specs.Prelude.{ℕ, Bool, false, ◌&&◌, not, nat_lt, List, Option, None, Some}
use Rattle.std.specs.List.{filter, list_any}
use Rattle.std.specs.Map.{keys_of}
use Rattle.pg_base.specs.declared.id.FileId.{FileId}
use Rattle.pg_register.specs.declared.flag.Flag.{Flag}
use Rattle.pg_register.specs.Flag.{flag_of, is_live, is_raised}
use Rattle.pg_store.specs.pg_names.Names.{InodeValue, known, own_or_blank}
use Rattle.pg_store.specs.declared.store.Store.{Store}
use Rattle.pg_store.specs.Births.{birth_of}
use Rattle.pg_store.specs.Seen.{removed_of, server_of}

-- the flags of a thing: none where it is not held
abbrev pub flags_of : Store → FileId → List Flag
flags_of store file = (own_or_blank store.names file).flags

-- the server's own replica of a thing is gold: its flag is raised, with the replica's birth
abbrev pub is_gold : Store → FileId → Bool
is_gold store file = is_raised (flags_of store file) (server_of store) (birth_of store file)

-- ---- things that see no live gold

-- one of these flags is raised, and its server is live
abbrev pub sees_gold : List ℕ → List Flag → Bool
sees_gold removed flags = list_any (is_live removed) flags

-- the flag is of a later birth than this
abbrev pub is_of_later : ℕ → Option Flag → Bool
is_of_later birth None = false
is_of_later birth (Some flag) = nat_lt birth flag.birth

-- what is held is full and sees no live gold; and the server has no flag of it that is of a later
-- birth than its replica, which no run makes
abbrev pub is_goldless_held : List ℕ → ℕ → ℕ → Option InodeValue → Bool
is_goldless_held removed server birth None = false
is_goldless_held removed server birth (Some x) = x.full
    && (not (sees_gold removed x.own.flags)
    && not (is_of_later birth (flag_of x.own.flags server)))

abbrev pub is_goldless : Store → FileId → Bool
is_goldless store file = is_goldless_held (removed_of store) (server_of store)
    (birth_of store file) (known store.names file)

-- all such things, by id
abbrev pub goldless : Store → List FileId
goldless store = filter (is_goldless store) (keys_of store.names.held)
