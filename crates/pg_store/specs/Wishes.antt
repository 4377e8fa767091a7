-- What clients asked for that is not held.
use Rattle.std.specs.Prelude.{ℕ, Bool, ◌==◌, not, false, if◌then◌else◌, List, [], ◌∷◌, Option, None, Some}
use Rattle.std.specs.List.{filter, flat_map}
use Rattle.std.specs.BTreeMap.{is_at, insert_entry}
use Rattle.std.specs.Map.{lookup, set_value}
use Rattle.pg_base.specs.declared.id.FileId.{FileId}
use Rattle.pg_base.specs.Id.{file_cmp}
use Rattle.pg_store.specs.declared.wishes.Wish.{Wish}

abbrev pub WishesValue : Type 0
WishesValue = List (FileId × Wish)

-- the wish for a thing
abbrev pub wish_in : WishesValue → FileId → Option Wish
wish_in wishes file = lookup (is_at (file_cmp file)) wishes

-- there is one, and it has this birth
abbrev pub is_with_birth : Option Wish → ℕ → Bool
is_with_birth None birth = false
is_with_birth (Some wish) birth = wish.birth == birth

-- this is the wish for the thing from now on
abbrev pub put_wish : WishesValue → FileId → Wish → WishesValue
put_wish wishes file wish = insert_entry file_cmp wishes file wish

-- the wish for the thing ends
abbrev pub without_wish : WishesValue → FileId → WishesValue
without_wish wishes file = filter (λ e. not (is_at (file_cmp file) e.0)) wishes

abbrev pub aimed_at : ℕ → Wish → Wish
aimed_at target wish = record { birth = wish.birth; target = target }

abbrev pub aimed : WishesValue → FileId → ℕ → Option Wish → WishesValue
aimed wishes file target None = wishes
aimed wishes file target (Some wish) =
    set_value (is_at (file_cmp file)) wishes (aimed_at target wish)

-- the wish for the thing asks this server from now on, if there is one
abbrev pub aim_wish : WishesValue → FileId → ℕ → WishesValue
aim_wish wishes file target = aimed wishes file target (wish_in wishes file)

abbrev pub wished_at : ℕ → FileId → Wish → List FileId
wished_at server file wish = if wish.target == server then file ∷ [] else []

-- the things whose wishes ask this server, by id
abbrev pub wished_of : ℕ → WishesValue → List FileId
wished_of server wishes = flat_map (λ e. wished_at server e.0 e.1) wishes

abbrev pub aim_each : WishesValue → List FileId → ℕ → WishesValue
aim_each wishes [] to = wishes
aim_each wishes (file ∷ files) to = aim_each (aim_wish wishes file to) files to
