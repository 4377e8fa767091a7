-- Births that a server gives out.
use Rattle.std.specs.Prelude.{ℕ, ◌+◌, ◌==◌, ◌&&◌, ◌||◌, nat_le, not, Bool, false, Option, None, Some}
use Rattle.pg_base.specs.declared.id.FileId.{FileId}
use Rattle.pg_intent.specs.declared.intent.Intent.{Intent}
use Rattle.pg_intent.specs.declared.intent.Intent.TheVariants as intent
use Rattle.pg_intent.specs.declared.key.IntentKey.TheVariants as intent_key
use Rattle.pg_intent.specs.Intents.{intent_at}
use Rattle.pg_replica.specs.Replicas.{is_of_birth}
use Rattle.pg_store.specs.declared.store.Store.{Store}
use Rattle.pg_store.specs.declared.wishes.Wish.{Wish}
use Rattle.pg_store.specs.Store.{is_held, replica_at, replica_of}
use Rattle.pg_store.specs.Wishes.{WishesValue, is_with_birth, put_wish, wish_in}

-- the next birth that the server gives out, and that it has given it out
abbrev pub draw_birth : Store → ℕ
draw_birth store = store.births + 1

abbrev pub with_birth : Store → Store
with_birth store = record store { births = draw_birth store }

-- the thing is held, and its replica has this birth
abbrev pub has_birth : Store → FileId → ℕ → Bool
has_birth store file birth = is_of_birth (replica_at store file) birth

-- the birth of its replica, 0 where it is not held
abbrev pub birth_of : Store → FileId → ℕ
birth_of store file = (replica_of store file).birth

-- ---- births of what is not here yet

abbrev pub with_wishes : Store → WishesValue → Store
with_wishes store wishes = record store { wishes = wishes }

-- the wish for a thing
abbrev pub wish_at : Store → FileId → Option Wish
wish_at store file = wish_in store.wishes file

-- this is the wish for the thing from now on
abbrev pub with_wish : Store → FileId → Wish → Store
with_wish store file wish = with_wishes store (put_wish store.wishes file wish)

-- the Fill of a thing
abbrev pub fill_at : Store → FileId → Option Intent
fill_at store file = intent_at store.intents (intent_key.Fill file)

-- it is a Fill with this birth
abbrev pub is_fill_with : Intent → ℕ → Bool
is_fill_with (intent.Fill file to_fill target) birth = to_fill == birth
is_fill_with _ birth = false

abbrev pub is_fill_at : Option Intent → ℕ → Bool
is_fill_at None birth = false
is_fill_at (Some i) birth = is_fill_with i birth

-- the birth was given out for a replica that is not here yet: it is that of the wish for the thing,
-- or of a Fill of it where it is not held
abbrev pub is_pending : Store → FileId → ℕ → Bool
is_pending store file birth = is_with_birth (wish_at store file) birth
    || (not (is_held store file) && is_fill_at (fill_at store file) birth)

-- ---- births that are over

-- it was given out, and neither has the thing's replica it nor is one to come that has it. A birth
-- that was given out for another thing counts as over for this one
abbrev pub is_over : Store → FileId → ℕ → Bool
is_over store file birth = nat_le birth store.births
    && (not (has_birth store file birth) && not (is_pending store file birth))
