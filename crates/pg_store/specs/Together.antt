-- What holds of each store that a run comes to: which things have a replica, and which births were
-- given out.
use Rattle.std.specs.Prelude.{ℕ, ◌≡◌, ◌≤◌, ◌<◌, ◌⊎◌, ◌↔◌, true, false, Option, Some, None}
use Rattle.std.specs.List.{find}
use Rattle.std.specs.Option.{option_map}
use Rattle.pg_base.specs.declared.id.FileId.{FileId}
use Rattle.pg_intent.specs.declared.intent.Intent.{Intent}
use Rattle.pg_intent.specs.declared.intent.Intent.TheVariants as intent
use Rattle.pg_store.specs.declared.store.Store.{Store}
use Rattle.pg_store.specs.declared.wishes.Wish.{Wish}
use Rattle.pg_store.specs.Store.{has_replica, is_held, replica_at}
use Rattle.pg_store.specs.Beginning.{let_go}
use Rattle.pg_intent.specs.Intent.{is_about}
use Rattle.pg_store.specs.Births.{fill_at, has_birth, is_over, is_pending, wish_at}

-- just what is held has a replica
abbrev pub AreTogether : Store → Type 0
AreTogether store = (file : FileId) → has_replica store file ≡ is_held store file

-- ---- births

-- the birth of a thing's replica, if it is held
abbrev pub birth_at : Store → FileId → Option ℕ
birth_at store file = option_map (λ x. x.birth) (replica_at store file)

-- a birth that was given out
abbrev pub IsGiven : Store → ℕ → Type 0
IsGiven store birth = (1 ≤ birth) × (birth ≤ store.births)

-- replicas, wishes, fills: their births were given out
-- wished: a wish is for what is not held and has no Fill
-- own: a Fill of what is held has the birth of its replica
pub record AreBirths (store : Store) : Type 0 where
  pub replicas : (file : FileId) (birth : ℕ)
      → birth_at store file ≡ Some birth → IsGiven store birth
  pub wishes : (file : FileId) (wish : Wish)
      → wish_at store file ≡ Some wish → IsGiven store wish.birth
  pub fills : (file f : FileId) (birth target : ℕ)
      → fill_at store file ≡ Some (intent.Fill f birth target) → IsGiven store birth
  pub wished : (file : FileId) (wish : Wish) → wish_at store file ≡ Some wish
      → (is_held store file ≡ false) × (fill_at store file ≡ None)
  pub own : (file f : FileId) (birth target : ℕ)
      → fill_at store file ≡ Some (intent.Fill f birth target)
      → is_held store file ≡ true → birth_at store file ≡ Some birth

-- a replica of this birth may begin: the thing is not held, the birth was given out, and a Fill of
-- the thing has no other
pub record MayBegin (store : Store) (file : FileId) (birth : ℕ) : Type 0 where
  pub away : is_held store file ≡ false
  pub given : IsGiven store birth
  pub fill : (f : FileId) (to_fill target : ℕ)
      → fill_at store file ≡ Some (intent.Fill f to_fill target) → to_fill ≡ birth

-- ---- changes by which nothing begins

-- held, births: the same things are held, and their replicas have the births that they had
-- given: no birth that was given out is forgotten
-- wishes, fills: no wish and no Fill came
pub record HoldsAsBefore (a b : Store) : Type 0 where
  pub held : (file : FileId) → is_held b file ≡ is_held a file
  pub births : (file : FileId) → birth_at b file ≡ birth_at a file
  pub given : a.births ≤ b.births
  pub wishes : (file : FileId) (wish : Wish)
      → wish_at b file ≡ Some wish → wish_at a file ≡ Some wish
  pub fills : (file : FileId) (i : Intent)
      → fill_at b file ≡ Some i → fill_at a file ≡ Some i

-- ---- births that are over

-- a birth of a thing is over
pub record IsOver (store : Store) (file : FileId) (birth : ℕ) : Type 0 where
  pub given : birth ≤ store.births
  pub away : has_birth store file birth ≡ false
  pub unasked : is_pending store file birth ≡ false

-- Births move one way: no birth that was given out is forgotten, and what has a birth, or is to
-- come with one, had it before, or it was given out meanwhile. So a birth that is over stays over
pub record BirthsMove (a b : Store) : Type 0 where
  pub given : a.births ≤ b.births
  pub held : (file : FileId) (birth : ℕ) → has_birth b file birth ≡ true
      → (has_birth a file birth ≡ true) ⊎ (is_pending a file birth ≡ true) ⊎ (a.births < birth)
  pub asked : (file : FileId) (birth : ℕ) → is_pending b file birth ≡ true
      → (is_pending a file birth ≡ true) ⊎ (a.births < birth)

-- there is a test for it
abbrev pub OverIsTested : Type 0
OverIsTested = (a : Store) (file : FileId) (birth : ℕ)
    → is_over a file birth ≡ true ↔ IsOver a file birth

-- so a birth that is over stays over
abbrev pub OverStaysOver : Type 0
OverStaysOver = (a b : Store) (file : FileId) (birth : ℕ) → BirthsMove a b
    → IsOver a file birth → IsOver b file birth

-- where nothing begins, births move
abbrev pub AsBeforeIsAMove : Type 0
AsBeforeIsAMove = (a b : Store) → HoldsAsBefore a b → BirthsMove a b

-- a replica goes, about which nothing is intended: its birth is over
abbrev pub GoingsEndBirths : Type 0
GoingsEndBirths = (a : Store) (file : FileId) (birth : ℕ) → AreTogether a → AreBirths a
    → birth_at a file ≡ Some birth → find (is_about file) a.intents ≡ None
    → BirthsMove a (let_go a file) × IsOver (let_go a file) file birth
