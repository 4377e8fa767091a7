-- What is looked up of heads in place of going over them.
use Rattle.std.specs.Prelude.{ℕ, Bool, false, ◌≡◌, ◌<◌, ◌&&◌, All, nat_le, List, Option, None, Some}
use Rattle.std.specs.List.{list_any}
use Rattle.std.specs.Map.{lookup}
use Rattle.std.specs.Ordering.{eq_by_cmp}
use Rattle.std.specs.BTreeMap.{is_at}
use Rattle.pg_base.specs.declared.vector.Actor.{Actor}
use Rattle.pg_base.specs.Vector.{IsVector, actor_cmp}
use Rattle.pg_base.specs.Version.{VersionValue, actor_of}
use Rattle.pg_content.specs.Content.{join_of}

-- what all heads know, and the least number of each actor's heads
pub record IndexValue : Type 0 where
  pub known : List (Actor × ℕ)
  pub least : List (Actor × ℕ)

-- there is a number, of n or less
abbrev pub has_upto : Option ℕ → ℕ → Bool
has_upto None n = false
has_upto (Some m) n = nat_le m n

-- of least numbers by actor: that of the entry's actor is the entry's number or less
abbrev pub covers_least : List (Actor × ℕ) → Actor × ℕ → Bool
covers_least least e = has_upto (lookup (is_at (actor_cmp e.0)) least) e.1

-- the entry is the actor's, and its number is that number or more
abbrev pub is_from : Actor → ℕ → Actor × ℕ → Bool
is_from actor number e = eq_by_cmp actor_cmp e.0 actor && nat_le number e.1

-- the entry covers the version
abbrev pub covers_by_entry : Actor × ℕ → VersionValue → Bool
covers_by_entry e v = is_from (actor_of v.head) v.head.number e

-- what the type of versions keeps of each: its vector is one, and its number is above 0
pub record IsSound (v : VersionValue) : Type 0 where
  pub vector : IsVector v.head.vector
  pub some : 0 < v.head.number

-- the index of these heads: what all of them know, and least numbers that tell which entries cover
-- one of them
pub record IsIndex (i : IndexValue) (heads : List VersionValue) : Type 0 where
  pub sound : All IsSound heads
  pub all : i.known ≡ join_of heads
  pub some : (e : Actor × ℕ) → covers_least i.least e ≡ list_any (covers_by_entry e) heads
