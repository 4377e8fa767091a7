-- Contents of files: the heads, what they show, and what a join and a write make of them.
use Rattle.std.specs.Prelude.{ℕ, Bool, ◌≡◌, ◌+◌, ◌<◌, ◌≤◌, ◌⊎◌, All, if◌then◌else◌, nat_le, not, List, [], ◌∷◌, ◌++◌, filter, fold, length, map, Option, None, Some}
use Rattle.std.specs.List.{list_any}
use Rattle.std.specs.Ordering.{eq_by_cmp}
use Rattle.pg_base.specs.declared.stamp.Stamp.{Stamp}
use Rattle.pg_base.specs.declared.vector.Actor.{Actor}
use Rattle.pg_base.specs.Stamp.{UpTo, stamp_cmp}
use Rattle.pg_base.specs.Vector.{number_at, raised, joined, Covers}
use Rattle.pg_patch.specs.Ranges.{RangesValue, applied}
pub use Rattle.pg_patch.specs.Ranges.{body_limit}
use Rattle.pg_base.specs.declared.policy.Policy.{Policy}
use Rattle.pg_base.specs.Version.{VersionValue, actor_of, stamp_of}
use Rattle.pg_content.specs.Shown.{inserted, shown}

pub record ContentValue : Type 0 where
  pub policy : Policy
  pub heads : List VersionValue

-- a content that may not be there yet: without one, no version
abbrev pub or_empty : Policy → Option ContentValue → ContentValue
or_empty policy None = record { policy = policy; heads = [] }
or_empty policy (Some c) = c

-- no stamp comes after a later one
abbrev pub InStampOrder : List VersionValue → Type 0
InStampOrder [] = Unit {0}
InStampOrder (v ∷ vs) = All (λ w. UpTo v.head.stamp w.head.stamp) vs × InStampOrder vs

-- it is one of them
abbrev pub Among : {A : Type 0} → A → List A → Type 0
Among x [] = ⊥
Among x (y ∷ ys) = (x ≡ y) ⊎ Among x ys

-- some head's vector has at least that number at the actor
abbrev pub is_covered : List VersionValue → Actor → ℕ → Bool
is_covered heads actor number = list_any (λ v. nat_le number (number_at v.head.vector actor)) heads

-- the same as a fact
abbrev pub IsCovered : List VersionValue → Actor → ℕ → Type 0
IsCovered heads actor number =
    (v : VersionValue) × Among v heads × Covers v.head.vector actor number

-- the vector has at least the version's number at the version's actor
abbrev pub covers_version : List (Actor × ℕ) → VersionValue → Bool
covers_version vector v = nat_le v.head.number (number_at vector (actor_of v.head))

-- the version in its order by stamp, less the heads that its vector covers
abbrev pub put_version : List VersionValue → VersionValue → List VersionValue
put_version heads v = inserted stamp_of v (filter (λ h. not (covers_version v.head.vector h)) heads)

-- a version that is covered changes nothing; any other becomes a head
abbrev pub joined_version : List VersionValue → VersionValue → List VersionValue
joined_version heads v =
    if is_covered heads (actor_of v.head) v.head.number then heads else put_version heads v

abbrev pub joined_content : ContentValue → VersionValue → ContentValue
joined_content c v = record { policy = c.policy; heads = joined_version c.heads v }

-- the same content with other heads
abbrev pub with_heads : ContentValue → List VersionValue → ContentValue
with_heads c heads = record { policy = c.policy; heads = heads }

-- the first head of the stamp, if there is one
abbrev pub head_at : List VersionValue → Stamp → Option VersionValue
head_at [] stamp = None
head_at (v ∷ vs) stamp = if eq_by_cmp stamp_cmp stamp v.head.stamp then Some v else head_at vs stamp

-- the bodies one after another
abbrev pub bodies_of : List VersionValue → List ℕ
bodies_of [] = []
bodies_of (v ∷ vs) = v.body ++ bodies_of vs

-- what is shown of the heads
abbrev pub shown_bytes : ContentValue → List ℕ
shown_bytes c = shown c.policy (map (λ v. (v.head.stamp, v.body)) c.heads)

-- what all of them know
abbrev pub joined_all : List (List (Actor × ℕ)) → List (Actor × ℕ)
joined_all vectors = fold joined [] vectors

-- what all these versions know
abbrev pub join_of : List VersionValue → List (Actor × ℕ)
join_of versions = joined_all (map (λ v. v.head.vector) versions)

-- one more at the actor
abbrev pub one_more : List (Actor × ℕ) → Actor → List (Actor × ℕ)
one_more vector actor = raised vector actor (number_at vector actor + 1)

-- the vector of the next version of the actor
abbrev pub next_vector : List VersionValue → Actor → List (Actor × ℕ)
next_vector heads actor = one_more (join_of heads) actor

-- a version of such a vector and body
abbrev pub version_with : Stamp → Actor → List (Actor × ℕ) → List ℕ → VersionValue
version_with stamp actor vector body = record {
  head = record {
    stamp = stamp;
    birth = actor.birth;
    number = number_at vector actor;
    vector = vector;
    length = length body;
  };
  body = body;
}

-- the version that the actor makes with these ranges: all heads are its bases
abbrev pub next_version : ContentValue → Actor → Stamp → RangesValue → VersionValue
next_version c actor stamp ranges =
    version_with stamp actor (next_vector c.heads actor) (applied (shown_bytes c) ranges)

-- how long its body is
abbrev pub next_length : ContentValue → RangesValue → ℕ
next_length c ranges = length (applied (shown_bytes c) ranges)

-- that version is the only head
abbrev pub written : ContentValue → Actor → Stamp → RangesValue → ContentValue
written c actor stamp ranges = with_heads c (next_version c actor stamp ranges ∷ [])

-- the most actors of a vector
abbrev pub actor_limit : ℕ
actor_limit = 256

-- the next version's body is longer than a body may be, or it is not
abbrev pub IsTooLong : ContentValue → RangesValue → Type 0
IsTooLong c ranges = body_limit < next_length c ranges

abbrev pub IsShort : ContentValue → RangesValue → Type 0
IsShort c ranges = next_length c ranges ≤ body_limit

-- the next version's vector has more actors than a vector may have, or it has not
abbrev pub HasManyActors : List VersionValue → Actor → Type 0
HasManyActors heads actor = actor_limit < length (next_vector heads actor)

abbrev pub HasFewActors : List VersionValue → Actor → Type 0
HasFewActors heads actor = length (next_vector heads actor) ≤ actor_limit
