-- The history of one file: the versions as they were made. What a version is, and which are shown,
-- is read from it alone.
use Rattle.std.specs.Prelude.{ℕ, Bool, false, ◌≡◌, ◌^◌, ◌<◌, ◌⊎◌, ◌==◌, ◌&&◌, if◌then◌else◌, List, [], ◌∷◌, map, ◌||◌, not, filter}
use Rattle.std.specs.List.{list_any}
use Rattle.pg_base.specs.declared.stamp.Stamp.{Stamp}
use Rattle.pg_base.specs.declared.vector.Actor.{Actor}
use Rattle.pg_base.specs.Vector.{number_at}
use Rattle.pg_patch.specs.Ranges.{RangesValue, applied}
use Rattle.pg_base.specs.declared.policy.Policy.{Policy}
use Rattle.pg_base.specs.Version.{VersionValue}
use Rattle.pg_content.specs.Shown.{shown}
use Rattle.pg_content.specs.Content.{Among, joined_all, one_more, version_with}

-- a version as it was made: its stamp, its maker's birth, the stamps of the versions on which it is
-- based, and what it makes of what they show
pub record Made : Type 0 where
  pub stamp : Stamp
  pub birth : ℕ
  pub bases : List Stamp
  pub ranges : RangesValue

-- the replica that made it
abbrev pub maker : Made → Actor
maker m = record { server = m.stamp.server; birth = m.birth }

abbrev pub is_same_stamp : Stamp → Stamp → Bool
is_same_stamp s t = s.time == t.time && s.server == t.server

-- the history has a version of this stamp
abbrev pub IsMember : List Made → Stamp → Type 0
IsMember [] s = ⊥
IsMember (m ∷ h) s = (s ≡ m.stamp) ⊎ IsMember h s

-- in a history, the latest first: one or more steps from a version to one of its bases lead from v
-- to u
abbrev pub IsAncestor : List Made → Stamp → Stamp → Type 0
IsAncestor [] u v = ⊥
IsAncestor (m ∷ h) u v =
    ((v ≡ m.stamp) × (b : Stamp) × Among b m.bases × ((u ≡ b) ⊎ IsAncestor h u b))
    ⊎ IsAncestor h u v

-- the vector of the version of that stamp: what its bases know, and one more of its maker
abbrev pub vector_of : List Made → Stamp → List (Actor × ℕ)
vector_of [] s = []
vector_of (m ∷ h) s =
    if is_same_stamp s m.stamp
    then one_more (joined_all (map (vector_of h) m.bases)) (maker m)
    else vector_of h s

-- its body: what its ranges make of what its bases show
abbrev pub body_of : Policy → List Made → Stamp → List ℕ
body_of policy [] s = []
body_of policy (m ∷ h) s =
    if is_same_stamp s m.stamp
    then applied (shown policy (map (λ b. (b, body_of policy h b)) m.bases)) m.ranges
    else body_of policy h s

-- the number of a version: what its vector has at its maker
abbrev pub number_of : List Made → Made → ℕ
number_of h m = number_at (vector_of h m.stamp) (maker m)

-- the whole version
abbrev pub version_of : Policy → List Made → Made → VersionValue
version_of policy h m =
    version_with m.stamp (maker m) (vector_of h m.stamp) (body_of policy h m.stamp)

-- m may be made after h: no version has its stamp, its bases were made before, each earlier version
-- of its maker is one of its bases or an ancestor of one, and its numbers have their widths
pub record IsNext (h : List Made) (m : Made) : Type 0 where
  pub fresh : IsMember h m.stamp → ⊥
  pub bases : (b : Stamp) → Among b m.bases → IsMember h b
  pub own : (e : Made) → Among e h → maker e ≡ maker m
      → (b : Stamp) × Among b m.bases × ((e.stamp ≡ b) ⊎ IsAncestor h e.stamp b)
  pub server : m.stamp.server < 2 ^ 32
  pub birth : m.birth < 2 ^ 64
  pub number : number_at (joined_all (map (vector_of h) m.bases)) (maker m) < 2 ^ 63

-- each version may be made after those before it
abbrev pub IsHistory : List Made → Type 0
IsHistory [] = Unit {0}
IsHistory (m ∷ h) = IsNext h m × IsHistory h

-- s is one of a set of versions, and an ancestor of no other of them
abbrev pub IsHead : List Made → List Stamp → Stamp → Type 0
IsHead h set s = Among s set × ((t : Stamp) → Among t set → IsAncestor h s t → ⊥)

-- ---- the same as tests

-- whether u is an ancestor of v
abbrev pub is_ancestor : List Made → Stamp → Stamp → Bool
is_ancestor [] u v = false
is_ancestor (m ∷ h) u v =
    (is_same_stamp v m.stamp && list_any (λ b. is_same_stamp u b || is_ancestor h u b) m.bases)
    || is_ancestor h u v

-- whether s is one of the set
abbrev pub is_among : List Stamp → Stamp → Bool
is_among set s = list_any (is_same_stamp s) set

-- whether s is one of the set, and an ancestor of no other of it
abbrev pub is_head : List Made → List Stamp → Stamp → Bool
is_head h set s = is_among set s && not (list_any (is_ancestor h s) set)

-- the heads of a set of versions, the latest first
abbrev pub heads_of : List Made → List Stamp → List Made
heads_of h set = filter (λ m. is_head h set m.stamp) h
