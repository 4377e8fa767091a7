-- What a content stands for: a set of versions of one history.
use Rattle.std.specs.Prelude.{◌≡◌, ◌⊎◌, ◌↔◌, All, List, [], ◌∷◌, map}
use Rattle.pg_base.specs.declared.stamp.Stamp.{Stamp}
use Rattle.pg_base.specs.Stamp.{IsBefore}
use Rattle.pg_base.specs.declared.policy.Policy.{Policy}
use Rattle.pg_base.specs.Version.{VersionValue, stamp_of}
use Rattle.pg_content.specs.Shown.{by_stamp}
use Rattle.pg_content.specs.Content.{ContentValue, Among}
use Rattle.pg_content.specs.History.{Made, IsMember, IsAncestor, IsHead, version_of, heads_of}

-- each stamp is before those behind it
abbrev pub InStrictOrder : List VersionValue → Type 0
InStrictOrder [] = Unit {0}
InStrictOrder (v ∷ vs) = All (λ w. IsBefore v.head.stamp w.head.stamp) vs × InStrictOrder vs

-- the set holds versions of the history, and the ancestors of its members
pub record IsClosed (h : List Made) (set : List Stamp) : Type 0 where
  pub members : (s : Stamp) → Among s set → IsMember h s
  pub ancestors : (s u : Stamp) → Among s set → IsAncestor h u s → Among u set

-- v is the version of the history, whole, that is a head of the set
pub record IsHeadVersion (policy : Policy) (h : List Made) (set : List Stamp) (v : VersionValue)
    : Type 0 where
  pub made : Made
  pub member : Among made h
  pub version : v ≡ version_of policy h made
  pub head : IsHead h set made.stamp

-- the content's heads are the heads of the set, each once and whole, in the order of their stamps:
-- each is one, and each member of the set is one or an ancestor of one
pub record StandsFor (c : ContentValue) (h : List Made) (set : List Stamp) : Type 0 where
  pub closed : IsClosed h set
  pub order : InStrictOrder c.heads
  pub heads : (v : VersionValue) → Among v c.heads → IsHeadVersion c.policy h set v
  pub all : (s : Stamp) → Among s set
      → (v : VersionValue) × Among v c.heads × ((s ≡ v.head.stamp) ⊎ IsAncestor h s v.head.stamp)

-- the set with the version and its ancestors
abbrev pub IsWith : List Made → List Stamp → Stamp → List Stamp → Type 0
IsWith h old s new = (t : Stamp) → Among t new ↔ (Among t old ⊎ ((t ≡ s) ⊎ IsAncestor h t s))

-- the content of a set of versions: its heads, whole, in the order of their stamps
abbrev pub content_of : Policy → List Made → List Stamp → ContentValue
content_of policy h set = record {
  policy = policy;
  heads = by_stamp stamp_of (map (version_of policy h) (heads_of h set));
}
