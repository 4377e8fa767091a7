-- Covering: what one vector, or one content's heads, know of what others know.
use Rattle.std.specs.Prelude.{ℕ, ◌≡◌, ◌≤◌, List}
use Rattle.pg_base.specs.declared.vector.Actor.{Actor}
use Rattle.pg_base.specs.Vector.{number_at}
use Rattle.pg_base.specs.declared.policy.Policy.{Policy}
use Rattle.pg_base.specs.Version.{VersionValue}
use Rattle.pg_content.specs.Content.{Among}
use Rattle.pg_content.specs.History.{Made, version_of}

-- at each actor the second has the first's number or a greater one
abbrev pub IsVectorUpTo : List (Actor × ℕ) → List (Actor × ℕ) → Type 0
IsVectorUpTo xs ys = (a : Actor) → number_at xs a ≤ number_at ys a

-- the vector is up to that of one of the heads
abbrev pub IsUpToHead : List (Actor × ℕ) → List VersionValue → Type 0
IsUpToHead vector heads = (w : VersionValue) × Among w heads × IsVectorUpTo vector w.head.vector

-- each of the first has a vector that is up to that of one of the second
abbrev pub AreCoveredBy : List VersionValue → List VersionValue → Type 0
AreCoveredBy vs ws = (v : VersionValue) → Among v vs → IsUpToHead v.head.vector ws

-- each is a version of the history, whole
abbrev pub AreVersionsOf : Policy → List Made → List VersionValue → Type 0
AreVersionsOf policy h vs =
    (v : VersionValue) → Among v vs → (m : Made) × Among m h × (v ≡ version_of policy h m)
