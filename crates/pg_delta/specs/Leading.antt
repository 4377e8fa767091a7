-- What deltas lead to, by the history.
use Rattle.std.specs.Prelude.{ℕ, ◌≡◌, List, map}
use Rattle.pg_base.specs.declared.policy.Policy.{Policy}
use Rattle.pg_base.specs.declared.stamp.Stamp.{Stamp}
use Rattle.pg_patch.specs.Ranges.{applied}
use Rattle.pg_content.specs.Content.{Among}
use Rattle.pg_content.specs.History.{IsMember, Made, body_of}
use Rattle.pg_content.specs.Shown.{shown}
use Rattle.pg_delta.specs.declared.delta.KeptDelta.{KeptDelta}

-- what the versions of these stamps show
abbrev pub shown_of : Policy → List Made → List Stamp → List ℕ
shown_of policy h stamps = shown policy (map (λ s. (s, body_of policy h s)) stamps)

-- the delta speaks of versions of the history, and makes the body of the one of what the others
-- show
pub record IsTrueDelta (policy : Policy) (h : List Made) (d : KeptDelta) : Type 0 where
  pub from : (s : Stamp) → Among s d.from → IsMember h s
  pub to : IsMember h d.to
  pub body : applied (shown_of policy h d.from) d.ranges ≡ body_of policy h d.to

abbrev pub AreTrueDeltas : Policy → List Made → List KeptDelta → Type 0
AreTrueDeltas policy h deltas = (d : KeptDelta) → Among d deltas → IsTrueDelta policy h d
