-- How a run of calls goes on, of which each moment is to leave only what has P.
use Rattle.std.proofs.Common.{◌≡◌, inl, inr, ℕ, zero, suc, ◌+◌, ◌-◌, ◌≤◌, List, ◌∷◌, length, drop, sym, ◌∙◌, ap, subst, arith}
use Rattle.std.proofs.lemmas.Bool.{cases_lt}
use Rattle.std.proofs.lemmas.List.{drop-drop}
use Rattle.pg_disk.specs.Disk.{IsImage}
use Rattle.pg_disk.specs.Told.{Event, Told, steps_of, steps}
use Rattle.pg_disk.specs.Moments.{LeavesOnly, LeavesSince}
use Rattle.pg_disk.specs.Synced.{KeepsOthers}
use Rattle.pg_disk.proofs.Growing.{later-none, later-more, later-then, untouched_leaves}

module _ (name : List ℕ) (file : ℕ) (P : List ℕ → Type 0) where
  abbrev Leaves : List Event → List Event → Type 0
  Leaves old new = LeavesOnly name file old new P

  abbrev HasImages : List Event → Type 0
  HasImages history = (image : List ℕ) → IsImage (steps_of name file history) image → P image

  here_only : (old : List Event) → HasImages old → (ago : ℕ) → ago + length old ≤ length old → HasImages (drop ago old)
  here_only old here zero fewer = here
  here_only old here (suc ago) fewer = absurd (omega arith)

  -- before the first call
  pub leaves_started : (old : List Event) → HasImages old → Leaves old old
  leaves_started old here = record {
    no_fewer = omega arith;
    later = later-none old;
    each = here_only old here;
  }

  one_more : (old mid : List Event) (event : Event) → Leaves old mid → HasImages (event ∷ mid) → (ago : ℕ) → ago + length old ≤ length (event ∷ mid) → HasImages (drop ago (event ∷ mid))
  one_more old mid event so_far here zero fewer = here
  one_more old mid event so_far here (suc ago) fewer = so_far.each ago (omega arith)

  -- one step more
  pub leaves_more : (old mid : List Event) (event : Event) → Leaves old mid → HasImages (event ∷ mid) → Leaves old (event ∷ mid)
  leaves_more old mid event so_far here = record {
    no_fewer = omega (arith, so_far.no_fewer);
    later = later-more old mid event so_far.no_fewer so_far.later;
    each = one_more old mid event so_far here;
  }

-- one run of calls behind another
pub leaves_then : (name : List ℕ) (file : ℕ) (P : List ℕ → Type 0) (old mid new : List Event) → LeavesOnly name file old mid P → LeavesOnly name file mid new P → LeavesOnly name file old new P
leaves_then name file P old mid new first second = record {
  no_fewer = omega (arith, first.no_fewer, second.no_fewer);
  later = later-then old mid new first.no_fewer first.later second.no_fewer second.later;
  each = λ ago fewer. elim (cases_lt (length new) (ago + length mid)) [
    | inl before ↦
        let shift : ago ≡ behind + (ago - behind) = omega (arith, before, second.no_fewer) in
        let reached : drop ago new ≡ drop (ago - behind) mid = ap (λ (k : ℕ). drop k new) shift ∙ earlier (ago - behind) in
        subst (λ (h : List Event). (image : List ℕ) → IsImage (steps_of name file h) image → P image) (sym reached)
        (first.each (ago - behind) (omega (arith, fewer, before, second.no_fewer)))
    | inr since ↦ second.each ago since
  ];
}
  where
    behind : ℕ
    behind = length new - length mid

    earlier : (k : ℕ) → drop (behind + k) new ≡ drop k mid
    earlier k = sym (drop-drop k behind new) ∙ ap (λ (h : List Event). drop k h) second.later

-- what has P has Q
pub leaves_weaker : (name : List ℕ) (file : ℕ) (P Q : List ℕ → Type 0) (old new : List Event) → ((image : List ℕ) → P image → Q image) → LeavesOnly name file old new P → LeavesOnly name file old new Q
leaves_weaker name file P Q old new weaker leaves = record {
  no_fewer = leaves.no_fewer;
  later = leaves.later;
  each = λ ago fewer image is. weaker image (leaves.each ago fewer image is);
}

-- Two runs of calls on the same chosen name, of which the second leaves what the first left.
pub leaves_since_then : (file changed : ℕ) (P : List ℕ → Type 0) (old mid new : Told) → KeepsOthers changed old mid → LeavesSince file old mid P → LeavesSince file mid new P → LeavesSince file old new P
leaves_since_then file changed P old mid new keeps first second =
    leaves_then old.chosen file P old.history mid.history new.history first
    (subst (λ (name : List ℕ). LeavesOnly name file mid.history new.history P) keeps.chosen second)

-- a run of calls on another file
pub leaves_others : (file changed : ℕ) (P : List ℕ → Type 0) (old new : Told) → KeepsOthers changed old new → (file ≡ changed → ⊥) → ((image : List ℕ) → IsImage (steps old file) image → P image)
    → LeavesSince file old new P
leaves_others file changed P old new keeps another here =
    untouched_leaves old.chosen file P old.history new.history keeps.no_fewer keeps.later (keeps.others old.chosen file (λ is. another is.1)) here

pub keeps_then : (file : ℕ) (old mid new : Told) → KeepsOthers file old mid → KeepsOthers file mid new → KeepsOthers file old new
keeps_then file old mid new first second = record {
  chosen = second.chosen ∙ first.chosen;
  no_fewer = omega (arith, first.no_fewer, second.no_fewer);
  later = later-then old.history mid.history new.history first.no_fewer first.later second.no_fewer second.later;
  others = λ name other another. second.others name other (λ is. another (is.0 ∙ first.chosen, is.1)) ∙ first.others name other another;
}
