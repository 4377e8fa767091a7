-- What saving makes of both slots.
use Rattle.std.proofs.Common.{◌≡◌, ◌⊎◌, inl, inr, ℕ, ◌+◌, ◌-◌, ◌<◌, ◌≤◌, ◌^◌, List, length, drop, Option, Some, Result, refl, sym, ◌∙◌, ap, subst, arith}
use Rattle.pg_disk.specs.Disk.{Step, contents, IsImage, IsSettled}
use Rattle.pg_disk.specs.Told.{Event, Told, steps_of, steps, given}
use Rattle.pg_disk.specs.Synced.{KeepsOthers}
use Rattle.pg_disk.proofs.Growing.{later-none, same_between}
use Rattle.pg_checkpoint.specs.Slots.{Slot, IsSlot, IsEmpty}
use Rattle.pg_checkpoint.specs.Loads.{LoadsTo, number_of, next, LoadsOldOrNew}
use Rattle.pg_checkpoint.specs.Saves.{Loads, AreSettled, SlotsLeave, IsFull, KeepsRest}
use Rattle.pg_checkpoint.specs.Heads.{CountsAs, Goes, IsReplaced}
use Rattle.pg_checkpoint.proofs.Counts.{is_number, number_first, number_second, some_was, first_new, second_new, first_written, second_written}

module _ (file other : ℕ) (old new : Told) (keeps : KeepsOthers file old new) (another : other ≡ file → ⊥) where
  abbrev steps_then : List Event → List Step
  steps_then h = steps_of old.chosen other h

  steps_stay : steps_then new.history ≡ steps_then old.history
  steps_stay = keeps.others old.chosen other (λ is. another is.1)

  other_given : given new other ≡ given old other
  other_given = ap (λ (name : List ℕ). contents (steps_of name other new.history)) keeps.chosen ∙ ap contents steps_stay

  other_settled : IsSettled (steps old other) → IsSettled (steps new other)
  other_settled settled = subst IsSettled (sym (ap (λ (name : List ℕ). steps_of name other new.history) keeps.chosen ∙ steps_stay)) settled

  other_stays : (ago : ℕ) → ago + length old.history ≤ length new.history → steps_then (drop ago new.history) ≡ steps_then old.history
  other_stays = same_between old.chosen other old.history new.history keeps.no_fewer keeps.later steps_stay

-- nothing was written
pub slots_started : (old : Told) (P : List ℕ → List ℕ → Type 0) → AreSettled old → P (given old 1) (given old 2) → SlotsLeave old old P
slots_started old P settled here = record {
  no_fewer = omega arith;
  later = later-none old.history;
  each = λ ago fewer first second is_first is_second.
      let none : ago ≡ 0 = omega (arith, fewer) in
      let now : (file : ℕ) (image : List ℕ) → IsImage (steps_of old.chosen file (drop ago old.history)) image → IsImage (steps old file) image =
      λ file image is. subst (λ (k : ℕ). IsImage (steps_of old.chosen file (drop k old.history)) image) none is in
      subst (λ (l : List ℕ). P l second) (sym (settled.first first (now 1 first is_first)))
      (subst (λ (l : List ℕ). P (given old 1) l) (sym (settled.second second (now 2 second is_second))) here);
}

module _ {E : Type 0} (result : Result (Unit {0}) E) (slot : Slot) (old new : Told) (P : List ℕ → List ℕ → Type 0) (settled : AreSettled old) where
  abbrev Among : List ℕ → List ℕ → Type 0
  Among file image = (image ≡ file) ⊎ (IsEmpty image ⊎ IsSlot image slot)

  first_leaves : KeepsOthers 1 old new → IsReplaced result 1 slot old new → ((image : List ℕ) → Among (given old 1) image → P image (given old 2)) → SlotsLeave old new P
  first_leaves keeps replaced each =
      let leaves = replaced.moments settled.first in
      record {
        no_fewer = leaves.no_fewer;
        later = leaves.later;
        each = λ ago fewer first second is_first is_second.
            let stays = other_stays 1 2 old new keeps (λ (e : 2 ≡ 1). omega arith) ago fewer in
            let is : second ≡ given old 2 = settled.second second (subst (λ (s : List Step). IsImage s second) stays is_second) in
            subst (λ (l : List ℕ). P first l) (sym is) (each first (leaves.each ago fewer first is_first));
      }

  second_leaves : KeepsOthers 2 old new → IsReplaced result 2 slot old new → ((image : List ℕ) → Among (given old 2) image → P (given old 1) image) → SlotsLeave old new P
  second_leaves keeps replaced each =
      let leaves = replaced.moments settled.second in
      record {
        no_fewer = leaves.no_fewer;
        later = leaves.later;
        each = λ ago fewer first second is_first is_second.
            let stays = other_stays 2 1 old new keeps (λ (e : 1 ≡ 2). omega arith) ago fewer in
            let is : first ≡ given old 1 = settled.first first (subst (λ (s : List Step). IsImage s first) stays is_first) in
            subst (λ (l : List ℕ). P l second) (sym is) (each second (leaves.each ago fewer second is_second));
      }

-- only that file changes, so the rest stays
pub keeps_rest : (old new : Told) (m n file number : ℕ) → Goes m n file number → KeepsOthers file old new → KeepsRest old new
keeps_rest old new m n file number (inl goes) keeps = record {
  chosen = keeps.chosen;
  no_fewer = keeps.no_fewer;
  later = keeps.later;
  others = λ name other outside. keeps.others name other (λ is. outside (is.0, inr (is.1 ∙ goes.1)));
}
keeps_rest old new m n file number (inr goes) keeps = record {
  chosen = keeps.chosen;
  no_fewer = keeps.no_fewer;
  later = keeps.later;
  others = λ name other outside. keeps.others name other (λ is. outside (is.0, inl (is.1 ∙ goes.1)));
}

pub keeps_all : (old : Told) → KeepsRest old old
keeps_all old = record { chosen = refl; no_fewer = omega arith; later = later-none old.history; others = λ name file outside. refl }

pub now_settled : (old new : Told) (m n file number : ℕ) → Goes m n file number → KeepsOthers file old new → IsSettled (steps new file) → AreSettled old → AreSettled new
now_settled old new m n file number (inl goes) keeps here settled =
    let keeps_2 = subst (λ (f : ℕ). KeepsOthers f old new) goes.1 keeps in
    record { first = other_settled 2 1 old new keeps_2 (λ (e : 1 ≡ 2). omega arith) settled.first; second = subst (λ (f : ℕ). IsSettled (steps new f)) goes.1 here }
now_settled old new m n file number (inr goes) keeps here settled =
    let keeps_1 = subst (λ (f : ℕ). KeepsOthers f old new) goes.1 keeps in
    record { first = subst (λ (f : ℕ). IsSettled (steps new f)) goes.1 here; second = other_settled 1 2 old new keeps_1 (λ (e : 2 ≡ 1). omega arith) settled.second }

module _ (old : Told) (m n : ℕ) (first : CountsAs (given old 1) m) (second : CountsAs (given old 2) n) where
  pub not_full : (file number : ℕ) → Goes m n file number → number < 2 ^ 64 → IsFull old → ⊥
  not_full file number (inl goes) small full = elim full.1 [
    | inl is ↦ let same = is_number (given old 1) m first full.0 is in let top = full.2 in omega (arith, goes.0, goes.2)
    | inr is ↦ let same = is_number (given old 2) n second full.0 is in let top = full.2 in omega (arith, goes.0, goes.2)
  ]
  not_full file number (inr goes) small full = elim full.1 [
    | inl is ↦ let same = is_number (given old 1) m first full.0 is in let top = full.2 in omega (arith, goes.0, goes.2)
    | inr is ↦ let same = is_number (given old 2) n second full.0 is in let top = full.2 in omega (arith, goes.0, goes.2)
  ]

  full_by : (file : List ℕ) (k : ℕ) → CountsAs file k → k ≡ 2 ^ 64 - 1 → (slot : Slot) × IsSlot file slot × (slot.number ≡ 2 ^ 64 - 1)
  full_by file k (inl empty) top = absurd (let none = empty.1 in omega arith)
  full_by file k (inr is) top = (is.0, is.1, is.2 ∙ top)

  pub is_full : (m ≡ 2 ^ 64 - 1) ⊎ (n ≡ 2 ^ 64 - 1) → IsFull old
  is_full (inl top) = let is = full_by (given old 1) m first top in (is.0, inl is.1, is.2)
  is_full (inr top) = let is = full_by (given old 2) n second top in (is.0, inr is.1, is.2)

  module _ (new : Told) (file number folded : ℕ) (state : List ℕ) where
    abbrev made : Slot
    made = record { number = number; folded = folded; state = state }

    is_next : (was : Option Slot) → number ≡ number_of was + 1 → made ≡ next was folded state
    is_next was same = ap (λ (k : ℕ). record { number = k; folded = folded; state = state }) same

    -- at each moment
    pub slots_leave : {E : Type 0} (result : Result (Unit {0}) E) → Goes m n file number → KeepsOthers file old new → IsReplaced result file made old new → AreSettled old
        → (was : Option Slot) → Loads old was → SlotsLeave old new (LoadsOldOrNew was (next was folded state))
    slots_leave result (inl goes) keeps replaced settled was is =
        let same = is_next was (goes.2 ∙ ap (λ (k : ℕ). k + 1) (sym (number_first (given old 1) (given old 2) m n first second goes.0 was is))) in
        subst (λ (s : Slot). SlotsLeave old new (LoadsOldOrNew was s)) same
        (second_leaves result made old new (LoadsOldOrNew was made) settled (subst (λ (f : ℕ). KeepsOthers f old new) goes.1 keeps)
        (subst (λ (f : ℕ). IsReplaced result f made old new) goes.1 replaced)
        (second_written (given old 1) (given old 2) m n first second made goes.0 goes.2 was is))
    slots_leave result (inr goes) keeps replaced settled was is =
        let same = is_next was (goes.2 ∙ ap (λ (k : ℕ). k + 1) (sym (number_second (given old 1) (given old 2) m n first second goes.0 was is))) in
        subst (λ (s : Slot). SlotsLeave old new (LoadsOldOrNew was s)) same
        (first_leaves result made old new (LoadsOldOrNew was made) settled (subst (λ (f : ℕ). KeepsOthers f old new) goes.1 keeps)
        (subst (λ (f : ℕ). IsReplaced result f made old new) goes.1 replaced)
        (first_written (given old 1) (given old 2) m n first second made goes.0 goes.2 was is))

    -- and once it is done
    pub now_loads : Goes m n file number → KeepsOthers file old new → IsSlot (given new file) made → (was : Option Slot) × Loads old was × Loads new (Some (next was folded state))
    now_loads (inl goes) keeps slot =
        let was = some_was (given old 1) (given old 2) m n first second (inl goes.0) in
        let same = is_next was.0 (goes.2 ∙ ap (λ (k : ℕ). k + 1) (sym (number_first (given old 1) (given old 2) m n first second goes.0 was.0 was.1))) in
        let kept = other_given 2 1 old new (subst (λ (f : ℕ). KeepsOthers f old new) goes.1 keeps) (λ (e : 1 ≡ 2). omega arith) in
        let there = subst (λ (f : ℕ). IsSlot (given new f) made) goes.1 slot in (
          was.0,
          was.1,
          subst (λ (s : Slot). Loads new (Some s)) same (subst (λ (l : List ℕ). LoadsTo l (given new 2) (Some made)) (sym kept)
              (second_new (given old 1) (given old 2) m n first second made goes.2 (given new 2) there)),
        )
    now_loads (inr goes) keeps slot =
        let was = some_was (given old 1) (given old 2) m n first second (inr goes.0) in
        let same = is_next was.0 (goes.2 ∙ ap (λ (k : ℕ). k + 1) (sym (number_second (given old 1) (given old 2) m n first second goes.0 was.0 was.1))) in
        let kept = other_given 1 2 old new (subst (λ (f : ℕ). KeepsOthers f old new) goes.1 keeps) (λ (e : 2 ≡ 1). omega arith) in
        let there = subst (λ (f : ℕ). IsSlot (given new f) made) goes.1 slot in (
          was.0,
          was.1,
          subst (λ (s : Slot). Loads new (Some s)) same (subst (λ (l : List ℕ). LoadsTo (given new 1) l (Some made)) (sym kept)
              (first_new (given old 1) (given old 2) m n first second made goes.2 (given new 1) there)),
        )
