-- What a call that changes a file, and a sync behind it, do to what is told.
use Rattle.std.proofs.Common.{◌≡◌, inl, inr, ℕ, ◌==◌, ◌&&◌, Bool, true, false, true≢false, List, ◌∷◌, Result, Ok, Err, IsErr, refl, sym, ◌∙◌, ap, subst, bytes_eq, if◌then◌else◌, arith}
use Rattle.std.specs.Cmp.Lexicographic.{same_text}
use Rattle.std.specs.Cmp.{unsigned_Decides}
use Rattle.std.proofs.lemmas.Cmp.{nat_list_eq_equiv}
use Rattle.pg_disk.specs.Disk.{Change, Step, Done, Failing, Write, Cut, Sync, changed, contents, MayMake, IsImage, IsSettled}
use Rattle.pg_disk.specs.Told.{Told, steps_of, steps, given, with_step, IsTried}
use Rattle.pg_disk.specs.Moments.{LeavesOnly}
use Rattle.pg_disk.specs.Synced.{IsAnother, KeepsOthers, IsSynced}
use Rattle.pg_disk.specs.Images.{done_is_made, none_is_made}
use Rattle.pg_disk.proofs.Growing.{later-none, later-more}
use Rattle.pg_disk.proofs.Moments.{leaves_started, leaves_more}

true_and : (a b : Bool) → a ≡ true → b ≡ true → (a && b) ≡ true
true_and true b h k = k
true_and false b h k = absurd (true≢false (sym h))

own_test : (name : List ℕ) (file : ℕ) → (bytes_eq name name && (file == file)) ≡ true
own_test name file = true_and (bytes_eq name name) (file == file) (nat_list_eq_equiv.refl name) ((unsigned_Decides file file).1 refl)

pick : (test : Bool) (step : Step) (rest : List Step) → test ≡ true → (if test then step ∷ rest else rest) ≡ step ∷ rest
pick true step rest is = refl
pick false step rest is = absurd (true≢false (sym is))

skip : (test : Bool) (step : Step) (rest : List Step) → (test ≡ true → ⊥) → (if test then step ∷ rest else rest) ≡ rest
skip true step rest is_not = absurd (is_not refl)
skip false step rest is_not = refl

-- the file has the step
pub own_step : (told : Told) (file : ℕ) (step : Step) → steps (with_step told file step) file ≡ step ∷ steps told file
own_step told file step = pick (bytes_eq told.chosen told.chosen && (file == file)) step (steps told file) (own_test told.chosen file)

both : (a b : Bool) → (a && b) ≡ true → (a ≡ true) × (b ≡ true)
both true b h = (refl, h)
both false b h = absurd (true≢false (sym h))

-- no other file has it
pub other_step : (told : Told) (file : ℕ) (step : Step) (name : List ℕ) (other : ℕ) → IsAnother name other told.chosen file → steps_of name other (with_step told file step).history ≡ steps_of name other told.history
other_step told file step name other another =
    skip (bytes_eq told.chosen name && (file == other)) step (steps_of name other told.history)
    (λ is. let parts = both (bytes_eq told.chosen name) (file == other) is in
    another (sym (same_text told.chosen name (sym parts.0)), sym ((unsigned_Decides file other).0 parts.1)))

pub keeps_none : (file : ℕ) (told : Told) → KeepsOthers file told told
keeps_none file told = record { chosen = refl; no_fewer = omega arith; later = later-none told.history; others = λ name other another. refl }

pub keeps_step : (file : ℕ) (old mid : Told) (step : Step) → KeepsOthers file old mid → KeepsOthers file old (with_step mid file step)
keeps_step file old mid step so_far = record {
  chosen = so_far.chosen;
  no_fewer = omega (arith, so_far.no_fewer);
  later = later-more old.history mid.history (record { name = mid.chosen; file = file; step = step }) so_far.no_fewer so_far.later;
  others = λ name other another. other_step mid file step name other (λ is. another (is.0 ∙ so_far.chosen, is.1)) ∙ so_far.others name other another;
}

-- what a crash behind a change makes of a file of which it left just what a read gave
made_failing : (change : Change) (left : List ℕ) (old : List Step) → IsSettled old → (image : List ℕ) → IsImage (Failing change left ∷ old) image → MayMake change (contents old) image
made_failing change left old settled image is = subst (λ (was : List ℕ). MayMake change was image) (settled is.0 is.1) is.2

made_done : (change : Change) (old : List Step) → IsSettled old → (image : List ℕ) → IsImage (Done change ∷ old) image → MayMake change (contents old) image
made_done (Write at bytes) old settled image is = subst (λ (was : List ℕ). MayMake (Write at bytes) was image) (settled is.0 is.1) is.2
made_done (Cut longest) old settled image is = subst (λ (was : List ℕ). MayMake (Cut longest) was image) (settled is.0 is.1) is.2
made_done Sync old settled image is = is

module _ (file : ℕ) (change : Change) (old : Told) where
  abbrev Made : List ℕ → Type 0
  Made image = MayMake change (given old file) image

  abbrev Moments : Told → Type 0
  Moments new = LeavesOnly old.chosen file old.history new.history Made

  stays : IsSettled (steps old file) → Moments old
  stays settled = leaves_started old.chosen file Made old.history
      (λ image is. subst Made (sym (settled image is)) (none_is_made change (given old file)))

  -- one step more of the file
  moments_more : (mid : Told) (step : Step) → mid.chosen ≡ old.chosen → Moments mid → ((image : List ℕ) → IsImage (step ∷ steps mid file) image → Made image) → Moments (with_step mid file step)
  moments_more mid step same so_far here =
      leaves_more old.chosen file Made old.history mid.history (record { name = mid.chosen; file = file; step = step }) so_far
      (λ image is. here image (subst (λ (s : List Step). IsImage s image) (own_step mid file step)
      (subst (λ (name : List ℕ). IsImage (steps_of name file (with_step mid file step).history) image) (sym same) is)))

  abbrev begun : Told
  begun = with_step old file (Done change)

  behind_change : IsSettled (steps old file) → Moments begun
  behind_change settled = moments_more old (Done change) refl (stays settled) (made_done change (steps old file) settled)

  module _ (E : Type 0) where
    abbrev Answer : Type 0
    Answer = Result (Unit {0}) E

    abbrev refused : E → Answer
    refused e = Err e

    abbrev answered : Unit {0} → Answer
    answered u = Ok u

    none_tried : (e : E) → IsSynced (refused e) file change old old
    none_tried e = record { keeps = keeps_none file old; contents = tt; settled = tt; moments = stays }

    failed_change : (e : E) (left : List ℕ) → IsSynced (refused e) file change old (with_step old file (Failing change left))
    failed_change e left = record {
      keeps = keeps_step file old old (Failing change left) (keeps_none file old);
      contents = tt;
      settled = tt;
      moments = λ settled. moments_more old (Failing change left) refl (stays settled) (made_failing change left (steps old file) settled);
    }

    -- the change failed
    change_failed : (e : E) (new : Told) → IsTried (refused e) file change old new → IsSynced (refused e) file change old new
    change_failed e new (inl same) = subst (λ (t : Told). IsSynced (refused e) file change old t) (sym same) (none_tried e)
    change_failed e new (inr is) = subst (λ (t : Told). IsSynced (refused e) file change old t) (sym is.1) (failed_change e is.0)

    -- the same of an answer that comes of this error
    pub change_refused : (result : Answer) (e : E) (new : Told) → IsErr result → IsTried (refused e) file change old new → IsSynced result file change old new
    change_refused (Ok u) e new is tried = absurd (true≢false (sym is))
    change_refused (Err other) e new is tried = change_failed other new tried

    begun_keeps : KeepsOthers file old begun
    begun_keeps = keeps_step file old old (Done change) (keeps_none file old)

    sync_unbegun : (e : E) → IsSynced (refused e) file change old begun
    sync_unbegun e = record { keeps = begun_keeps; contents = tt; settled = tt; moments = behind_change }

    failed_images : (left : List ℕ) → IsSettled (steps old file) → (image : List ℕ) → IsImage (Failing Sync left ∷ steps begun file) image → Made image
    failed_images left settled image is =
        let begun_image = subst (λ (s : List Step). IsImage s is.0) (own_step old file (Done change)) is.1 in
        subst Made (sym is.2) (made_done change (steps old file) settled is.0 begun_image)

    sync_failed : (e : E) (left : List ℕ) → IsSynced (refused e) file change old (with_step begun file (Failing Sync left))
    sync_failed e left = record {
      keeps = keeps_step file old begun (Failing Sync left) begun_keeps;
      contents = tt;
      settled = tt;
      moments = λ settled. moments_more begun (Failing Sync left) refl (behind_change settled) (failed_images left settled);
    }

    begun_given : given begun file ≡ changed change (given old file)
    begun_given = ap contents (own_step old file (Done change))

    sync_done : (u : Unit {0}) → IsSynced (answered u) file change old (with_step begun file (Done Sync))
    sync_done u = record {
      keeps = keeps_step file old begun (Done Sync) begun_keeps;
      contents = ap contents (own_step begun file (Done Sync)) ∙ begun_given;
      settled = λ image is. subst (λ (s : List Step). IsImage s image) (own_step begun file (Done Sync)) is ∙ sym (ap contents (own_step begun file (Done Sync)));
      moments = λ settled. moments_more begun (Done Sync) refl (behind_change settled)
          (λ image is. subst Made (sym (is ∙ begun_given)) (done_is_made change (given old file)));
    }

    sync_tried : (result : Answer) (new : Told) → IsTried result file Sync begun new → IsSynced result file change old new
    sync_tried (Ok u) new is = subst (λ (t : Told). IsSynced (answered u) file change old t) (sym is) (sync_done u)
    sync_tried (Err e) new (inl same) = subst (λ (t : Told). IsSynced (refused e) file change old t) (sym same) (sync_unbegun e)
    sync_tried (Err e) new (inr is) = subst (λ (t : Told). IsSynced (refused e) file change old t) (sym is.1) (sync_failed e is.0)

    -- the change was done, and then a sync was tried
    pub then_synced : (result : Answer) (mid new : Told) → mid ≡ begun → IsTried result file Sync mid new → IsSynced result file change old new
    then_synced result mid new is tried = sync_tried result new (subst (λ (t : Told). IsTried result file Sync t new) is tried)

-- what a crash before a call may leave, one behind it may leave too
pub still_failing : (told : Told) (file : ℕ) (change : Change) (left image : List ℕ) → IsImage (steps told file) image → IsImage (steps (with_step told file (Failing change left)) file) image
still_failing told file change left image is =
    subst (λ (s : List Step). IsImage s image) (sym (own_step told file (Failing change left))) (image, is, none_is_made change image)

kept_done : (old : List Step) (change : Change) (image : List ℕ) → (change ≡ Sync → ⊥) → IsImage old image → IsImage (Done change ∷ old) image
kept_done old (Write at bytes) image other is = (image, is, none_is_made (Write at bytes) image)
kept_done old (Cut longest) image other is = (image, is, none_is_made (Cut longest) image)
kept_done old Sync image other is = absurd (other refl)

pub still_done : (told : Told) (file : ℕ) (change : Change) (image : List ℕ) → (change ≡ Sync → ⊥) → IsImage (steps told file) image → IsImage (steps (with_step told file (Done change)) file) image
still_done told file change image other is =
    subst (λ (s : List Step). IsImage s image) (sym (own_step told file (Done change))) (kept_done (steps told file) change image other is)
