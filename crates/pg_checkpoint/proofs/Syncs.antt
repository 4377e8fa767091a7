-- A sync alone.
use Rattle.std.proofs.Common.{◌≡◌, ℕ, List, Result, Ok, Err, refl, sym, ◌∙◌, ap, subst}
use Rattle.pg_disk.specs.Disk.{Step, Done, Sync, contents, MayMake, IsImage}
use Rattle.pg_disk.specs.Told.{Told, steps, given, with_step, IsTried}
use Rattle.pg_disk.specs.Synced.{IsSynced}
use Rattle.pg_disk.proofs.Moments.{leaves_started, leaves_more}
use Rattle.pg_disk.proofs.Tries.{own_step, keeps_none, keeps_step, change_refused}

module _ (E : Type 0) (file : ℕ) (old : Told) where
  abbrev Answer : Type 0
  Answer = Result (Unit {0}) E

  abbrev answered : Unit {0} → Answer
  answered u = Ok u

  abbrev refused : E → Answer
  refused e = Err e

  abbrev behind : Told
  behind = with_step old file (Done Sync)

  image_is : (image : List ℕ) → IsImage (steps behind file) image → image ≡ given old file
  image_is image is = subst (λ (s : List Step). IsImage s image) (own_step old file (Done Sync)) is

  given_is : given behind file ≡ given old file
  given_is = ap contents (own_step old file (Done Sync))

  sync_done : (u : Unit {0}) → IsSynced (answered u) file Sync old behind
  sync_done u = record {
    keeps = keeps_step file old old (Done Sync) (keeps_none file old);
    contents = given_is;
    settled = λ image is. image_is image is ∙ sym given_is;
    moments = λ settled. leaves_more old.chosen file (MayMake Sync (given old file)) old.history old.history (record { name = old.chosen; file = file; step = Done Sync })
        (leaves_started old.chosen file (MayMake Sync (given old file)) old.history settled) image_is;
  }

  -- it was tried
  pub sync_tried : (result : Answer) (new : Told) → IsTried result file Sync old new → IsSynced result file Sync old new
  sync_tried (Ok u) new is = subst (λ (t : Told). IsSynced (answered u) file Sync old t) (sym is) (sync_done u)
  sync_tried (Err e) new tried = change_refused file Sync old E (refused e) e new refl tried
