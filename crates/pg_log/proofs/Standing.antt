-- Logs that stand.
use Rattle.std.proofs.Common.{◌≡◌, ℕ, List, [], Option, sym, ◌∙◌, ap, subst}
use Rattle.pg_disk.specs.Disk.{IsImage, IsSettled, contents}
use Rattle.pg_disk.specs.Told.{Told, steps_of, steps}
use Rattle.pg_log.specs.Bytes.{OpensTo}
use Rattle.pg_log.specs.Log.{Stands}
use Rattle.pg_log.proofs.Blocks.{closed_opens}

-- whatever a crash leaves of the file opens so
pub stands_opens : (log : Option ℕ) (told : Told) (entries : List (List ℕ)) → Stands log told entries → (image : List ℕ) → IsImage (steps told 0) image → OpensTo image entries
stands_opens log told entries stands image is =
    subst (λ (f : List ℕ). OpensTo f entries) (sym (stands.settled image is ∙ stands.file)) (closed_opens entries stands.gate [] stands.closed stands.fit)

-- no step more was done to the file
pub stands_on : (log : Option ℕ) (old new : Told) (entries : List (List ℕ)) → new.chosen ≡ old.chosen → steps_of old.chosen 0 new.history ≡ steps_of old.chosen 0 old.history
    → Stands log old entries → Stands log new entries
stands_on log old new entries chosen same stands =
    let stays : steps new 0 ≡ steps old 0 = ap (λ (name : List ℕ). steps_of name 0 new.history) chosen ∙ same in
    record {
      place = stands.place;
      gate = stands.gate;
      closed = stands.closed;
      file = ap contents stays ∙ stands.file;
      fit = stands.fit;
      settled = subst IsSettled (sym stays) stands.settled;
    }
