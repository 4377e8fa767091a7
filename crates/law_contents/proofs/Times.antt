-- The clock has come to the times of all versions that were taken.
use Rattle.std.proofs.Common.{ℕ, ◌≤◌, List, sym, subst, arith}
use Rattle.pg_run.specs.pg_base.declared.id.FileId.{FileId}
use Rattle.pg_run.specs.pg_base.declared.stamp.Stamp.{Stamp}
use Rattle.pg_run.specs.pg_base.declared.vector.Actor.{Actor}
use Rattle.pg_run.specs.pg_base.Vector.{number_at}
use Rattle.pg_run.specs.pg_base.Version.{VersionValue}
use Rattle.pg_run.specs.pg_content.Content.{Among, ContentValue}
use Rattle.pg_run.specs.pg_content.History.{Made}
use Rattle.pg_run.specs.Journal.{Born, made_for, with_ancestors}
use Rattle.law_contents.proofs.Files.{Stood}
use Rattle.law_contents.proofs.Histories.{AreMade}
use Rattle.law_contents.proofs.Sets.{taken_in_time}

-- no version that was taken has a time after the clock's, nor has a head, and no number in its
-- vector is above that
module _ (us : List Born) (made : AreMade us) (last : ℕ) (file : FileId)
    (set : List Stamp) (upto : (t : Stamp) → Among t set → t.time ≤ last) where
  pub taken_upto : (t : Stamp) → Among t (with_ancestors (made_for file us) set) → t.time ≤ last
  taken_upto t l = taken_in_time (made_for file us) set last (made.order file) upto t l

  module _ {Who : Made → Type 0} {c : ContentValue} (f : Stood Who c (made_for file us) set) where
    pub head_upto : (v : VersionValue) → Among v c.heads → v.head.stamp.time ≤ last
    head_upto v l =
        let r = f.stands.heads v l in
        let P : VersionValue → Type 0 = (λ x. x.head.stamp.time ≤ last) in
        subst P (sym r.version) (taken_upto r.made.stamp r.head.0)

    pub number_upto : (v : VersionValue) → Among v c.heads → (q : Actor)
        → number_at v.head.vector q ≤ last
    number_upto v l q =
        let r = f.stands.heads v l in
        let P : VersionValue → Type 0 = (λ x. number_at x.head.vector q ≤ last) in
        let number = made.numbers file r.made r.member q in
        let time = taken_upto r.made.stamp r.head.0 in
        subst P (sym r.version) (omega arith)
