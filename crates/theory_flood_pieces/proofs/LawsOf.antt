-- Versions of what is held, by what the law is said of.
use Rattle.std.proofs.Common.{◌≡◌, List, Option, Some, sym, ap, subst}
use Rattle.pg_base.specs.declared.id.FileId.{FileId}
use Rattle.pg_base.specs.declared.stamp.Stamp.{Stamp}
use Rattle.pg_patch.specs.Ranges.{RangesValue}
use Rattle.pg_content.specs.Content.{Among, ContentValue}
use Rattle.pg_content.specs.History.{Made, version_of}
use Rattle.pg_entries.specs.declared.cell.Cell.TheVariants as cell
use Rattle.pg_cells.specs.pg_replica.declared.replica.Replica.{Replica}
use Rattle.pg_cells.specs.pg_replica.Replicas.{or_nothing}
use Rattle.pg_cells.specs.pg_store.declared.store.Store.{Store}
use Rattle.pg_cells.specs.pg_store.Store.{content_of, replica_at, take_version, write}
use Rattle.theory_flood_pieces.specs.Histories.{IsOfHistory}
use Rattle.theory_flood_pieces.specs.Laws.{IsTaken, StepsOn, coming}
use Rattle.theory_flood_pieces.proofs.Counting.{steps_on}
use Rattle.theory_flood_pieces.proofs.Versions.{version_put, write_steps}

module _ (a : Store) (file : FileId) (here : (x : Replica) × (replica_at a file ≡ Some x)) (h : List Made) where
  content_is : content_of a file ≡ here.0.content
  content_is = ap (λ (o : Option Replica). (or_nothing o).content) here.1

  pub version_of_held : (m : Made) → IsOfHistory h (content_of a file) → Among m h
      → IsTaken a (take_version a file (coming a file h m)) file (cell.Version (coming a file h m))
  version_of_held m of is =
      let t = version_put a file here.0 here.1 h (subst (IsOfHistory h) content_is of) m is in
      let P : ContentValue → Type 0 = λ c. IsTaken a (take_version a file (version_of c.policy h m)) file (cell.Version (version_of c.policy h m)) in
      subst P (sym content_is) (steps_on a (take_version a file (version_of here.0.content.policy h m)) t.steps, t.holds)

  pub write_of_held : (stamp : Stamp) (ranges : RangesValue) → IsOfHistory h (content_of a file) → StepsOn a (write a file stamp ranges)
  write_of_held stamp ranges of = steps_on a (write a file stamp ranges) (write_steps a file here.0 here.1 h (subst (IsOfHistory h) content_is of) stamp ranges)
