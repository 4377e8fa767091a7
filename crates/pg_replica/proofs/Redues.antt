-- What is due of all files once the edges of one file's replica changed.
use Rattle.std.proofs.Common.{◌≡◌, Bool, true, false, not, cond, List, [], Option, None, Some, refl, sym, ap, subst, ◌∙◌, Less, Equal, Greater}
use Rattle.std.specs.declared.cmp.Ordering.{Ordering}
use Rattle.std.specs.Ordering.{eq_by_cmp, is_eq, ordering_reverse}
use Rattle.std.specs.List.Sorted.{IsStrictlySortedBy}
use Rattle.std.specs.Map.{keys_of, set_value}
use Rattle.std.specs.BTreeMap.{insert_entry, is_at}
use Rattle.pg_base.specs.declared.id.FileId.{FileId}
use Rattle.pg_base.specs.Id.{file_cmp}
use Rattle.pg_base.proofs.Maps.{lookup-insert_entry}
use Rattle.pg_base.proofs.Entries.{insert_there}
use Rattle.pg_base.proofs.Orders.{file_total, is_same_file-true}
use Rattle.pg_edges.specs.declared.edge.Edge.{Edge}
use Rattle.pg_unacked.specs.Due.{UnackedValue}
use Rattle.pg_replica.specs.declared.replica.Replica.{Replica}
use Rattle.pg_replica.specs.InOrder.{in_order}
use Rattle.pg_replica.specs.Replicas.{ByFile, replica_in, without_replica}
use Rattle.pg_unacked.specs.Changes.{AreDueOf, OthersStay, Redues, due_at}
use Rattle.pg_replica.specs.Unacked.{AreDue, edges_of}
use Rattle.pg_replica.proofs.Going.{replica_behind}
use Rattle.pg_replica.proofs.Relisting.{Order}

other_due_of : {u v : UnackedValue} (file q : FileId) (es : List Edge) → OthersStay u v file → eq_by_cmp file_cmp q file ≡ false → AreDueOf u q es → AreDueOf v q es
other_due_of file q es others other was =
    record { due = λ p k. others p (due_at q k) other ∙ was.due p k; ordered = was.ordered }

other_side : (f q : FileId) → is_at (file_cmp f) q ≡ eq_by_cmp file_cmp q f
other_side f q = ap is_eq (file_total.antisymm f q) ∙ reversed_eq (file_cmp q f)
  where
    reversed_eq : (o : Ordering) → is_eq (ordering_reverse o) ≡ is_eq o
    reversed_eq Less = refl
    reversed_eq Equal = refl
    reversed_eq Greater = refl

turned : (t : Bool) (o : Option Replica) → cond (not t) o None ≡ cond t None o
turned true o = refl
turned false o = refl

module _ {u v : UnackedValue} {file : FileId} (es : ByFile) (was : AreDue u es) where
  changed_by : (xs : List Edge) → edges_of (replica_in es file) ≡ xs → (o : Option Replica) → Redues u v file xs (edges_of o) → (q : FileId) (b : Bool) → eq_by_cmp file_cmp q file ≡ b
      → AreDueOf v q (edges_of (cond b o (replica_in es q)))
  changed_by xs there o moves q true e =
      let P : FileId → Type 0 = λ k. AreDueOf v k (edges_of o) in
      subst P (sym (is_same_file-true q file e)) (moves.own (subst (AreDueOf u file) there (was file)))
  changed_by xs there o moves q false e = other_due_of file q (edges_of (replica_in es q)) moves.others e (was q)

  -- this is the replica of the file now
  pub due_put : (xs : List Edge) → edges_of (replica_in es file) ≡ xs → (w : Replica) → Redues u v file xs w.edges → (R : Order) → R ≡ file_cmp
      → (ds : ByFile) → ds ≡ insert_entry R es file w → AreDue v ds
  due_put xs there w moves R o ds put q =
      let S : Order → Type 0 = λ r. ds ≡ insert_entry r es file w in
      subst (λ (d : Option Replica). AreDueOf v q (edges_of d))
      (sym (ap (λ rs. replica_in rs q) (subst S o put) ∙ lookup-insert_entry file_cmp file_total q file w es))
      (changed_by xs there (Some w) moves q (eq_by_cmp file_cmp q file) refl)

  pub due_there : (x w : Replica) → IsStrictlySortedBy file_cmp (keys_of es) → Redues u v file x.edges w.edges
      → (ds : ByFile) → replica_in es file ≡ Some x → ds ≡ set_value (is_at (file_cmp file)) es w → AreDue v ds
  due_there x w sorted moves ds there set =
      due_put x.edges (ap edges_of there) w moves file_cmp refl ds (set ∙ sym (insert_there file_cmp file_total file x w es sorted there))

  -- there is none any more
  pub due_less : (xs : List Edge) → edges_of (replica_in es file) ≡ xs → Redues u v file xs [] → (ds : ByFile) → ds ≡ without_replica es file → AreDue v ds
  due_less xs there moves ds is q =
      subst (λ (d : Option Replica). AreDueOf v q (edges_of d))
      (sym (ap (λ rs. replica_in rs q) is ∙ replica_behind es file q ∙ turned (is_at (file_cmp file) q) (replica_in es q) ∙ ap (λ b. cond b None (replica_in es q)) (other_side file q)))
      (changed_by xs there None moves q (eq_by_cmp file_cmp q file) refl)

  -- the replicas are as they were
  pub due_same : (xs : List Edge) → edges_of (replica_in es file) ≡ xs → Redues u v file xs xs → AreDue v es
  due_same xs there moves q =
      elim (eq_by_cmp file_cmp q file) as (λ b. eq_by_cmp file_cmp q file ≡ b → AreDueOf v q (edges_of (replica_in es q))) [
        | true ↦ λ e. (
            let P : FileId → Type 0 = λ k. AreDueOf v k (edges_of (replica_in es k)) in
            subst P (sym (is_same_file-true q file e)) (subst (AreDueOf v file) (sym there) (moves.own (subst (AreDueOf u file) there (was file)))))
        | false ↦ λ e. other_due_of file q (edges_of (replica_in es q)) moves.others e (was q)
      ] refl

pub due_begun : (u : UnackedValue) (es : ByFile) → u ≡ [] → es ≡ [] → AreDue u (in_order es)
due_begun u es none empty =
    let P : UnackedValue → Type 0 = λ w. AreDue w (in_order es) in
    let Q : ByFile → Type 0 = λ rs. AreDue [] (in_order rs) in
    subst P (sym none) (subst Q (sym empty) (λ file. record { due = λ p k. refl; ordered = λ p. tt }))
