-- What lists keep where a replica is put, whatever it has.
use Rattle.std.proofs.Common.{◌≡◌, true, false, cond, Option, None, Some, List, [], ◌∷◌, All, refl, sym, ap, subst, ◌∙◌, Result, Ok, Err, OnOk, OnErr}
use Rattle.std.proofs.lemmas.Bool.{or_parts}
use Rattle.std.proofs.lemmas.List.Elements.{All-nil, All-cons}
use Rattle.std.specs.List.{list_any}
use Rattle.std.specs.Map.{lookup}
use Rattle.std.specs.Ordering.{eq_by_cmp}
use Rattle.std.specs.BTreeMap.{is_at, insert_entry}
use Rattle.pg_base.specs.declared.id.FileId.{FileId}
use Rattle.pg_base.specs.Id.{file_cmp}
use Rattle.pg_base.specs.Version.{VersionValue}
use Rattle.pg_base.proofs.Entries.{IsStrictlySortedBy-insert_entry}
use Rattle.pg_base.proofs.Maps.{lookup-insert_entry}
use Rattle.pg_base.proofs.Orders.{file_total, is_same_file-refl, is_same_file-true}
use Rattle.pg_replica.specs.declared.replica.Replica.{Replica}
use Rattle.pg_replica.specs.Index.{Files, IsIndexBy, KnowsNoEnd, ListsNoFewer, ListsUnless, Relists, knows_end}
use Rattle.pg_replica.specs.Replica.{has_end}
use Rattle.pg_replica.specs.Replicas.{ByFile, put_replica, replica_in}
use Rattle.pg_unacked.specs.Due.{UnackedValue}
use Rattle.pg_unacked.specs.Changes.{Redues}
use Rattle.pg_replica.specs.Unacked.{AreDue, edges_of}
use Rattle.pg_replica.proofs.Redues.{due_put, due_same}
use Rattle.pg_replica.proofs.Relisting.{Order, more_by, own_by, same_value}

-- ---- a file more

pub no_fewer : (us vs : Files) (file : FileId) (R : Order) → R ≡ file_cmp → vs ≡ insert_entry R us file tt → ListsNoFewer us vs
no_fewer us vs file R o more =
    let L : Order → Type 0 = λ r. vs ≡ insert_entry r us file tt in
    subst (ListsNoFewer us) (sym (subst L o more)) (λ q none.
    more_by (eq_by_cmp file_cmp q file) (lookup (is_at (file_cmp q)) us)
    (sym (lookup-insert_entry file_cmp file_total q file tt us) ∙ none))

pub listed_there : {P : Type 0} (us vs : Files) (file : FileId) (R : Order) → R ≡ file_cmp → vs ≡ insert_entry R us file tt
    → ListsUnless P vs file
listed_there {P} us vs file R o more =
    let L : Order → Type 0 = λ r. vs ≡ insert_entry r us file tt in
    let Q : Files → Type 0 = λ zs. ListsUnless P zs file in
    subst Q (sym (subst L o more)) (λ none.
    absurd (let k : true ≡ false =
    sym (is_same_file-refl file)
    ∙ own_by (eq_by_cmp file_cmp file file) (lookup (is_at (file_cmp file)) us)
    (sym (lookup-insert_entry file_cmp file_total file file tt us) ∙ none) in cc))

-- ---- the lists are enough then

-- of a list that has no fewer files
pub index_of_more : {P : Replica → Type 0} (us vs : Files) (es : ByFile) → ListsNoFewer us vs → IsIndexBy P us es → IsIndexBy P vs es
index_of_more us vs es more index =
    record { by_file = index.by_file; lists = λ q y there none. index.lists q y there (more q none) }

-- and of a replica that is listed, or has P
pub index_put : {P : Replica → Type 0} (us vs : Files) (es ds : ByFile) (file : FileId) (w : Replica) (R : Order) → R ≡ file_cmp
    → ListsNoFewer us vs → ListsUnless (P w) vs file → IsIndexBy P us es → ds ≡ insert_entry R es file w → IsIndexBy P vs ds
index_put {P} us vs es ds file w R o more has index put =
    let S : Order → Type 0 = λ r. ds ≡ insert_entry r es file w in
    subst (IsIndexBy P vs) (sym (subst S o put)) (record {
      by_file = IsStrictlySortedBy-insert_entry file_cmp file_total file w es index.by_file;
      lists = λ q y there none.
          elim (eq_by_cmp file_cmp q file) as (λ b. eq_by_cmp file_cmp q file ≡ b → cond b (Some w) (replica_in es q) ≡ Some y → P y) [
            | true ↦ λ h got. (
                let N : FileId → Type 0 = λ k. lookup (is_at (file_cmp k)) vs ≡ None in
                subst P (same_value w y got) (has (subst N (is_same_file-true q file h) none)))
            | false ↦ λ h got. index.lists q y got (more q none)
          ] refl (sym (lookup-insert_entry file_cmp file_total q file w es) ∙ there);
    })

-- ---- a replica comes where there is none, or in the place of another one

pub err_then : {T E : Type 0} (r : Result T E) (A B : Type 0) → OnErr r A → (A → B) → OnErr r B
err_then (Ok x) A B a f = tt
err_then (Err e) A B a f = f a

module _ {T E : Type 0} where
  pub come_index : {P : Replica → Type 0} (us vs : Files) (es fs ds : ByFile) (file : FileId) (w : Replica) (r : Result T E) → fs ≡ es
      → OnOk r (ds ≡ put_replica fs file w) → OnErr r (ds ≡ fs) → ListsNoFewer us vs → ListsUnless (P w) vs file → IsIndexBy P us es → IsIndexBy P vs ds
  come_index us vs es fs ds file w (Ok x) same put stay more has index =
      index_put us vs es ds file w file_cmp refl more has index (put ∙ ap (λ (rs : ByFile). put_replica rs file w) same)
  come_index {P} us vs es fs ds file w (Err e) same put stay more has index =
      subst (IsIndexBy P vs) (sym (stay ∙ same)) (index_of_more us vs es more index)

  pub come_due : {u v : UnackedValue} (es fs ds : ByFile) (file : FileId) (w : Replica) (r : Result T E) → fs ≡ es
      → OnOk r (ds ≡ put_replica fs file w) → OnErr r (ds ≡ fs) → ◌≡◌ {A = Option Replica} (replica_in es file) None
      → OnOk r (Redues u v file [] w.edges) → OnErr r (Redues u v file [] []) → AreDue u es → AreDue v ds
  come_due es fs ds file w (Ok x) same put stay gap moves none was =
      due_put es was [] (ap edges_of gap) w moves file_cmp refl ds (put ∙ ap (λ (rs : ByFile). put_replica rs file w) same)
  come_due {u} {v} es fs ds file w (Err e) same put stay gap moves none was =
      subst (AreDue v) (sym (stay ∙ same)) (due_same es was [] (ap edges_of gap) none)

  pub relists_replaced : {P : Replica → Type 0} (us vs : Files) (file : FileId) (x w y : Replica) (r : Result T E) → OnOk r (w ≡ y) → OnErr r (w ≡ x)
      → ListsNoFewer us vs → ListsUnless (P y) vs file → Relists P us vs file x w
  relists_replaced {P} us vs file x w y (Ok t) is same more has =
      record { others = λ q other none. more q none; own = λ none was. subst P (sym is) (has none) }
  relists_replaced {P} us vs file x w y (Err e) is same more has =
      record { others = λ q other none. more q none; own = λ none was. subst P (sym same) (was (more file none)) }

-- ---- numbers at their end

no_ends : (vs : List VersionValue) → list_any (λ (v : VersionValue). has_end v.head.vector) vs ≡ false
    → All (λ (v : VersionValue). has_end v.head.vector ≡ false) vs
no_ends [] h = All-nil (λ (v : VersionValue). has_end v.head.vector ≡ false)
no_ends (v ∷ vs) h =
    let parts = or_parts (has_end v.head.vector) (list_any (λ (w : VersionValue). has_end w.head.vector) vs) h in
    All-cons (λ (w : VersionValue). has_end w.head.vector ≡ false) v vs parts.0 (no_ends vs parts.1)

pub knows_no_end : (x : Replica) → knows_end x ≡ false → KnowsNoEnd x
knows_no_end x h = no_ends x.content.heads h
