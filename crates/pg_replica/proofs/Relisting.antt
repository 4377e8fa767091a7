-- Which files are listed when a replica changes.
use Rattle.std.proofs.Common.{ℕ, ◌≡◌, Bool, true, false, cond, nat_lt, length, arith, Option, None, Some, refl, sym, ap, subst, ◌∙◌}
use Rattle.std.specs.declared.cmp.Ordering.{Ordering}
use Rattle.std.proofs.lemmas.Bool.Decides.{nat_tests}
use Rattle.std.specs.Ordering.{eq_by_cmp}
use Rattle.std.specs.Map.{lookup, set_value}
use Rattle.std.specs.BTreeMap.{is_at, insert_entry}
use Rattle.pg_base.specs.declared.id.FileId.{FileId}
use Rattle.pg_base.specs.Id.{file_cmp}
use Rattle.pg_base.proofs.Maps.{lookup-insert_entry}
use Rattle.pg_base.proofs.Entries.{IsStrictlySortedBy-insert_entry, insert_there}
use Rattle.pg_base.proofs.Orders.{file_total, is_same_file-refl, is_same_file-true}
use Rattle.pg_unacked.proofs.DueKeys.{other_way}
use Rattle.pg_replica.specs.declared.replica.Replica.{Replica}
use Rattle.pg_replica.specs.Replicas.{ByFile, replica_in}
use Rattle.pg_replica.specs.Index.{Files, IsAllClean, IsIndexBy, ListsOthers, Relists, with_keys}
use Rattle.pg_replica.proofs.Clean.{clean_none}

-- the program's order of files, which is that of the definitions
abbrev pub Order : Type 0
Order = FileId → FileId → Ordering

no_length : (n : ℕ) → nat_lt 0 n ≡ false → n ≡ 0
no_length n h = grind (arith, nat_tests)

-- ---- which files are listed then

-- the same files, and the replica has P where it had
pub relists_same : {P : Replica → Type 0} (us vs : Files) (file : FileId) (x y : Replica) → vs ≡ us
    → (P x → P y) → Relists P us vs file x y
relists_same {P} us vs file x y same still =
    let Q : Files → Type 0 = λ zs. Relists P us zs file x y in
    subst Q (sym same) (record { others = λ q other none. none; own = λ none was. still (was none) })

pub more_by : (t : Bool) (u : Option (Unit {0})) → cond t (Some tt) u ≡ None → u ≡ None
more_by true u h = cc
more_by false u h = h

pub own_by : (t : Bool) (u : Option (Unit {0})) → cond t (Some tt) u ≡ None → t ≡ false
own_by true u h = cc
own_by false u h = refl

less_by : (t : Bool) (u : Option (Unit {0})) → t ≡ false → cond t None u ≡ None → u ≡ None
less_by true u other h = cc
less_by false u other h = h

-- a file more
pub relists_more : {P : Replica → Type 0} (us vs : Files) (file : FileId) (x y : Replica) → (R : Order) → R ≡ file_cmp
    → vs ≡ insert_entry R us file tt → Relists P us vs file x y
relists_more {P} us vs file x y R o more =
    let L : Order → Type 0 = λ r. vs ≡ insert_entry r us file tt in
    let Q : Files → Type 0 = λ zs. Relists P us zs file x y in
    subst Q (sym (subst L o more)) (record {
      others = λ q other none.
          more_by (eq_by_cmp file_cmp q file) (lookup (is_at (file_cmp q)) us)
          (sym (lookup-insert_entry file_cmp file_total q file tt us) ∙ none);
      own = λ none was.
          absurd (let k : true ≡ false =
          sym (is_same_file-refl file)
          ∙ own_by (eq_by_cmp file_cmp file file) (lookup (is_at (file_cmp file)) us)
          (sym (lookup-insert_entry file_cmp file_total file file tt us) ∙ none) in cc);
    })

-- a file less, whose replica has P
pub relists_less : {P : Replica → Type 0} (us vs : Files) (file : FileId) (x y : Replica) → (R : Order) → R ≡ file_cmp
    → ((q : FileId) → lookup (is_at (R q)) vs ≡ cond (is_at (R file) q) None (lookup (is_at (R q)) us))
    → P y → Relists P us vs file x y
relists_less {P} us vs file x y R o less has =
    let L : Order → Type 0 =
    (λ r. (q : FileId) → lookup (is_at (r q)) vs ≡ cond (is_at (r file) q) None (lookup (is_at (r q)) us)) in
    let left : L file_cmp = subst L o less in
    record {
      others = λ q other none.
          less_by (is_at (file_cmp file) q) (lookup (is_at (file_cmp q)) us) (other_way file q other)
          (sym (left q) ∙ none);
      own = λ none was. has;
    }

-- a file more, if its replica has an edge: where it has none there is no key
keys_by : (us : Files) (file : FileId) (x y : Replica) (t : Bool) → nat_lt 0 (length x.edges) ≡ t
    → (length x.edges ≡ 0 → length y.edges ≡ 0) → Relists IsAllClean us (with_keys us file x) file x y
keys_by us file x y true e none =
    relists_more us (with_keys us file x) file x y file_cmp refl (ap (λ b. cond b (insert_entry file_cmp us file tt) us) e)
keys_by us file x y false e none =
    relists_same us (with_keys us file x) file x y (ap (λ b. cond b (insert_entry file_cmp us file tt) us) e)
    (λ clean. clean_none y.edges (none (no_length (length x.edges) e)))

pub keys_listed : (us vs : Files) (file : FileId) (x y : Replica) → vs ≡ with_keys us file x
    → (length x.edges ≡ 0 → length y.edges ≡ 0) → Relists IsAllClean us vs file x y
keys_listed us vs file x y is none =
    let P : Files → Type 0 = λ zs. Relists IsAllClean us zs file x y in
    subst P (sym is) (keys_by us file x y (nat_lt 0 (length x.edges)) refl none)

-- and the replica is as it was
pub keys_same : (us vs : Files) (file : FileId) (x : Replica) → vs ≡ with_keys us file x → Relists IsAllClean us vs file x x
keys_same us vs file x is = keys_listed us vs file x x is (λ none. none)

-- ---- the index then

pub same_value : (w y : Replica) → ◌≡◌ {A = Option Replica} (Some w) (Some y) → w ≡ y
same_value w y h = cc

module _ {P : Replica → Type 0} {us vs : Files} {file : FileId} {x w : Replica} (es : ByFile) (index : IsIndexBy P us es) (listed : Relists P us vs file x w) where
  -- the replica there has P if it is not listed: this one is listed, or has P
  put_lists : (lookup (is_at (file_cmp file)) us ≡ None → P x) → ListsOthers P vs (insert_entry file_cmp es file w)
  put_lists was q y there none =
      elim (eq_by_cmp file_cmp q file) as (λ b. eq_by_cmp file_cmp q file ≡ b → cond b (Some w) (replica_in es q) ≡ Some y → P y) [
        | true ↦ λ h got. (
            let N : FileId → Type 0 = λ k. lookup (is_at (file_cmp k)) vs ≡ None in
            subst P (same_value w y got) (listed.own (subst N (is_same_file-true q file h) none) was))
        | false ↦ λ h got. index.lists q y got (listed.others q h none)
      ] refl (sym (lookup-insert_entry file_cmp file_total q file w es) ∙ there)

  put_index : (lookup (is_at (file_cmp file)) us ≡ None → P x) → IsIndexBy P vs (insert_entry file_cmp es file w)
  put_index was = record {
    by_file = IsStrictlySortedBy-insert_entry file_cmp file_total file w es index.by_file;
    lists = put_lists was;
  }

  -- the replica that was there changed
  pub index_there : (R : Order) → R ≡ file_cmp → (ds : ByFile) → lookup (is_at (R file)) es ≡ Some x
      → ds ≡ set_value (is_at (R file)) es w → IsIndexBy P vs ds
  index_there R o ds there set =
      let Q : Order → Type 0 = λ r. lookup (is_at (r file)) es ≡ Some x in
      let S : Order → Type 0 = λ r. ds ≡ set_value (is_at (r file)) es w in
      let found : replica_in es file ≡ Some x = subst Q o there in
      subst (IsIndexBy P vs)
      (sym (subst S o set ∙ sym (insert_there file_cmp file_total file x w es index.by_file found)))
      (put_index (index.lists file x found))

  -- there was none, and this one came, of one that had P
  pub index_come : (R : Order) → R ≡ file_cmp → (ds : ByFile) → P x
      → ds ≡ insert_entry R es file w → IsIndexBy P vs ds
  index_come R o ds has put =
      let S : Order → Type 0 = λ r. ds ≡ insert_entry r es file w in
      subst (IsIndexBy P vs) (sym (subst S o put)) (put_index (λ none. has))
