-- The births and contents of replicas in maps of them.
use Rattle.std.proofs.Common.{ℕ, ◌≡◌, ◌≤◌, Bool, true, false, cond, max, List, Option, None, Some, option_map, refl, sym, ap, subst, ◌∙◌, arith}
use Rattle.pg_run.specs.pg_base.declared.id.FileId.{FileId}
use Rattle.pg_run.specs.pg_base.Id.{file_cmp, is_same_file}
use Rattle.pg_run.proofs.pg_base.Entries.{IsStrictlySortedBy-insert_entry}
use Rattle.pg_run.proofs.pg_base.Maps.{lookup-insert_entry}
use Rattle.pg_run.proofs.pg_base.Orders.{file_total, is_same_file-refl, is_same_file-true}
use Rattle.pg_run.specs.pg_edges.declared.key.Key.{Key}
use Rattle.pg_run.specs.pg_replica.declared.link.Link.{Link}
use Rattle.pg_run.specs.pg_replica.declared.replica.Replica.{Replica}
use Rattle.pg_run.specs.pg_replica.Replica.{has_edge, with_ack, with_link, with_touch, with_unlink}
use Rattle.pg_run.specs.pg_replica.Replicas.{ByFile, put_replica, replica_in, replicas_acked, replicas_linked, replicas_touched, replicas_unlinked}
use Rattle.pg_run.proofs.theory_flood_pieces.Choices.{chosen}
use Rattle.law_contents.proofs.Changes.{Core, IsOrdered, core_of}

-- ---- maps of replicas

abbrev core_in : ByFile → FileId → Option Core
core_in rs f = option_map core_of (replica_in rs f)

core_chosen : (t : Bool) (y : Replica) (o : Option Replica)
    → option_map core_of (cond t (Some y) o) ≡ cond t (Some (core_of y)) (option_map core_of o)
core_chosen true y o = refl
core_chosen false y o = refl

core_put : (rs : ByFile) (file f : FileId) (y : Replica)
    → core_in (put_replica rs file y) f
    ≡ cond (is_same_file f file) (Some (core_of y)) (core_in rs f)
core_put rs file f y =
    ap (option_map core_of) (lookup-insert_entry file_cmp file_total f file y rs)
    ∙ core_chosen (is_same_file f file) y (replica_in rs f)

pub put_here : (rs : ByFile) (file : FileId) (y : Replica)
    → core_in (put_replica rs file y) file ≡ Some (core_of y)
put_here rs file y =
    core_put rs file file y
    ∙ ap (λ t. cond t (Some (core_of y)) (core_in rs file)) (is_same_file-refl file)

pub put_elsewhere : (rs : ByFile) (file f : FileId) (y : Replica) → is_same_file f file ≡ false
    → core_in (put_replica rs file y) f ≡ core_in rs f
put_elsewhere rs file f y apart =
    core_put rs file f y ∙ ap (λ t. cond t (Some (core_of y)) (core_in rs f)) apart

-- these have the births and contents of those
abbrev AreSame : ByFile → ByFile → Type 0
AreSame rs qs = (f : FileId) → core_in qs f ≡ core_in rs f

-- a replica with the birth and the content that it had
pub same_put : (rs : ByFile) (file : FileId) (x y : Replica) → replica_in rs file ≡ Some x
    → core_of y ≡ core_of x → AreSame rs (put_replica rs file y)
same_put rs file x y is same f = at (is_same_file f file) refl
  where
    at : (t : Bool) → is_same_file f file ≡ t → core_in (put_replica rs file y) f ≡ core_in rs f
    at true e =
        let P : FileId → Type 0 = (λ g. core_in (put_replica rs file y) g ≡ core_in rs g) in
        subst P (sym (is_same_file-true f file e))
        (put_here rs file y ∙ ap Some same ∙ sym (ap (option_map core_of) is))
    at false e = put_elsewhere rs file f y e

module _ (rs : ByFile) (file : FileId) where
  pub touched_same : (k : Key) (tags : ℕ) (o : Option Replica) → replica_in rs file ≡ o
      → AreSame rs (replicas_touched rs file k tags o)
  touched_same k tags None is f = refl
  touched_same k tags (Some x) is f = same_put rs file x (with_touch x k tags) is refl f

  pub linked_same : (peer birth : ℕ) (ks : List Key) (tags : ℕ) (o : Option Replica)
      → replica_in rs file ≡ o → AreSame rs (replicas_linked rs file peer birth ks tags o)
  linked_same peer birth ks tags None is f = refl
  linked_same peer birth ks tags (Some x) is f =
      same_put rs file x (with_link x peer birth ks tags) is refl f

  pub unlinked_same : (peer birth : ℕ) (o : Option Replica) → replica_in rs file ≡ o
      → AreSame rs (replicas_unlinked rs file peer birth o)
  unlinked_same peer birth None is f = refl
  unlinked_same peer birth (Some x) is f =
      same_put rs file x (with_unlink x peer birth) is refl f

  pub acked_same : (l : Link) (k : Key) (tag : ℕ) (o : Option Replica) → replica_in rs file ≡ o
      → AreSame rs (replicas_acked rs file l k tag o)
  acked_same l k tag None is f = refl
  acked_same l k tag (Some x) is f =
      let y = with_ack x l.peer l.birth k tag in
      chosen (λ qs. core_in qs f ≡ core_in rs f) (has_edge x l) (put_replica rs file y) rs
      (same_put rs file x y is refl f) refl

-- ---- the order by id

pub put_order : (rs : ByFile) (file : FileId) (y : Replica) → IsOrdered rs
    → IsOrdered (put_replica rs file y)
put_order rs file y h = IsStrictlySortedBy-insert_entry file_cmp file_total file y rs h

module _ (rs : ByFile) (file : FileId) (h : IsOrdered rs) where
  pub touched_order : (k : Key) (tags : ℕ) (o : Option Replica)
      → IsOrdered (replicas_touched rs file k tags o)
  touched_order k tags None = h
  touched_order k tags (Some x) = put_order rs file (with_touch x k tags) h

  pub linked_order : (peer birth : ℕ) (ks : List Key) (tags : ℕ) (o : Option Replica)
      → IsOrdered (replicas_linked rs file peer birth ks tags o)
  linked_order peer birth ks tags None = h
  linked_order peer birth ks tags (Some x) =
      put_order rs file (with_link x peer birth ks tags) h

  pub unlinked_order : (peer birth : ℕ) (o : Option Replica)
      → IsOrdered (replicas_unlinked rs file peer birth o)
  unlinked_order peer birth None = h
  unlinked_order peer birth (Some x) = put_order rs file (with_unlink x peer birth) h

  pub acked_order : (l : Link) (k : Key) (tag : ℕ) (o : Option Replica)
      → IsOrdered (replicas_acked rs file l k tag o)
  acked_order l k tag None = h
  acked_order l k tag (Some x) =
      let y = with_ack x l.peer l.birth k tag in
      chosen IsOrdered (has_edge x l) (put_replica rs file y) rs (put_order rs file y h) h

-- ---- clocks

pub raised_up : (low last time : ℕ) → last ≡ low → low ≤ max last time
raised_up low last time same = grind arith

pub raised_time : (last time : ℕ) → time ≤ max last time
raised_time last time = grind arith
