-- Replicas in the order of their files: what a look-up finds, and what a change leaves.
use Rattle.std.proofs.Common.{ℕ, ◌≡◌, ◌&&◌, eqb, arith, Less, Equal, Greater, Bool, cond, Option, None, Some, IsSome, is_some, [], ◌∷◌, refl, sym, ap, subst, ◌∙◌}
use Rattle.std.specs.declared.cmp.Ordering.{Ordering}
use Rattle.std.specs.Ordering.{eq_by_cmp, is_eq, nat_cmp, ordering_then, ordering_reverse}
use Rattle.std.proofs.lemmas.Bool.{eq-eqb, ne_eqb}
use Rattle.std.proofs.lemmas.Bool.Decides.{nat_tests}
use Rattle.pg_base.specs.declared.id.Kind.{Kind}
use Rattle.pg_base.specs.declared.id.Kind.TheVariants.{Dir, File}
use Rattle.std.specs.List.Sorted.{IsStrictlySortedBy}
use Rattle.std.specs.Map.{lookup, keys_of, set_value}
use Rattle.std.specs.HashMap.{HashMap, UpdatesBy, get_by}
use Rattle.std.specs.BTreeMap.{is_at, insert_entry}
use Rattle.pg_base.specs.contracts.id.FileIdPartialEq.TheImpl as derived
use Rattle.pg_base.specs.declared.id.FileId.{FileId}
use Rattle.pg_base.specs.Id.{file_cmp}
use Rattle.pg_base.proofs.Entries.{IsStrictlySortedBy-insert_entry, entries_from_lookup, insert_there}
use Rattle.pg_base.proofs.Maps.{lookup-insert_entry}
use Rattle.pg_base.proofs.Orders.{file_exact, file_total}
use Rattle.pg_replica.specs.declared.replica.Replica.{Replica}
use Rattle.pg_replica.specs.Replicas.{ByFile, replica_in}
use Rattle.pg_replica.specs.InOrder.{in_order}
use Rattle.pg_replica.specs.Index.{Files, IsIndexBy}

-- the derived test of two files
abbrev pub same_file : FileId → FileId → Bool
same_file = (derived.eq-value).it

eq_by : (a b : ℕ) (o : Ordering) → nat_cmp a b ≡ o → eqb a b ≡ is_eq o
eq_by a b Less h = ne_eqb a b (λ e. grind (arith, nat_tests))
eq_by a b Equal h = eq-eqb a b (grind (arith, nat_tests))
eq_by a b Greater h = ne_eqb a b (λ e. grind (arith, nat_tests))

pub both_eq : (o p : Ordering) → (is_eq o && is_eq p) ≡ is_eq (ordering_then o p)
both_eq Less p = refl
both_eq Equal p = refl
both_eq Greater p = refl

numbers_eq : (s t n m : ℕ) → (eqb s t && eqb n m) ≡ is_eq (ordering_then (nat_cmp s t) (nat_cmp n m))
numbers_eq s t n m =
    ap (λ b. b && eqb n m) (eq_by s t (nat_cmp s t) refl)
    ∙ ap (λ b. is_eq (nat_cmp s t) && b) (eq_by n m (nat_cmp n m) refl)
    ∙ both_eq (nat_cmp s t) (nat_cmp n m)

parts_eq : (k j : Kind) (s t n m : ℕ) → same_file (record { kind = k; server = s; number = n }) (record { kind = j; server = t; number = m })
    ≡ is_eq (file_cmp (record { kind = k; server = s; number = n }) (record { kind = j; server = t; number = m }))
parts_eq Dir Dir s t n m = numbers_eq s t n m
parts_eq Dir File s t n m = refl
parts_eq File Dir s t n m = refl
parts_eq File File s t n m = numbers_eq s t n m

-- it is that of their order
pub same_file_is : (a b : FileId) → same_file a b ≡ is_at (file_cmp a) b
same_file_is a b = parts_eq a.kind b.kind a.server b.server a.number b.number

-- ---- look-ups

pub lookup-in_order : (file : FileId) (es : ByFile) → replica_in (in_order es) file ≡ lookup (same_file file) es
lookup-in_order file [] = refl
lookup-in_order file (e ∷ es) =
    lookup-insert_entry file_cmp file_total file e.0 e.1 (in_order es)
    ∙ ap (λ b. cond b (Some e.1) (replica_in (in_order es) file)) (sym (same_file_is file e.0))
    ∙ ap (cond (same_file file e.0) (Some e.1)) (lookup-in_order file es)

pub sorted-in_order : (es : ByFile) → IsStrictlySortedBy file_cmp (keys_of (in_order es))
unfolding IsStrictlySortedBy
sorted-in_order [] = tt
sorted-in_order (e ∷ es) = IsStrictlySortedBy-insert_entry file_cmp file_total e.0 e.1 (in_order es) (sorted-in_order es)

-- ---- changes

swapped : (a b : FileId) → same_file a b ≡ eq_by_cmp file_cmp b a
swapped a b = same_file_is a b ∙ ap is_eq (file_total.antisymm a b) ∙ reversed_eq (file_cmp b a)
  where
    reversed_eq : (o : Ordering) → is_eq (ordering_reverse o) ≡ is_eq o
    reversed_eq Less = refl
    reversed_eq Equal = refl
    reversed_eq Greater = refl

-- this replica is at the file, and the others as before
pub in_order-put : (es ds : ByFile) (file : FileId) (x : Replica)
    → ((q : FileId) → lookup (same_file q) ds ≡ cond (same_file file q) (Some x) (lookup (same_file q) es))
    → in_order ds ≡ insert_entry file_cmp (in_order es) file x
in_order-put es ds file x found =
    entries_from_lookup file_cmp file_total file_exact (in_order ds) (insert_entry file_cmp (in_order es) file x) (sorted-in_order ds)
    (IsStrictlySortedBy-insert_entry file_cmp file_total file x (in_order es) (sorted-in_order es))
    (λ q. lookup-in_order q ds ∙ found q
    ∙ ap (λ b. cond b (Some x) (lookup (same_file q) es)) (swapped file q)
    ∙ ap (cond (eq_by_cmp file_cmp q file) (Some x)) (sym (lookup-in_order q es))
    ∙ sym (lookup-insert_entry file_cmp file_total q file x (in_order es)))

some_there : {X : Type 0} (o : Option X) (x : X) → o ≡ Some x → IsSome o
some_there {X} o x h = ap (λ (p : Option X). is_some p) h

module _ {S : Type 0} (m n : HashMap FileId Replica S) where
  pub in_order-same : n ≡ m → in_order n.entries ≡ in_order m.entries
  in_order-same same = ap (λ (h : HashMap FileId Replica S). in_order h.entries) same

  -- the replica of a file that was there changed
  pub in_order-set : (file : FileId) (x w : Replica) → lookup (same_file file) m.entries ≡ Some x
      → (IsSome (get_by (same_file file) m) → UpdatesBy same_file (same_file file) m n (Some w))
      → in_order n.entries ≡ set_value (is_at (file_cmp file)) (in_order m.entries) w
  in_order-set file x w there updates =
      in_order-put m.entries n.entries file w (updates (some_there _ x there)).0
      ∙ insert_there file_cmp file_total file x w (in_order m.entries) (sorted-in_order m.entries) (lookup-in_order file m.entries ∙ there)

-- one came to a map that is another one
pub in_order-come : {S : Type 0} (m n o : HashMap FileId Replica S) (file : FileId) (x : Replica) → n ≡ m
    → UpdatesBy same_file (same_file file) n o (Some x)
    → in_order o.entries ≡ insert_entry file_cmp (in_order m.entries) file x
in_order-come {S} m n o file x same updates =
    in_order-put n.entries o.entries file x updates.0
    ∙ ap (λ (h : HashMap FileId Replica S). insert_entry file_cmp (in_order h.entries) file x) same

-- ---- none

pub index_none : {P : Replica → Type 0} (us : Files) (es : ByFile) → es ≡ [] → IsIndexBy P us (in_order es)
index_none {P} us es e =
    let Q : ByFile → Type 0 = λ fs. IsIndexBy P us (in_order fs) in
    subst Q (sym e) (record {
      by_file = sorted-in_order [];
      lists = λ file x there none. absurd (let z : ◌≡◌ {A = Option Replica} None (Some x) = there in cc);
    })
