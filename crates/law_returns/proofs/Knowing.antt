-- What is known of the children of a directory stays known, or the birth of the replica is over.
use Rattle.std.proofs.Common.{ℕ, ◌≡◌, ◌≤◌, ◌<◌, ◌⊎◌, arith, true, false, Option, None, Some, is_some, option_map, eq-eqb, refl, sym, ap, subst, ◌∙◌, inl, inr}
use Rattle.std.proofs.lemmas.Bool.{false≢true}
use Rattle.std.proofs.lemmas.Option.{none-some, same_Some}
use Rattle.pg_run.specs.pg_base.declared.id.FileId.{FileId}
use Rattle.pg_run.specs.pg_entries.declared.entry.Entry.{Entry}
use Rattle.pg_run.proofs.theory_flood.Flood.{here}
use Rattle.pg_run.specs.pg_names.Names.{InodeValue, NamesValue, cell_at, entry_in, known as names_known, or_blank, own_of}
use Rattle.pg_run.specs.pg_register.declared.place.Place.{Place}
use Rattle.pg_run.specs.pg_register.Place.{blank_place}
use Rattle.pg_run.specs.pg_replica.declared.replica.Replica.{Replica}
use Rattle.pg_run.specs.pg_replica.Replicas.{is_of_birth}
use Rattle.pg_run.specs.pg_store.declared.store.Store.{Store}
use Rattle.pg_run.specs.pg_store.Births.{has_birth}
use Rattle.pg_run.specs.pg_store.Store.{is_held, replica_at}
use Rattle.pg_run.specs.pg_store.Together.{AreTogether, BirthsMove, IsOver, birth_at}
use Rattle.pg_run.proofs.pg_store.Over.{over_stays}
use Rattle.pg_run.specs.theory_flood_pieces.Growing.{Grows}
use Rattle.pg_run.specs.theory_flood_pieces.Names.{AreNamesUpTo, IsEntryKnownBy}
use Rattle.pg_run.proofs.theory_flood_pieces.Growth.{entry_known_further}
use Rattle.pg_run.specs.Births.{StaysOrGoes}
use Rattle.law_returns.specs.Gate.{KnowsChildren, KnowsOrOver, place_at}

-- what is known of children stays known
pub knows_on : (dir : FileId) (s t u : NamesValue) → KnowsChildren dir s t → AreNamesUpTo t u → KnowsChildren dir s u
knows_on dir s t u h g child = entry_known_further (cell_at s dir child) (cell_at t dir child) (cell_at u dir child) (h child) (g.entries dir child)

pub at_most : (a b c : ℕ) → a ≤ b → b ≤ c → a ≤ c
at_most a b c h k = omega arith

pub not_both : (a b : ℕ) → a ≤ b → b < a → ⊥
not_both a b h k = omega arith

-- ---- what one replica knows, or its birth is over

pub knows_over : (dir : FileId) (known mid : NamesValue) (x : Store) (birth : ℕ) → KnowsChildren dir known mid → KnowsOrOver dir mid x birth
    → KnowsOrOver dir known x birth
knows_over dir known mid x birth h g child e at =
    step (cell_at mid dir child) refl (subst (λ (o : Option Entry). IsEntryKnownBy o (cell_at mid dir child)) at (h child))
  where
    step : (o : Option Entry) → cell_at mid dir child ≡ o → IsEntryKnownBy (Some e) o
        → ((birth_at x dir ≡ Some birth) × IsEntryKnownBy (Some e) (cell_at x.names dir child)) ⊎ IsOver x dir birth
    step None there k = absurd k
    step (Some y) there k = elim (g child y there) [
      | inl z ↦ inl (z.0, entry_known_further (Some e) (Some y) (cell_at x.names dir child) k z.1)
      | inr over ↦ inr over
    ]

pub over_on : (dir : FileId) (known : NamesValue) (a b : Store) (birth : ℕ) → Grows a b → BirthsMove a b → KnowsOrOver dir known a birth
    → KnowsOrOver dir known b birth
over_on dir known a b birth grow move k child e at = elim (k child e at) [
  | inl x ↦ elim (grow dir birth x.0) [
    | inl g ↦ inl (g.0, entry_known_further (Some e) (cell_at a.names dir child) (cell_at b.names dir child) x.1 (g.1.entries child))
    | inr over ↦ inr over
  ]
  | inr over ↦ inr (over_stays a b dir birth move over)
]

-- so the replica that is there knows all
pub knows_here : (dir : FileId) (known : NamesValue) (a : Store) (birth : ℕ) → KnowsOrOver dir known a birth → has_birth a dir birth ≡ true
    → KnowsChildren dir known a.names
knows_here dir known a birth k has child = by (cell_at known dir child) refl
  where
    by : (o : Option Entry) → cell_at known dir child ≡ o → IsEntryKnownBy o (cell_at a.names dir child)
    by None at = tt
    by (Some e) at = elim (k child e at) [ inl x ↦ x.1 | inr over ↦ absurd (false≢true (sym over.away ∙ has)) ]

-- ---- what is known of children stays known where the directory's place stays

unheld_known : (o : Option InodeValue) → is_some o ≡ false → o ≡ None
unheld_known None e = refl
unheld_known (Some x) e = absurd (false≢true (sym e))

unborn : (o : Option Replica) → option_map (λ (x : Replica). x.birth) o ≡ None → is_some o ≡ false
unborn None e = refl
unborn (Some x) e = absurd (none-some x.birth (sym e))

born_tests : (o : Option Replica) (n : ℕ) → option_map (λ (x : Replica). x.birth) o ≡ Some n → is_of_birth o n ≡ true
born_tests None n e = absurd (none-some n e)
born_tests (Some x) n e = eq-eqb x.birth n (same_Some x.birth n e)

none_known : (o p : Option Entry) → IsEntryKnownBy o None → IsEntryKnownBy o p
none_known None p k = tt
none_known (Some e) p k = absurd k

pub knows_stay : (dir : FileId) (removal : Place) → 1 ≤ removal.stamp.time → (known : NamesValue) (a b : Store) → AreTogether a → Grows a b
    → StaysOrGoes a b → KnowsChildren dir known a.names → place_at b.names dir ≡ removal → KnowsChildren dir known b.names
knows_stay dir removal late known a b together grow stay h at = by (birth_at a dir) refl
  where
    -- what is held no longer has the blank place
    gone : is_held b dir ≡ false → ⊥
    gone away =
        let blank : place_at b.names dir ≡ blank_place dir =
        ap (λ (o : Option InodeValue). (or_blank dir (own_of o)).place) (unheld_known (names_known b.names dir) away) in
        (let e : 0 ≡ removal.stamp.time = ap (λ (p : Place). p.stamp.time) (sym blank ∙ at) in omega (arith, e, late))

    held_by : (n : ℕ) → birth_at a dir ≡ Some n → birth_at b dir ≡ Some n → (child : FileId)
        → IsEntryKnownBy (cell_at known dir child) (cell_at b.names dir child)
    held_by n there here child = elim (grow dir n there) [
      | inl g ↦ entry_known_further (cell_at known dir child) (cell_at a.names dir child) (cell_at b.names dir child) (h child) (g.1.entries child)
      | inr over ↦ absurd (false≢true (sym over.away ∙ born_tests (replica_at b dir) n here))
    ]

    by : (o : Option ℕ) → birth_at a dir ≡ o → KnowsChildren dir known b.names
    by None none child =
        let away = unheld_known (names_known a.names dir) (sym (together dir) ∙ unborn (replica_at a dir) none) in
        none_known (cell_at known dir child) (cell_at b.names dir child)
        (subst (IsEntryKnownBy (cell_at known dir child)) (ap (entry_in child) away) (h child))
    by (Some n) there child = elim (stay dir n there) [
      | inl here ↦ held_by n there here child
      | inr left ↦ absurd (gone left.0)
    ]
