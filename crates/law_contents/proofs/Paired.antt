-- What is to come is not here, and what is held has a replica, whose birth was given out.
use Rattle.std.proofs.Common.{ℕ, ◌≡◌, ◌&&◌, Bool, true, false, not, is_some, Option, None, Some, option_map, refl, sym, ap, ◌∙◌, inl, inr, arith}
use Rattle.std.proofs.lemmas.Bool.{and_parts, or_cases, not-true}
use Rattle.pg_run.specs.pg_base.declared.id.FileId.{FileId}
use Rattle.pg_run.specs.pg_replica.declared.replica.Replica.{Replica}
use Rattle.pg_run.specs.Journal.{Born}
use Rattle.pg_run.specs.pg_store.declared.store.Store.{Store}
use Rattle.pg_run.specs.pg_store.declared.wishes.Wish.{Wish}
use Rattle.pg_run.specs.pg_store.Births.{fill_at, is_fill_at, is_pending, wish_at}
use Rattle.pg_run.specs.pg_store.Store.{is_held, replica_at}
use Rattle.pg_run.specs.pg_store.Wishes.{is_with_birth}
use Rattle.law_contents.specs.Together.{GoTogether}
use Rattle.law_contents.proofs.Changes.{Core, core_at, core_of, replica_of_core}
use Rattle.law_contents.proofs.Servers.{IsPaired, IsPast}

none_there : (o : Option Replica) → is_some o ≡ false → o ≡ None
none_there None h = refl
none_there (Some x) h = absurd (let z : true ≡ false = h in cc)

one_there : (o : Option Replica) → is_some o ≡ true → (k : Core) × (option_map core_of o ≡ Some k)
one_there None h = absurd (let z : false ≡ true = h in cc)
one_there (Some x) h = (core_of x, refl)

wish_there : (o : Option Wish) (birth : ℕ) → is_with_birth o birth ≡ true
    → (wish : Wish) × (o ≡ Some wish)
wish_there None birth h = absurd (let z : false ≡ true = h in cc)
wish_there (Some wish) birth h = (wish, refl)

module _ (a : Store) (k : GoTogether a) where
  -- of a wish, or of a Fill of what is not held
  away : (file : FileId) (birth : ℕ) → is_pending a file birth ≡ true → is_held a file ≡ false
  away file birth h =
      let wished = is_with_birth (wish_at a file) birth in
      let filled = is_fill_at (fill_at a file) birth in
      elim (or_cases wished (not (is_held a file) && filled) h) [
        | inl wish ↦ (let w = wish_there (wish_at a file) birth wish in
            (k.births.wished file w.0 w.1).0)
        | inr fill ↦ not-true (is_held a file) (and_parts (not (is_held a file)) filled fill).0
      ]

  pending : (file : FileId) (birth : ℕ) → is_pending a file birth ≡ true → core_at a file ≡ None
  pending file birth h =
      ap (option_map core_of)
      (none_there (replica_at a file) (k.together file ∙ away file birth h))

  pub paired : IsPaired a
  paired = record {
    pending = pending;
    both = λ file h. one_there (replica_at a file) (k.together file ∙ h);
    away = λ file h. ap (option_map core_of) (none_there (replica_at a file) (k.together file ∙ h));
    births = λ file c e.
        let x = replica_of_core a file c e in
        let birth = ap (λ (d : Core). d.birth) x.2 in
        (k.births.replicas file c.birth
        (ap (option_map (λ (y : Replica). y.birth)) x.1 ∙ ap Some birth)).1;
  }

-- the birth of what is held was given out, and is not to come
pub past_now : (b : Store) → IsPaired b → (v : Born) (c : Core) → core_at b v.made.file ≡ Some c
    → c.birth ≡ v.birth → IsPast b v
past_now b k v c is born = (
  (let given = k.births v.made.file c is in omega arith),
  by (is_pending b v.made.file v.birth) refl,
)
  where
    by : (t : Bool) → is_pending b v.made.file v.birth ≡ t → t ≡ false
    by false e = refl
    by true e =
        absurd (let z : None ≡ Some c = sym (k.pending v.made.file v.birth e) ∙ is in cc)
