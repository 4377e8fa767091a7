-- Checks one behind another: what the whole found, each of them found.
use Rattle.std.proofs.Common.{◌≡◌, Bool, true, false, Result, Ok, Err, refl, ◌∙◌}
use Rattle.pg_base.specs.declared.id.FileId.{FileId}
use Rattle.pg_patch.specs.Ranges.{RangesValue}
use Rattle.pg_cells.specs.pg_replica.Replica.{has_many_actors, is_too_long}
use Rattle.pg_cells.specs.pg_call.declared.refusal.Refusal.{Refusal}
use Rattle.pg_cells.specs.pg_call.declared.refusal.Refusal.TheVariants.{ManyActors, TooLong}
use Rattle.pg_checks.specs.pg_lookup.declared.paths.LookupError.{LookupError}
use Rattle.pg_checks.specs.pg_lookup.declared.paths.LookupError.TheVariants as stop
use Rattle.pg_checks.specs.pg_lookup.Walk.{and_then}
use Rattle.pg_cells.specs.pg_store.declared.store.Store.{Store}
use Rattle.pg_cells.specs.pg_store.Seen.{server_of}
use Rattle.pg_cells.specs.pg_store.Store.{replica_of}
use Rattle.pg_checks.specs.Answer.{unless}
use Rattle.pg_calls.specs.Bodies.{when_fit}

pub same_ok : {A : Type 0} (x y : A) → ◌≡◌ {A = Result A LookupError} (Ok x) (Ok y) → x ≡ y
same_ok x y h = cc

pub no_ok : {A : Type 0} (why : LookupError) (x : A) → ◌≡◌ {A = Result A LookupError} (Err why) (Ok x) → ⊥
no_ok why x h = cc

-- a check behind another
pub behind : {A B : Type 0} (first : Result A LookupError) (second : A → Result B LookupError) (found : B) → and_then first second ≡ Ok found → (x : A) × (first ≡ Ok x) × (second x ≡ Ok found)
behind (Err why) second found h = absurd (no_ok why found h)
behind (Ok x) second found h = (x, refl, h)

-- a check by a test
pub unless_ok : {A : Type 0} (bad : Bool) (why : Refusal) (x y : A) → unless bad why x ≡ Ok y → (bad ≡ false) × (x ≡ y)
unless_ok true why x y h = absurd (no_ok (stop.Refused why) y h)
unless_ok false why x y h = (refl, same_ok x y h)

-- what fits is the file itself
pub fit_found : (store : Store) (ranges : RangesValue) (f g : FileId) → when_fit store ranges f ≡ Ok g → f ≡ g
fit_found store ranges f g h =
    let b = behind (unless (is_too_long (replica_of store f) ranges) TooLong f) (λ fit. unless (has_many_actors (replica_of store fit) (server_of store)) ManyActors fit) g h in
    (unless_ok (is_too_long (replica_of store f) ranges) TooLong f b.0 b.1).1 ∙ (unless_ok (has_many_actors (replica_of store b.0) (server_of store)) ManyActors b.0 g b.2).1
