-- Births that are found at a server.
use Rattle.std.proofs.Common.{ℕ, ◌≡◌, Bool, true, cond, Option, None, Some, ap, ◌∙◌}
use Rattle.std.specs.Option.{option_map}
use Rattle.std.proofs.lemmas.Bool.{eqb-true}
use Rattle.pg_run.specs.pg_base.declared.id.FileId.{FileId}
use Rattle.pg_run.specs.pg_base.declared.policy.Policy.{Policy}
use Rattle.pg_run.specs.pg_base.Id.{file_cmp}
use Rattle.pg_run.proofs.pg_base.Maps.{lookup-insert_entry}
use Rattle.pg_run.proofs.pg_base.Orders.{file_total, is_same_file-refl}
use Rattle.pg_run.specs.pg_names.declared.attributes.Attributes.{Attributes}
use Rattle.pg_run.specs.pg_replica.declared.replica.Replica.{Replica}
use Rattle.pg_run.specs.pg_replica.Replica.{new_replica}
use Rattle.pg_run.specs.pg_replica.Replicas.{is_of_birth, or_nothing}
use Rattle.pg_run.specs.pg_store.declared.store.Store.{Store}
use Rattle.pg_run.specs.pg_store.Beginning.{begin, patches_of, put_new}
use Rattle.pg_run.specs.pg_store.Births.{birth_of}
use Rattle.pg_run.specs.pg_store.Store.{is_held, replica_at}
use Rattle.pg_run.specs.pg_store.Together.{AreTogether, birth_at}
use Rattle.pg_run.proofs.pg_store.Pairs.{patches_as_before}
use Rattle.pg_run.proofs.theory_flood_pieces.Together.{replica_of_held}

born_is : (o : Option Replica) (n : ℕ) → option_map (λ (x : Replica). x.birth) o ≡ Some n → (or_nothing o).birth ≡ n
born_is None n there = cc
born_is (Some x) n there = (let same : x.birth ≡ n = cc in same)

pub birth_is : (a : Store) (f : FileId) (n : ℕ) → birth_at a f ≡ Some n → birth_of a f ≡ n
birth_is a f n there = born_is (replica_at a f) n there

-- of a replica that begins
pub born_here : (a : Store) (f : FileId) (birth : ℕ) (policy : Policy) (own : Attributes) (full : Bool)
    → birth_at (begin a f birth policy own full) f ≡ Some birth
born_here a f birth policy own full =
    (patches_as_before (put_new a f birth policy own full) f (patches_of f a.intents)).births f
    ∙ ap (option_map (λ (x : Replica). x.birth)) (lookup-insert_entry file_cmp file_total f f (new_replica birth policy) a.replicas)
    ∙ ap (λ t. option_map (λ (x : Replica). x.birth) (cond t (Some (new_replica birth policy)) (replica_at a f))) (is_same_file-refl f)

-- of the replica of a birth
pub of_birth : (o : Option Replica) (n : ℕ) → is_of_birth o n ≡ true → option_map (λ (x : Replica). x.birth) o ≡ Some n
of_birth None n e = cc
of_birth (Some x) n e = ap (λ (m : ℕ). Some m) (eqb-true x.birth n e)

-- of what is held
pub birth_of_held : (a : Store) → AreTogether a → (f : FileId) → is_held a f ≡ true → (n : ℕ) × (birth_at a f ≡ Some n)
birth_of_held a both f held =
    let x = replica_of_held a both f held in
    (x.0.birth, ap (option_map (λ (y : Replica). y.birth)) x.1)
