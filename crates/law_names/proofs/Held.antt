-- What is held: by messages that are accepted; and what is not held is not the root.
use Rattle.std.proofs.Common.{ℕ, ◌≡◌, Bool, true, false, not, Option, None, Some, refl, sym, subst}
use Rattle.std.specs.Option.{is_some}
use Rattle.std.proofs.lemmas.Bool.{false≢true, and_parts}
use Rattle.pg_run.specs.pg_base.declared.id.FileId.{FileId}
use Rattle.pg_run.specs.pg_base.Id.{is_same_file}
use Rattle.pg_run.proofs.pg_base.Orders.{is_same_file-true}
use Rattle.pg_run.specs.pg_msg.declared.message.Ends.{Ends}
use Rattle.pg_run.specs.pg_names.Names.{InodeValue, is_full_of, known}
use Rattle.pg_run.specs.pg_register.Place.{root}
use Rattle.pg_run.specs.pg_house.Facts.{IsHeld}
use Rattle.pg_run.proofs.theory_flood_pieces.Together.{held_of_replica, own_of_held}
use Rattle.pg_run.specs.pg_replica.declared.replica.Replica.{Replica}
use Rattle.pg_run.specs.pg_replica.Replicas.{is_of_birth}
use Rattle.pg_run.specs.pg_store.declared.store.Store.{Store}
use Rattle.pg_run.specs.pg_store.Births.{has_birth}
use Rattle.pg_run.specs.pg_store.Links.{knows_later}
use Rattle.pg_run.specs.pg_store.Store.{is_full, is_held, replica_at}
use Rattle.pg_run.specs.pg_store.Together.{AreTogether}
use Rattle.pg_run.specs.pg_pieces.Accepting.{is_current}

birth_held : (a : Store) → AreTogether a → (f : FileId) (birth : ℕ) (o : Option Replica) → replica_at a f ≡ o → is_of_birth o birth ≡ true → IsHeld a.names f
birth_held a together f birth None e h = absurd (false≢true h)
birth_held a together f birth (Some x) e h = own_of_held a.names f (held_of_replica a together f x e)

pub current_held : (a : Store) → AreTogether a → (from : ℕ) (ends : Ends) → is_current a from ends ≡ true → IsHeld a.names ends.file
current_held a together from ends h =
    birth_held a together ends.file ends.receiver (replica_at a ends.file) refl
    (and_parts (has_birth a ends.file ends.receiver) (not (knows_later a ends.file from ends.sender)) h).0

pub none_of : (o : Option InodeValue) → is_some o ≡ false → o ≡ None
none_of None h = refl
none_of (Some x) h = absurd (false≢true (sym h))

full_held : (o : Option InodeValue) (t : Bool) → is_some o ≡ false → is_full_of o ≡ true → ⊥
full_held None t none h = false≢true h
full_held (Some x) t none h = false≢true (sym none)

-- what is not held is not the root, which is
pub away_inner : (a : Store) (f : FileId) → is_full a root ≡ true → is_held a f ≡ false → (t : Bool) → is_same_file f root ≡ t → t ≡ false
away_inner a f top away false e = refl
away_inner a f top away true e =
    let P : FileId → Type 0 = λ x. is_held a x ≡ false in
    absurd (full_held (known a.names root) true (subst P (is_same_file-true f root e) away) top)
