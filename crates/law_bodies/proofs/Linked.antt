-- What a link to a birth of a peer leaves as it was: all but one replica's edges.
use Rattle.std.proofs.Common.{ℕ, ◌≡◌, false, length, Option, None, Some, refl}
use Rattle.pg_run.specs.pg_base.declared.id.FileId.{FileId}
use Rattle.pg_run.specs.pg_base.Id.{is_same_file}
use Rattle.pg_run.specs.pg_replica.declared.replica.Replica.{Replica}
use Rattle.pg_run.specs.pg_replica.Replica.{with_link}
use Rattle.pg_run.specs.pg_replica.Replicas.{replicas_linked}
use Rattle.pg_run.specs.pg_store.declared.store.Store.{Store}
use Rattle.pg_run.specs.pg_store.Links.{keys, put_link}
use Rattle.pg_run.specs.pg_store.Store.{content_of, replica_at, with_drawn}
use Rattle.pg_run.proofs.theory_flood_pieces.Stores.{content_by, replica_elsewhere, replica_here}

-- a store as another, but for the edges of one replica
pub record IsBeside (a b : Store) (file : FileId) : Type 0 where
  pub names : b.names ≡ a.names
  pub intents : b.intents ≡ a.intents
  pub announced : b.announced ≡ a.announced
  pub content : content_of b file ≡ content_of a file
  pub others : (f : FileId) → is_same_file f file ≡ false → replica_at b f ≡ replica_at a f

pub beside_itself : (a : Store) (file : FileId) → IsBeside a a file
beside_itself a file = record {
  names = refl;
  intents = refl;
  announced = refl;
  content = refl;
  others = λ f apart. refl;
}

module _ (a : Store) (file : FileId) (peer birth : ℕ) where
  abbrev With : Option Replica → Store
  With o = with_drawn a (length (keys a file))
      (replicas_linked a.replicas file peer birth (keys a file) a.tags o)

  linked_by : (o : Option Replica) → replica_at a file ≡ o → IsBeside a (With o) file
  linked_by None is = record {
    names = refl;
    intents = refl;
    announced = refl;
    content = refl;
    others = λ f apart. refl;
  }
  linked_by (Some x) is =
      let y = with_link x peer birth (keys a file) a.tags in
      let b = With (Some x) in
      record {
        names = refl;
        intents = refl;
        announced = refl;
        content = content_by a b file x y is
            (replica_here a b file x y (record { old = is; replicas = refl })) refl;
        others = λ f apart.
            replica_elsewhere a b file x y f (record { old = is; replicas = refl }) apart;
      }

  pub put_beside : IsBeside a (put_link a file peer birth) file
  put_beside = linked_by (replica_at a file) refl
