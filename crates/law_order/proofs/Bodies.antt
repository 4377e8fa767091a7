-- What is noted of versions, and deltas that are kept, leave a server sound.
use Rattle.std.proofs.Common.{ℕ, ◌≡◌, Option, None, Some, refl}
use Rattle.law_frame.specs.pg_run.pg_base.declared.id.FileId.{FileId}
use Rattle.law_frame.specs.pg_run.pg_announced.Announced.{NotesValue}
use Rattle.law_frame.specs.pg_run.pg_delta.declared.delta.KeptDelta.{KeptDelta}
use Rattle.law_frame.specs.pg_run.pg_replica.declared.replica.Replica.{Replica}
use Rattle.law_frame.specs.pg_run.pg_replica.Replica.{with_kept}
use Rattle.law_frame.specs.pg_run.pg_replica.Replicas.{ByFile, replica_in, replicas_keeping}
use Rattle.law_frame.specs.pg_run.pg_server.pg_transfer.Asking.{with_notes}
use Rattle.law_frame.specs.pg_run.pg_store.declared.store.Store.{Store}
use Rattle.law_frame.specs.pg_run.pg_store.Store.{keep_delta, replica_at}
use Rattle.law_frame.specs.pg_run.pg_store.Together.{HoldsAsBefore}
use Rattle.law_frame.proofs.pg_run.pg_store.Given.{births_as_before}
use Rattle.law_frame.proofs.pg_run.pg_store.Pairs.{made_seen, replicas_only, together_as_before}
use Rattle.law_frame.specs.pg_run.theory_flood_pieces.Whole.{IsWhole}
use Rattle.law_frame.proofs.pg_run.theory_flood_pieces.Whole.{AreGraphs, edges_at, graphs_of, graphs_put, whole_by}
use Rattle.law_order.specs.Saying.{Saying}
use Rattle.law_order.proofs.Pieces.{named_on}
use Rattle.law_order.proofs.Sounding.{Sound, sound_alike, sound_by}

-- ---- nothing begins

pub noted_as_before : (a : Store) (ns : NotesValue) → HoldsAsBefore a (with_notes a ns)
noted_as_before a ns = replicas_only a (with_notes a ns) (λ q. refl) (λ q. refl) refl refl refl

pub kept_as_before : (a : Store) (file : FileId) (delta : KeptDelta) → HoldsAsBefore a (keep_delta a file delta)
kept_as_before a file delta =
    replicas_only a (keep_delta a file delta) (λ q. refl)
    (made_seen (λ (x : Replica). x.birth) a.replicas file (λ o. replicas_keeping a.replicas file delta o) (λ x. with_kept x delta)
    (replica_at a file) refl refl (λ x. refl) (λ x. refl))
    refl refl refl

-- ---- edges are as they were

graphs_kept : (n s : ℕ) (rs : ByFile) (file : FileId) (delta : KeptDelta) → AreGraphs n s rs → (o : Option Replica) → replica_in rs file ≡ o
    → AreGraphs n s (replicas_keeping rs file delta o)
graphs_kept n s rs file delta k None e = k
graphs_kept n s rs file delta k (Some x) e = graphs_put n s rs file k (with_kept x delta) (edges_at n s rs file k x e)

pub whole_kept : (n s : ℕ) (a : Store) → IsWhole n s a → (file : FileId) (delta : KeptDelta) → IsWhole n s (keep_delta a file delta)
whole_kept n s a k file delta =
    whole_by n s a (keep_delta a file delta) k refl refl k.names
    (graphs_kept n s a.replicas file delta (graphs_of n s a k) (replica_at a file) refl)
    (together_as_before a (keep_delta a file delta) (kept_as_before a file delta) k.together) k.patches

-- ---- a server stays sound

module _ (p : Saying) (n s : ℕ) (a : Store) (k : Sound p n s a) where
  pub sound_noted : (ns : NotesValue) → Sound p n s (with_notes a ns)
  sound_noted ns =
      sound_alike p n s a k (with_notes a ns) (record { servers = refl; tags = refl; names = refl; replicas = refl })
      (births_as_before a (with_notes a ns) (noted_as_before a ns) k.births) k.keys k.named.intents

  pub sound_kept : (file : FileId) (delta : KeptDelta) → Sound p n s (keep_delta a file delta)
  sound_kept file delta =
      sound_by p n s a k (keep_delta a file delta) (whole_kept n s a k.whole file delta) (named_on p a (keep_delta a file delta) k.named refl refl)
      (kept_as_before a file delta) refl
