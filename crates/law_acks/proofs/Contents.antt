-- What is known of contents, of what begins and of directories, as the pieces of an event ask for
-- it.
use Rattle.std.proofs.Common.{ℕ, ◌≡◌, List, [], length, Option, None, Some, refl, sym, ap, subst, ◌∙◌}
use Rattle.pg_run.specs.pg_base.declared.id.FileId.{FileId}
use Rattle.pg_run.specs.pg_base.declared.policy.Policy.{Policy}
use Rattle.pg_run.specs.pg_base.Version.{VersionValue}
use Rattle.pg_run.specs.pg_content.Content.{Among, ContentValue}
use Rattle.pg_run.specs.pg_content.Covering.{AreVersionsOf}
use Rattle.pg_run.specs.pg_content.History.{IsHistory, Made, version_of}
use Rattle.pg_run.specs.pg_content.StandsFor.{InStrictOrder}
use Rattle.pg_run.specs.pg_replica.declared.replica.Replica.{Replica}
use Rattle.pg_run.specs.pg_replica.Replica.{with_link}
use Rattle.pg_run.specs.pg_replica.Replicas.{or_nothing, replicas_linked}
use Rattle.pg_run.specs.pg_store.declared.store.Store.{Store}
use Rattle.pg_run.specs.pg_store.Links.{is_new_link, keys, link, put_link}
use Rattle.pg_run.specs.pg_store.Store.{content_of, replica_at, with_drawn}
use Rattle.pg_run.specs.theory_flood_pieces.Histories.{IsOfHistory}
use Rattle.pg_run.proofs.theory_flood_pieces.Choices.{chosen}
use Rattle.pg_run.proofs.theory_flood_pieces.Stores.{replica_here}

-- a version comes to a file: it is one of a history, as the file's policy has it, and the heads
-- that are held are of that history
pub record IsComing (a : Store) (file : FileId) (v : VersionValue) : Type 0 where
  pub policy : Policy
  pub history : List Made
  pub made : Made
  pub among : Among made history
  pub whole : v ≡ version_of policy history made
  pub held : (x : Replica) → replica_at a file ≡ Some x
      → IsOfHistory history x.content × (x.content.policy ≡ policy)

-- the heads of each file that is held are of a history, and each file has one
pub record AreOfHistory (a : Store) : Type 0 where
  pub histories : FileId → List Made
  pub are : (file : FileId) → IsHistory (histories file)
  pub held : (file : FileId) (x : Replica) → replica_at a file ≡ Some x
      → IsOfHistory (histories file) x.content

pub content_held : (a : Store) (file : FileId) (x : Replica) → replica_at a file ≡ Some x
    → content_of a file ≡ x.content
content_held a file x here = ap (λ (o : Option Replica). (or_nothing o).content) here

-- what has no head is of every history
pub none_of_history : (h : List Made) (c : ContentValue) → IsHistory h → c.heads ≡ [] → IsOfHistory h c
none_of_history h c is e = record {
  history = is;
  order = subst InStrictOrder (sym e) tt;
  versions = subst (AreVersionsOf c.policy h) (sym e) (λ v k. absurd k);
}

-- ---- a link leaves contents

module _ (a : Store) (file : FileId) (peer birth : ℕ) where
  abbrev linked : Option Replica → Store
  linked o = with_drawn a (length (keys a file))
      (replicas_linked a.replicas file peer birth (keys a file) a.tags o)

  linked_content : (o : Option Replica) → replica_at a file ≡ o
      → content_of (linked o) file ≡ content_of a file
  linked_content None is = refl
  linked_content (Some x) is =
      ap (λ (o : Option Replica). (or_nothing o).content)
      (replica_here a (linked (Some x)) file x (with_link x peer birth (keys a file) a.tags)
      (record { old = is; replicas = refl }))
      ∙ sym (content_held a file x is)

  pub link_content : content_of (link a file peer birth) file ≡ content_of a file
  link_content =
      chosen (λ (b : Store). content_of b file ≡ content_of a file) (is_new_link a file peer birth)
      (put_link a file peer birth) a (linked_content (replica_at a file) refl) refl
