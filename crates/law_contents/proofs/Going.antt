-- A replica goes: nothing that came to it is left, and all others are as before.
use Rattle.std.proofs.Common.{ℕ, ◌≡◌, ◌≤◌, Bool, true, false, cond, not, List, [], ◌∷◌, Option, None, Some, option_map, refl, sym, ap, subst, ◌∙◌}
use Rattle.std.specs.BTreeMap.{is_at}
use Rattle.pg_run.specs.pg_announced.declared.announced.Announced.{Announced}
use Rattle.pg_run.specs.pg_announced.declared.announced.NoteKey.{NoteKey}
use Rattle.pg_run.specs.pg_announced.Announced.{key_at}
use Rattle.pg_run.proofs.pg_announced.Found.{kept_found}
use Rattle.pg_run.proofs.pg_announced.Sorted.{sorted_kept}
use Rattle.pg_run.specs.pg_base.declared.id.FileId.{FileId}
use Rattle.pg_run.specs.pg_base.declared.policy.Policy.{Policy}
use Rattle.pg_run.specs.pg_base.declared.stamp.Stamp.{Stamp}
use Rattle.pg_run.specs.pg_base.Id.{file_cmp, is_same_file}
use Rattle.pg_run.proofs.pg_base.Orders.{is_same_file-refl, is_same_file-true}
use Rattle.pg_run.specs.pg_content.Content.{Among}
use Rattle.pg_run.specs.pg_edges.declared.edge.Edge.{Edge}
use Rattle.pg_run.specs.pg_pieces.Done.{Done}
use Rattle.pg_run.specs.pg_pieces.Intending.{begin_intent}
use Rattle.pg_run.specs.pg_graph.Leaving.{begin_byes, bye_to}
use Rattle.pg_run.proofs.pg_names.Lookups.{apart_back}
use Rattle.pg_run.proofs.pg_replica.Going.{replica_behind}
use Rattle.pg_run.proofs.pg_replica.Merging.{sorted_filter}
use Rattle.pg_run.specs.Journal.{Born, made_for}
use Rattle.pg_run.specs.Took.{Take, stamps_taken, without, without_gone}
use Rattle.pg_run.proofs.Gone.{stamps_gone, stamps_stay}
use Rattle.pg_run.specs.pg_store.declared.store.Store.{Store}
use Rattle.pg_run.specs.pg_store.Beginning.{let_go}
use Rattle.pg_run.specs.pg_store.Store.{replica_at}
use Rattle.law_contents.proofs.Changes.{Core, IsOrdered, Keeps-refl, content_in, core_at, core_of}
use Rattle.law_contents.proofs.Files.{none_stood}
use Rattle.law_contents.proofs.Quiet.{Quiet, begin_quiet, quiet_then}
use Rattle.law_contents.proofs.Servers.{Came, IsBy, Stands, StandsAs, came_of}
use Rattle.law_contents.proofs.Sets.{AreMembers}

-- what came, but for the replica that went
abbrev pub came_without : Option FileId → Came → Came
came_without None came q = came q
came_without (Some file) came q = cond (is_same_file q file) [] (came q)

-- as what is left of takes tells
pub came_left : (o : Option FileId) (takes : List Take) (q : FileId)
    → came_of (without_gone o takes) q ≡ came_without o (came_of takes) q
came_left None takes q = refl
came_left (Some file) takes q = by (is_same_file q file) refl
  where
    by : (t : Bool) → is_same_file q file ≡ t
        → stamps_taken q (without file takes) ≡ cond t [] (stamps_taken q takes)
    by true e =
        subst (λ (f : FileId). stamps_taken f (without file takes) ≡ [])
        (sym (is_same_file-true q file e)) (stamps_gone file takes)
    by false e = stamps_stay file q takes e

-- ---- the replica is not there, and all others are as before

module _ (a : Store) (file : FileId) where
  pub core_gone : core_at (let_go a file) file ≡ None
  core_gone =
      ap (option_map core_of) (replica_behind a.replicas file file
      ∙ ap (λ (t : Bool). cond (not t) (replica_at a file) None) (is_same_file-refl file))

  pub core_stays : (f : FileId) → is_same_file f file ≡ false
      → core_at (let_go a file) f ≡ core_at a f
  core_stays f other =
      ap (option_map core_of) (replica_behind a.replicas file f
      ∙ ap (λ (t : Bool). cond (not t) (replica_at a f) None) (apart_back f file other))

  pub order_stays : IsOrdered a.replicas → IsOrdered (let_go a file).replicas
  order_stays order =
      sorted_filter file_cmp (λ (f : FileId). not (is_at (file_cmp file) f)) a.replicas order

  -- a fact on things and what came to them
  by_gone : (P : FileId → Option Core → List Stamp → Type 0) (came : Came) → P file None []
      → ((q : FileId) → is_same_file q file ≡ false → P q (core_at a q) (came q)) → (q : FileId)
      → P q (core_at (let_go a file) q) (came_without (Some file) came q)
  by_gone P came here there q = by (is_same_file q file) refl
    where
      by : (t : Bool) → is_same_file q file ≡ t
          → P q (core_at (let_go a file) q) (cond t [] (came q))
      by true e =
          let Q : FileId → Type 0 = (λ f. P f (core_at (let_go a file) f) []) in
          let R : Option Core → Type 0 = (λ o. P file o []) in
          subst Q (sym (is_same_file-true q file e)) (subst R (sym core_gone) here)
      by false e =
          let R : Option Core → Type 0 = (λ o. P q o (came q)) in
          subst R (sym (core_stays q e)) (there q e)

  pub held_before : (f : FileId) (c : Core) → core_at (let_go a file) f ≡ Some c
      → core_at a f ≡ Some c
  held_before f c is =
      by_gone (λ q o set. (k : Core) → o ≡ Some k → core_at a q ≡ Some k) (λ q. [])
      (λ k e. absurd (let z : None ≡ Some k = e in cc)) (λ q other k e. e) f c is

  module _ {s : ℕ} {us : List Born} {p : FileId → Policy} {came : Came}
      (k : Stands s a us p came) where
    -- what is noted of other files
    abbrev stays : NoteKey × Announced → Bool
    stays e = not (is_same_file e.0.file file)

    -- A REPLICA GOES
    pub stands_gone : Stands s (let_go a file) us p (came_without (Some file) came)
    stands_gone = record {
      files = by_gone (λ q o set. StandsAs s o (made_for q us) set) came
          (none_stood (IsBy s None) (content_in None) refl (made_for file us) (λ m l by. by))
          (λ q other. k.files q);
      policies = λ q c e. k.policies q c (held_before q c e);
      known = by_gone (λ q o set. AreMembers (made_for q us) set) came (λ t l. absurd l)
          (λ q other. k.known q);
      upto = by_gone (λ q o set. (t : Stamp) → Among t set → t.time ≤ a.names.last) came
          (λ t l. absurd l) (λ q other. k.upto q);
      kept = λ q c e. k.kept q c (held_before q c e);
      ranges = λ q c e. k.ranges q c (held_before q c e);
      sorted = sorted_kept stays a.announced k.sorted;
      notes = λ q stamp n e. k.notes q stamp n
          (kept_found stays a.announced (key_at q stamp) n k.sorted e);
    }

-- ---- its peers are told

module _ (us : List Born) (p : FileId → Policy) (N : FileId → Type 0) (file : FileId) (birth : ℕ)
  where
    pub byes_quiet : (es : List Edge) (d : Done)
        → Quiet us p N d.store d.work (begin_byes file birth es d)
    byes_quiet [] d = record {
      keeps = Keeps-refl d.store;
      none = refl;
      takes = λ q. refl;
      sent = λ h. h;
      tail = λ h. h;
    }
    byes_quiet (e ∷ es) d =
        quiet_then us p N (begin_quiet us p N d.store (bye_to file birth e) d.work)
        (byes_quiet es (begin_intent d.store (bye_to file birth e) d.work))
