-- A version is taken as a change of what heads show, and the change is kept; or it comes again.
use Rattle.std.proofs.Common.{ℕ, ◌≡◌, cond, List, [], ◌∷◌, ◌++◌, map, Option, Some, option_map, refl, sym, ap, subst, ◌∙◌, inl, arith}
use Rattle.std.proofs.lemmas.List.{append-nil}
use Rattle.pg_run.specs.pg_announced.declared.announced.Announced.{Announced}
use Rattle.pg_run.specs.pg_base.declared.id.FileId.{FileId}
use Rattle.pg_run.specs.pg_base.declared.policy.Policy.{Policy}
use Rattle.pg_run.specs.pg_base.declared.stamp.Stamp.{Stamp}
use Rattle.pg_run.specs.pg_base.Id.{file_cmp, is_same_file}
use Rattle.pg_run.specs.pg_base.Version.{VersionValue}
use Rattle.pg_run.proofs.pg_base.Maps.{lookup-insert_entry}
use Rattle.pg_run.proofs.pg_base.Orders.{file_total, is_same_file-refl}
use Rattle.pg_run.specs.pg_patch.Ranges.{IsRanges}
use Rattle.pg_run.specs.pg_content.Content.{Among}
use Rattle.pg_run.specs.pg_content.History.{Made}
use Rattle.pg_run.specs.pg_delta.declared.delta.KeptDelta.{KeptDelta}
use Rattle.pg_run.specs.pg_delta.Kept.{with_delta}
use Rattle.pg_run.specs.pg_delta.Leading.{IsTrueDelta}
use Rattle.pg_run.specs.pg_delta.Taking.{delta_to, patched_version}
use Rattle.pg_run.specs.pg_msg.declared.message.Delta.{Delta}
use Rattle.pg_run.specs.pg_msg.declared.message.Ends.{Ends}
use Rattle.pg_run.specs.pg_msg.declared.work.Work.{Work}
use Rattle.pg_run.specs.pg_msg.Work.{new_work}
use Rattle.pg_run.specs.pg_pieces.Done.{Done, idle}
use Rattle.pg_run.specs.pg_replica.declared.replica.Replica.{Replica}
use Rattle.pg_run.specs.pg_replica.Replica.{with_kept}
use Rattle.pg_run.specs.pg_replica.Replicas.{replica_in, replicas_keeping}
use Rattle.pg_run.specs.Journal.{Born, made_for, with_ancestors}
use Rattle.pg_run.specs.Took.{Take, take_of}
use Rattle.pg_run.specs.Took.Take.{TookVersion}
use Rattle.pg_run.specs.pg_server.pg_transfer.Delta.{patched}
use Rattle.pg_run.specs.pg_store.declared.store.Store.{Store}
use Rattle.pg_run.specs.pg_store.Store.{keep_delta, replica_at}
use Rattle.pg_run.specs.theory_bodies.Book.{IsHeadOf, IsVersionOf}
use Rattle.pg_run.proofs.theory_bodies.Computing.{HaveRanges}
use Rattle.law_contents.proofs.Arrivals.{Arrives, more_came}
use Rattle.law_contents.proofs.Changes.{Alters, Core, by_altered, core_at, core_of}
use Rattle.law_contents.proofs.Ranges.{ranges_with}
use Rattle.law_contents.proofs.Sending.{none_carry}
use Rattle.law_contents.proofs.Servers.{Came, IsServer, Stands, stands_same}
use Rattle.law_contents.proofs.Taken.{IsFrame, again_stands, delta_alters, delta_stands, taken_arrives}

module _ {s : ℕ} {a : Store} {us : List Born} {p : FileId → Policy} {N : FileId → Type 0}
    {came : Came} (k : IsServer s a us p N came) (from : ℕ) (ends : Ends) (d : Delta) (x : Replica)
    (there : replica_at a ends.file ≡ Some x) where
  abbrev work : Work
  work = new_work 0 from

  abbrev file : FileId
  file = ends.file

  abbrev stamp : Stamp
  stamp = d.head.stamp

  abbrev history : List Made
  history = made_for file us

  abbrev Brings : Done → List Take → Type 0
  Brings e more = Arrives s a us p N came e (map take_of e.work.made ++ more)

  abbrev Version : List Take
  Version = TookVersion file stamp ∷ []

  here : core_at a file ≡ Some (core_of x)
  here = ap (option_map core_of) there

  -- ---- a version that is covered

  pub again_comes : IsHeadOf (p file) history d.head
      → Among stamp (with_ancestors history (came file)) → Brings (idle a work) Version
  again_comes is covered = record {
    server = refl;
    last = omega arith;
    files = omega arith;
    order = λ z. z;
    held = λ f c e. inl (k.held f c e);
    stands = stands_same (again_stands k.made k.stands file x there d.head is covered)
        (more_came Version came)
        (λ f. ap (λ (ts : List Stamp). ts ++ came f)
        (append-nil (cond (is_same_file file f) (stamp ∷ []) [])));
    none = refl;
    sent = none_carry us p N;
    tail = none_carry us p N;
  }

  -- ---- one that is new

  module _ (n : Announced) (at : n.head.stamp ≡ stamp)
      (is : IsVersionOf (p file) history (patched_version x.content n.head d.ranges))
      (true_ : IsTrueDelta (p file) history (delta_to d.from n.head.stamp d.ranges))
      (ranges : IsRanges d.ranges) where
    abbrev pub kept : KeptDelta
    kept = delta_to d.from n.head.stamp d.ranges

    abbrev pub version : VersionValue
    version = patched_version x.content n.head d.ranges

    abbrev pub KeptStore : Store
    KeptStore = keep_delta a file kept

    fit : HaveRanges (with_delta x.kept kept)
    fit = ranges_with x.kept kept (k.stands.ranges file (core_of x) here) ranges

    pub alters : Alters a KeptStore file (Some (core_of (with_kept x kept)))
    alters = delta_alters k.made k.stands file x there kept true_ fit

    stands : Stands s KeptStore us p came
    stands = delta_stands k.made k.stands file x there kept true_ fit

    frame : IsFrame a KeptStore N
    frame = record {
      server = alters.server;
      last = alters.last;
      files = alters.files;
      order = alters.order;
      held = by_altered (λ f o. (c : Core) → o ≡ Some c → N f) a KeptStore file
          (Some (core_of (with_kept x kept))) alters
          (λ c e. k.held file (core_of x) here) (λ f apart c e. k.held f c e);
    }

    found : replica_at KeptStore file ≡ Some (with_kept x kept)
    found =
        let y = with_kept x kept in
        let P : Option Replica → Type 0 =
        (λ o. replica_in (replicas_keeping a.replicas file kept o) file ≡ Some y) in
        subst P (sym there)
        (lookup-insert_entry file_cmp file_total file file y a.replicas
        ∙ ap (λ t. cond t (Some y) (replica_in a.replicas file)) (is_same_file-refl file))

    pub patched_comes : Brings (patched (version, n.tag) a ends d work) Version
    patched_comes =
        let R : Stamp → Type 0 =
        (λ u. Brings (patched (version, n.tag) a ends d work) (TookVersion file u ∷ [])) in
        subst R at
        (taken_arrives k ends n.tag version is KeptStore frame stands (with_kept x kept) found work
        refl (λ f. refl) (none_carry us p N) (none_carry us p N))
