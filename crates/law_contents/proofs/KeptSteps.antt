-- How the deltas that a replica keeps go on: they stay, or end with it, and others are kept
-- besides.
use Rattle.std.proofs.Common.{ℕ, ◌≡◌, ◌⊎◌, Bool, true, false, cond, List, [], ◌∷◌, ◌++◌, map, Option, None, Some, option_map, inl, inr, refl, sym, ap, subst, ◌∙◌}
use Rattle.std.specs.List.{filter}
use Rattle.std.proofs.lemmas.List.{append_assoc, append-nil}
use Rattle.pg_run.specs.pg_base.declared.id.FileId.{FileId}
use Rattle.pg_run.specs.pg_base.declared.policy.Policy.{Policy}
use Rattle.pg_run.specs.pg_base.Id.{is_same_file}
use Rattle.pg_run.specs.pg_base.Version.{VersionValue}
use Rattle.pg_run.proofs.pg_base.Orders.{is_same_file-refl}
use Rattle.pg_run.specs.pg_content.Content.{joined_content}
use Rattle.pg_run.specs.pg_delta.declared.delta.KeptDelta.{KeptDelta}
use Rattle.pg_run.specs.pg_delta.Kept.{kept_deltas, with_delta}
use Rattle.pg_run.proofs.pg_delta.Ends.{kept_next}
use Rattle.pg_run.specs.pg_msg.declared.update.MadeVersion.{MadeVersion}
use Rattle.pg_run.specs.pg_msg.declared.update.Update.{Update}
use Rattle.pg_run.proofs.pg_names.Lookups.{apart_back}
use Rattle.pg_run.specs.pg_replica.declared.replica.Replica.{Replica}
use Rattle.pg_run.specs.pg_replica.Replicas.{takes_version}
use Rattle.pg_run.specs.Deltas.{delta_made, deltas_made}
use Rattle.pg_run.specs.Journal.{versions_in}
use Rattle.pg_run.specs.pg_store.declared.store.Store.{Store}
use Rattle.pg_run.specs.pg_store.Store.{put_version, replica_at, take_version}
use Rattle.law_contents.proofs.Changes.{Alters, Core, Keeps, by_altered, core_at, core_of, new_core}
use Rattle.law_contents.proofs.Versions.{version_alters}

abbrev pub kept_in : Option Core → List KeptDelta
kept_in None = []
kept_in (Some c) = c.kept

-- kept deltas, and then these
abbrev pub added : List KeptDelta → List KeptDelta → List KeptDelta
added kept [] = kept
added kept (d ∷ ds) = added (with_delta kept d) ds

-- what is held of a thing, first this and now that: what was kept stays, unless the replica went,
-- and these are kept besides
pub record KeptStep (gone : Bool) (o q : Option Core) (more : List KeptDelta) : Type 0 where
  pub kept : kept_in q ≡ added (cond gone [] (kept_in o)) more
  pub none : q ≡ None → ((o ≡ None) ⊎ (gone ≡ true)) × (more ≡ [])

pub same_step : (o q : Option Core) → q ≡ o → KeptStep false o q []
same_step o q e = record { kept = ap kept_in e; none = λ n. (inl (sym e ∙ n), refl) }

-- a replica stays or begins
pub some_step : (o : Option Core) (c : Core) (more : List KeptDelta) → c.kept ≡ added (kept_in o) more
    → KeptStep false o (Some c) more
some_step o c more e = record {
  kept = e;
  none = λ n. absurd (let z : Some c ≡ None = n in cc);
}

-- ---- of all that were made or taken

-- those that are kept, and of what is not held there are none
pub record IsKept (o : Option Core) (all : List KeptDelta) : Type 0 where
  pub kept : kept_in o ≡ kept_deltas all
  pub none : o ≡ None → all ≡ []

added_are : (all more : List KeptDelta) → added (kept_deltas all) more ≡ kept_deltas (all ++ more)
added_are all [] = ap kept_deltas (sym (append-nil all))
added_are all (d ∷ more) =
    ap (λ (ds : List KeptDelta). added ds more) (kept_next all d)
    ∙ added_are (all ++ d ∷ []) more
    ∙ ap kept_deltas (append_assoc all (d ∷ []) more)

pub step_kept : (gone : Bool) (o q : Option Core) (all more : List KeptDelta) → IsKept o all
    → KeptStep gone o q more → IsKept q (cond gone [] all ++ more)
step_kept true o q all more k step = record {
  kept = step.kept ∙ added_are [] more;
  none = λ n. (step.none n).1;
}
step_kept false o q all more k step = record {
  kept = step.kept ∙ ap (λ (ds : List KeptDelta). added ds more) k.kept ∙ added_are all more;
  none = λ n. (let s = step.none n in elim s.0 [
    | inl none ↦ (λ i. k.none none i ++ s.1 i)
    | inr gone ↦ absurd (let z : false ≡ true = gone in cc)
  ]);
}

-- ---- what was made

abbrev made_of : FileId → List MadeVersion → List KeptDelta
made_of f us = map delta_made (filter (λ (u : MadeVersion). is_same_file u.file f) us)

-- where no version was made
pub none_made : (f : FileId) (us : List Update) → versions_in us ≡ [] → deltas_made f us ≡ []
none_made f us none = ap (made_of f) none

-- where the same versions were
pub made_same : (f : FileId) (us vs : List Update) → versions_in us ≡ versions_in vs
    → deltas_made f us ≡ deltas_made f vs
made_same f us vs same = ap (made_of f) same

made_when : (t : Bool) (u : MadeVersion)
    → map delta_made (cond t (u ∷ []) []) ≡ cond t (delta_made u ∷ []) []
made_when true u = refl
made_when false u = refl

module _ (u : MadeVersion) (us : List Update) (one : versions_in us ≡ u ∷ []) where
  pub made_here : deltas_made u.file us ≡ delta_made u ∷ []
  made_here =
      ap (made_of u.file) one ∙ made_when (is_same_file u.file u.file) u
      ∙ ap (λ t. cond t (delta_made u ∷ []) []) (is_same_file-refl u.file)

  pub made_apart : (f : FileId) → is_same_file f u.file ≡ false → deltas_made f us ≡ []
  made_apart f apart =
      ap (made_of f) one ∙ made_when (is_same_file u.file f) u
      ∙ ap (λ t. cond t (delta_made u ∷ []) []) (apart_back f u.file apart)

-- a version is made of a file, behind what made none
pub wrote_steps : (a b c : Store) (u : MadeVersion) (us : List Update) → versions_in us ≡ u ∷ []
    → ((f : FileId) → KeptStep false (core_at a f) (core_at b f) []) → (core : Core)
    → Alters b c u.file (Some core)
    → core.kept ≡ with_delta (kept_in (core_at b u.file)) (delta_made u)
    → (f : FileId) → KeptStep false (core_at a f) (core_at c f) (deltas_made f us)
wrote_steps a b c u us one before core alters kept =
    by_altered (λ f q. KeptStep false (core_at a f) q (deltas_made f us)) b c u.file (Some core)
    alters
    (subst (KeptStep false (core_at a u.file) (Some core)) (sym (made_here u us one))
    (some_step (core_at a u.file) core (delta_made u ∷ [])
    (kept ∙ ap (λ (ds : List KeptDelta). with_delta ds (delta_made u)) (before u.file).kept)))
    (λ f apart. subst (KeptStep false (core_at a f) (core_at b f))
    (sym (made_apart u us one f apart)) (before f))

-- ---- nothing is kept besides

-- each replica keeps what it kept
abbrev pub AllStay : Store → Store → Type 0
AllStay a b = (f : FileId) → KeptStep false (core_at a f) (core_at b f) []

pub keeps_stay : (a b : Store) → Keeps a b → AllStay a b
keeps_stay a b k f = same_step (core_at a f) (core_at b f) (k.each f)

pub stay_then : (a b c : Store) → AllStay a b → AllStay b c → AllStay a c
stay_then a b c k l f = record {
  kept = (l f).kept ∙ (k f).kept;
  none = λ n. elim ((l f).none n).0 [
    | inl none ↦ (k f).none none
    | inr gone ↦ absurd (let z : false ≡ true = gone in cc)
  ];
}

-- a replica begins, of what is not held
pub begun_stay : (a b : Store) (file : FileId) (birth : ℕ) (policy : Policy)
    → core_at a file ≡ None → Alters a b file (Some (new_core birth policy)) → AllStay a b
begun_stay a b file birth policy none alters =
    by_altered (λ f q. KeptStep false (core_at a f) q []) a b file (Some (new_core birth policy))
    alters
    (some_step (core_at a file) (new_core birth policy) [] (sym (ap kept_in none)))
    (λ f apart. same_step (core_at a f) (core_at a f) refl)

-- a version is taken
module _ (a : Store) (file : FileId) (v : VersionValue) where
  taken_here : (x : Replica) → replica_at a file ≡ Some x → AllStay a (take_version a file v)
  taken_here x is =
      let c : Core =
      record { birth = x.birth; content = joined_content x.content v; kept = x.kept } in
      by_altered (λ f q. KeptStep false (core_at a f) q []) a (take_version a file v) file (Some c)
      (version_alters a file x is v)
      (some_step (core_at a file) c []
      (sym (ap (λ (o : Option Replica). kept_in (option_map core_of o)) is)))
      (λ f apart. same_step (core_at a f) (core_at a f) refl)

  taken_none : replica_at a file ≡ None → AllStay a (take_version a file v)
  taken_none none =
      subst (λ (t : Bool). AllStay a (cond t (put_version a file v) a))
      (sym (ap (λ (o : Option Replica). takes_version o v) none))
      (λ f. same_step (core_at a f) (core_at a f) refl)

  taken_by : (o : Option Replica) → replica_at a file ≡ o → AllStay a (take_version a file v)
  taken_by None is = taken_none is
  taken_by (Some x) is = taken_here x is

  pub taken_stay : AllStay a (take_version a file v)
  taken_stay = taken_by (replica_at a file) refl

-- ---- a version is taken, and a delta beside it

pub more_stay : (o q r : Option Core) (more : List KeptDelta) → KeptStep false o q more
    → KeptStep false q r [] → KeptStep false o r more
more_stay o q r more k l = record {
  kept = l.kept ∙ k.kept;
  none = λ n. elim (l.none n).0 [
    | inl none ↦ k.none none
    | inr gone ↦ absurd (let z : false ≡ true = gone in cc)
  ];
}
