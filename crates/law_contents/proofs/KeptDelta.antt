-- The deltas that replicas keep behind a delta: it is kept where it is carried to a server that
-- does not cover its version.
use Rattle.std.proofs.Common.{ℕ, ◌≡◌, ◌≢◌, ◌&&◌, ◌==◌, Bool, true, false, not, cond, List, [], ◌∷◌, Option, None, Some, option_map, refl, sym, ap, subst, ◌∙◌}
use Rattle.std.proofs.lemmas.Bool.Decides.{Decides-eqb}
use Rattle.pg_run.specs.pg_announced.declared.announced.Announced.{Announced}
use Rattle.pg_run.specs.pg_announced.Announced.{is_asked_of as is_noted_of}
use Rattle.pg_run.specs.pg_base.declared.head.Head.{Head}
use Rattle.pg_run.specs.pg_base.declared.id.FileId.{FileId}
use Rattle.pg_run.specs.pg_base.declared.policy.Policy.{Policy}
use Rattle.pg_run.specs.pg_base.declared.stamp.Stamp.{Stamp}
use Rattle.pg_run.specs.pg_base.Id.{is_same_file}
use Rattle.pg_run.specs.pg_base.Version.{actor_of}
use Rattle.pg_run.proofs.pg_base.Orders.{is_same_file-true}
use Rattle.pg_run.specs.pg_content.Content.{Among, ContentValue, is_covered}
use Rattle.pg_run.specs.pg_content.History.{IsHistory, Made, maker, number_of}
use Rattle.pg_run.proofs.pg_content.Heads.{is_covered_by}
use Rattle.pg_run.proofs.pg_content.Standing.{member_covered}
use Rattle.pg_run.specs.pg_delta.declared.delta.KeptDelta.{KeptDelta}
use Rattle.pg_run.specs.pg_delta.Kept.{with_delta}
use Rattle.pg_run.specs.pg_delta.Taking.{delta_to, patched_version, stamps_of}
use Rattle.pg_run.specs.pg_msg.declared.message.Delta.{Delta}
use Rattle.pg_run.specs.pg_msg.declared.message.Ends.{Ends}
use Rattle.pg_run.specs.pg_msg.declared.message.Message.TheVariants as message
use Rattle.pg_run.specs.pg_msg.declared.work.Work.{Work}
use Rattle.pg_run.specs.pg_msg.Work.{new_work}
use Rattle.pg_run.specs.pg_names.Names.{is_dir}
use Rattle.pg_run.proofs.pg_names.Lookups.{apart_back}
use Rattle.pg_run.specs.pg_pieces.declared.accepting.EdgeUse.TheVariants as manner
use Rattle.pg_run.specs.pg_pieces.Accepting.{accept, is_accepted}
use Rattle.pg_run.specs.pg_pieces.Done.{Done, idle}
use Rattle.pg_run.specs.pg_replica.declared.replica.Replica.{Replica}
use Rattle.pg_run.specs.pg_replica.Replica.{with_kept}
use Rattle.pg_run.specs.pg_replica.Replicas.{replicas_keeping}
use Rattle.pg_run.specs.pg_delta.Chain.{are_same_stamps}
use Rattle.pg_run.specs.Asking.{Asked, is_asked_of}
use Rattle.pg_run.specs.Carried.{delta_carried}
use Rattle.pg_run.specs.Deltas.{covers_already, delta_took}
use Rattle.pg_run.specs.Journal.{Born, made_for, with_ancestors}
use Rattle.pg_run.specs.Quiet.{has_some}
use Rattle.pg_run.specs.Took.{Take}
use Rattle.pg_run.specs.Took.Take.{TookVersion}
use Rattle.pg_run.specs.pg_server.Local.{receive}
use Rattle.pg_run.specs.pg_server.pg_transfer.Asking.{noted}
use Rattle.pg_run.specs.pg_server.pg_transfer.Delta.{changed, changed_along, changed_by, made_at, made_by, patched, refused, serves}
use Rattle.pg_run.specs.pg_store.declared.store.Store.{Store}
use Rattle.pg_run.specs.pg_store.Store.{content_of, keep_delta, replica_at, take_version}
use Rattle.pg_run.specs.theory_bodies.Book.{IsHeadOf}
use Rattle.law_contents.proofs.Accepted.{accepted_there, answers_idle}
use Rattle.law_contents.proofs.Agreed.{Agrees}
use Rattle.law_contents.proofs.Carrying.{Carries}
use Rattle.law_contents.proofs.Changes.{Core, core_at, core_of}
use Rattle.law_contents.proofs.Cores.{put_elsewhere, put_here}
use Rattle.law_contents.proofs.Files.{Stood}
use Rattle.law_contents.proofs.Handlers.{accept_quiet}
use Rattle.law_contents.proofs.KeptSteps.{KeptStep, kept_in, more_stay, same_step, some_step, taken_stay}
use Rattle.law_contents.proofs.Patched.{IsUnasked, carried_so, carried_taken, is_carried, other_source, same_head, serves_so, shown}
use Rattle.law_contents.proofs.Servers.{Came, IsServer, file_held}

-- no version is noted that is covered
abbrev pub IsLacking : Store → Type 0
IsLacking a = (file : FileId) (stamp : Stamp) (n : Announced) → noted a file stamp ≡ Some n
    → is_covered (content_of a file).heads (actor_of n.head) n.head.number ≡ false

-- what was taken is covered
taken_covered : {Who : Made → Type 0} {c : ContentValue} {h : List Made} {set : List Stamp}
    → IsHistory h → Stood Who c h set → (policy : Policy) (head : Head) → IsHeadOf policy h head
    → Among head.stamp (with_ancestors h set)
    → is_covered c.heads (actor_of head) head.number ≡ true
taken_covered {c = c} {h = h} {set = set} k f policy head is there =
    let m = is.made in
    let P : Head → Type 0 = (λ y. Among y.stamp (with_ancestors h set)) in
    let Q : Head → Type 0 = (λ y. is_covered c.heads (actor_of y) y.number ≡ true) in
    subst Q (sym is.whole)
    (is_covered_by c.heads (maker m) (number_of h m)
    (member_covered c h k (with_ancestors h set) f.stands m is.among (subst P is.whole there)))

-- ---- a delta is kept

module _ (a : Store) (file : FileId) (x : Replica) (there : replica_at a file ≡ Some x)
    (e : KeptDelta) where
  abbrev One : FileId → List KeptDelta
  One f = cond (is_same_file file f) (e ∷ []) []

  abbrev keeping : Option Replica → Store
  keeping o = record a { replicas = replicas_keeping a.replicas file e o }

  here_kept : KeptStep false (core_at a file) (core_at (keeping (Some x)) file) (e ∷ [])
  here_kept =
      let c = core_of (with_kept x e) in
      let old : x.kept ≡ kept_in (core_at a file) =
      sym (ap (λ (o : Option Replica). kept_in (option_map core_of o)) there) in
      subst (λ (o : Option Core). KeptStep false (core_at a file) o (e ∷ []))
      (sym (put_here a.replicas file (with_kept x e)))
      (some_step (core_at a file) c (e ∷ []) (ap (λ (ds : List KeptDelta). with_delta ds e) old))

  keep_by : (f : FileId) (t : Bool) → is_same_file file f ≡ t
      → KeptStep false (core_at a f) (core_at (keeping (Some x)) f) (cond t (e ∷ []) [])
  keep_by f true is =
      let P : FileId → Type 0 = (λ g. KeptStep false (core_at a g) (core_at (keeping (Some x)) g)
      (e ∷ [])) in
      subst P (is_same_file-true file f is) here_kept
  keep_by f false is =
      same_step (core_at a f) (core_at (keeping (Some x)) f)
      (put_elsewhere a.replicas file f (with_kept x e) (apart_back file f is))

  pub keep_stay : (f : FileId)
      → KeptStep false (core_at a f) (core_at (keep_delta a file e) f) (One f)
  keep_stay f =
      let P : Option Replica → Type 0 =
      (λ o. KeptStep false (core_at a f) (core_at (keeping o) f) (One f)) in
      subst P (sym there) (keep_by f (is_same_file file f) refl)

has_when : (t : Bool) (x : Take) → has_some (cond t (x ∷ []) []) ≡ t
has_when true x = refl
has_when false x = refl

same_ways : (t : Bool) → cond {A = List KeptDelta} t [] [] ≡ []
same_ways true = refl
same_ways false = refl

module _ {s : ℕ} {a : Store} {us : List Born} {p : FileId → Policy} {N : FileId → Type 0}
    {came : Came} (k : IsServer s a us p N came) (from : ℕ) (some : from ≢ 0)
    (wants : Asked) (agrees : Agrees a us came wants) (lacking : IsLacking a) (ends : Ends) (d : Delta)
    (h : Carries us p N (message.Delta ends d)) where
  abbrev work : Work
  work = new_work 0 from

  abbrev file : FileId
  file = ends.file

  abbrev stamp : Stamp
  stamp = d.head.stamp

  abbrev history : List Made
  history = made_for file us

  abbrev told : KeptDelta
  told = delta_to d.from d.head.stamp d.ranges

  -- it is kept, or not
  abbrev More : Bool → FileId → List KeptDelta
  More t f = cond (is_same_file file f) (cond t (told ∷ []) []) []

  abbrev Keeping : Done → Bool → Type 0
  Keeping e t = (f : FileId) → KeptStep false (core_at a f) (core_at e.store f) (More t f)

  none_more : (f : FileId) → More false f ≡ []
  none_more f = same_ways (is_same_file file f)

  -- the replicas are the same
  bare : (e : Done) → ((f : FileId) → core_at e.store f ≡ core_at a f) → Keeping e false
  bare e same f =
      subst (KeptStep false (core_at a f) (core_at e.store f)) (sym (none_more f))
      (same_step (core_at a f) (core_at e.store f) (same f))

  -- where it is tested so
  by_test : (e : Done) (t u : Bool) → u ≡ t → Keeping e t → Keeping e u
  by_test e t u is kept = subst (Keeping e) (sym is) kept

  module _ (x : Replica) (there : replica_at a file ≡ Some x) where
    abbrev c : ContentValue
    c = x.content

    abbrev carried : Bool
    carried = is_carried k from some wants agrees ends d h x there

    abbrev Test : Bool
    Test = carried && not (covers_already a file d)

    -- ---- nothing is done

    idle_test : IsUnasked k from some wants agrees ends d h x there → (t : Bool) → carried ≡ t
        → (t && not (covers_already a file d)) ≡ false
    idle_test unasked false e = refl
    idle_test unasked true e =
        let held = file_held k.stands file (core_of x) (ap (option_map core_of) there) in
        let taken = carried_taken k from some wants agrees ends d h x there unasked e in
        let covered = taken_covered (k.made.histories file) held.stood (p file) d.head h.0 taken in
        ap (λ (y : ContentValue). not (is_covered y.heads (actor_of d.head) d.head.number))
        (shown k from some wants agrees ends d h x there) ∙ ap not covered

    idle_kept : IsUnasked k from some wants agrees ends d h x there → Keeping (idle a work) Test
    idle_kept unasked =
        by_test (idle a work) false Test (idle_test unasked carried refl)
        (bare (idle a work) (λ f. refl))

    -- ---- a note asks the sender for it

    module _ (n : Announced) (is : noted a file stamp ≡ Some n) (source : n.source ≡ from) where
      abbrev head_is : n.head ≡ d.head
      head_is = same_head k from some wants agrees ends d h x there n is source

      lacks : covers_already a file d ≡ false
      lacks =
          let P : Head → Type 0 =
          (λ y. is_covered (content_of a file).heads (actor_of y) y.number ≡ false) in
          subst P head_is (lacking file stamp n is)

      module _ (serving : serves c n d ≡ true) where
        took_test : Test ≡ true
        took_test =
            ap (λ t. t && not (covers_already a file d))
            (carried_so k from some wants agrees ends d h x there n is source serving)
            ∙ ap not lacks

      took_kept : Keeping (patched (patched_version c n.head d.ranges, n.tag) a ends d work) true
      took_kept f =
          let e = delta_to d.from n.head.stamp d.ranges in
          let b = keep_delta a file e in
          let end = take_version b file (patched_version c n.head d.ranges) in
          let P : Stamp → Type 0 = (λ y. KeptStep false (core_at a f) (core_at end f)
          (cond (is_same_file file f) (delta_to d.from y d.ranges ∷ []) [])) in
          subst P (ap (λ (y : Head). y.stamp) head_is)
          (more_stay (core_at a f) (core_at b f) (core_at end f)
          (cond (is_same_file file f) (e ∷ []) []) (keep_stay a file x there e f)
          (taken_stay b file (patched_version c n.head d.ranges) f))

      refused_test : serves c n d ≡ false → (t : Bool) → carried ≡ t
          → (t && not (covers_already a file d)) ≡ false
      refused_test serving false e = refl
      refused_test serving true e =
          absurd (let z : true ≡ false =
          sym (serves_so k from some wants agrees ends d h x there n is source e) ∙ serving in cc)

      by_serves : (u : Bool) → serves c n d ≡ u → Keeping
          (changed_by (cond u (Some (patched_version c n.head d.ranges, n.tag)) None) true a ends d
          work) Test
      by_serves true serving =
          by_test (patched (patched_version c n.head d.ranges, n.tag) a ends d work) true Test
          (took_test serving) took_kept
      by_serves false serving =
          by_test (refused true a ends d work) false Test (refused_test serving carried refl)
          (bare (refused true a ends d work) (λ f. refl))

    by_source : (n : Announced) → noted a file stamp ≡ Some n → (t : Bool)
        → (n.source == from) ≡ t
        → Keeping (changed_by (cond t (made_at (Some x) n d) None) t a ends d work) Test
    by_source n is true e =
        by_serves n is ((Decides-eqb n.source from).0 e) (serves c n d) refl
    by_source n is false e =
        idle_kept (λ m there_too source. other_source k from some wants agrees ends d h x there n m
        (sym is ∙ there_too) source e)

    by_note : (o : Option Announced) → noted a file stamp ≡ o
        → Keeping (changed_by (made_by from (Some x) o d) (is_noted_of from o) a ends d work) Test
    by_note None e =
        idle_kept (λ m is source. absurd (let z : None ≡ Some m = sym e ∙ is in cc))
    by_note (Some n) e = by_source n e (n.source == from) refl

    changed_kept : Keeping (changed a ends d work) Test
    changed_kept =
        let o = noted a file stamp in
        subst (λ (q : Option Replica). Keeping
        (changed_by (made_by from q o d) (is_noted_of from o) a ends d work) Test) (sym there)
        (by_note o refl)

  -- ---- where it is accepted

  abbrev linked : Done
  linked = accept a ends manner.Answers work

  abbrev Carried : Bool
  Carried = is_asked_of from (wants file stamp)
      && are_same_stamps (stamps_of (content_of a file)) d.from

  abbrev Took : Bool → List Take
  Took t = cond t (TookVersion file stamp ∷ []) []

  abbrev AllTest : Bool → Bool → Bool
  AllTest dir accepted = has_some (Took ((not dir && accepted) && Carried))
      && not (covers_already a file d)

  delta_by : (dir accepted : Bool) → is_accepted a from manner.Answers ends ≡ accepted
      → Keeping (cond dir (idle a work) (changed_along accepted ends d linked)) (AllTest dir accepted)
  delta_by true accepted e = bare (idle a work) (λ f. refl)
  delta_by false false e =
      bare linked (λ f. (accept_quiet us p N a work ends manner.Answers).keeps.each f)
  delta_by false true e =
      let x = accepted_there a from manner.Answers ends e in
      let test : AllTest false true ≡ (Carried && not (covers_already a file d)) =
      ap (λ t. t && not (covers_already a file d)) (has_when Carried (TookVersion file stamp)) in
      subst (λ (z : Done). Keeping (changed z.store ends d z.work) (AllTest false true))
      (sym (answers_idle a ends work))
      (by_test (changed a ends d work) (Carried && not (covers_already a file d))
      (AllTest false true) test (changed_kept x.0 x.1))

  -- ---- of each file

  abbrev Has : Bool
  Has = has_some (delta_carried a wants from ends d)

  took_is : (f : FileId) (b : Bool) → is_same_file file f ≡ b
      → cond b (cond (Has && not (covers_already a file d)) (told ∷ []) []) []
      ≡ cond (b && (Has && not (covers_already a f d))) (told ∷ []) []
  took_is f true e =
      ap (λ (g : FileId). cond (Has && not (covers_already a g d)) (told ∷ []) [])
      (is_same_file-true file f e)
  took_is f false e = refl

  -- A DELTA
  pub delta_kept : (f : FileId)
      → KeptStep false (core_at a f) (core_at (receive a (message.Delta ends d) work).store f)
      (delta_took a wants f from ends d)
  delta_kept f =
      let end = receive a (message.Delta ends d) work in
      subst (KeptStep false (core_at a f) (core_at end.store f))
      (took_is f (is_same_file file f) refl)
      (delta_by (is_dir file) (is_accepted a from manner.Answers ends) refl f)
