-- A version is taken: one whose body became whole here, one that is here already, and the delta
-- that is kept beside it.
use Rattle.std.proofs.Common.{[], ℕ, ◌≡◌, ◌≤◌, ◌==◌, true, false, cond, List, ◌∷◌, ◌++◌, map, Option, None, Some, option_map, inl, refl, sym, ap, subst, ◌∙◌, arith}
use Rattle.std.proofs.lemmas.List.{append-nil}
use Rattle.pg_run.specs.pg_base.declared.head.Head.{Head}
use Rattle.pg_run.specs.pg_base.declared.id.FileId.{FileId}
use Rattle.pg_run.specs.pg_base.declared.policy.Policy.{Policy}
use Rattle.pg_run.specs.pg_base.declared.stamp.Stamp.{Stamp}
use Rattle.pg_run.specs.pg_base.Id.{is_same_file}
use Rattle.pg_run.specs.pg_base.Version.{VersionValue}
use Rattle.pg_run.specs.pg_content.Content.{Among, joined_content}
use Rattle.pg_run.specs.pg_content.History.{IsMember}
use Rattle.pg_run.proofs.pg_content.Numbers.{member_of}
use Rattle.pg_run.specs.pg_delta.declared.delta.KeptDelta.{KeptDelta}
use Rattle.pg_run.specs.pg_delta.Kept.{with_delta}
use Rattle.pg_run.specs.pg_delta.Leading.{AreTrueDeltas, IsTrueDelta}
use Rattle.pg_run.specs.pg_edges.declared.key.Key.TheVariants as key
use Rattle.pg_run.specs.pg_msg.declared.message.Ends.{Ends}
use Rattle.pg_run.specs.pg_msg.declared.message.Message.{Message}
use Rattle.pg_run.specs.pg_msg.declared.message.Message.TheVariants as message
use Rattle.pg_run.specs.pg_msg.declared.update.Update.{Update}
use Rattle.pg_run.specs.pg_msg.declared.work.Work.{Work}
use Rattle.pg_run.specs.pg_msg.Ends.{back}
use Rattle.pg_run.specs.pg_replica.declared.replica.Replica.{Replica}
use Rattle.pg_run.specs.pg_replica.Replica.{with_kept}
use Rattle.pg_run.specs.pg_replica.Replicas.{is_of_birth, replicas_keeping}
use Rattle.pg_run.specs.Journal.{Born, made_for, versions_in, with_ancestors}
use Rattle.pg_run.specs.Took.{Take, stamps_taken, take_of}
use Rattle.pg_run.specs.Took.Take.{TookVersion}
use Rattle.pg_run.specs.pg_store.declared.store.Store.{Store}
use Rattle.pg_run.specs.pg_store.Seen.{server_of}
use Rattle.pg_run.specs.pg_store.Store.{is_new_version, keep_delta, replica_at, take_version}
use Rattle.pg_run.specs.pg_pieces.Posting.{reply}
use Rattle.pg_run.specs.pg_pieces.Taking.{with_news}
use Rattle.pg_run.proofs.pg_pieces.News.{news_made, news_sent}
use Rattle.pg_run.specs.pg_server.pg_transfer.Taking.{taken_for}
use Rattle.pg_run.specs.theory_bodies.Book.{IsHeadOf, IsVersionOf}
use Rattle.pg_run.proofs.theory_bodies.Computing.{HaveRanges}
use Rattle.pg_run.proofs.theory_bodies.Holdings.{deltas_with}
use Rattle.pg_run.proofs.theory_flood_pieces.Choices.{chosen}
use Rattle.law_contents.proofs.Arrivals.{Arrives, more_came}
use Rattle.law_contents.proofs.Asking.{post_carry}
use Rattle.law_contents.proofs.Changes.{Alters, Core, Covers, IsOrdered, by_altered, core_at, core_of}
use Rattle.law_contents.proofs.Cores.{put_elsewhere, put_here, put_order}
use Rattle.law_contents.proofs.Files.{HoldsFile, covered_upto, file_came}
use Rattle.law_contents.proofs.Histories.{AreMade}
use Rattle.law_contents.proofs.Joining.{stands_again, stands_came}
use Rattle.law_contents.proofs.Quiet.{news_tail}
use Rattle.law_contents.proofs.Sending.{AllCarry}
use Rattle.law_contents.proofs.Servers.{Came, HaveRangesIn, IsBy, IsServer, KeepsTrue, Policied, Stands, StandsAs, file_held, kept_here, policied_here, ranges_here, stands_same, with_came}
use Rattle.law_contents.proofs.Takes.{HasNone, none_joined}
use Rattle.law_contents.proofs.Times.{head_upto, taken_upto}
use Rattle.law_contents.proofs.Versions.{version_alters, version_last}

-- ---- a replica

-- the one of a birth
pub born_there : (o : Option Replica) (birth : ℕ) → is_of_birth o birth ≡ true
    → (x : Replica) × (o ≡ Some x)
born_there None birth h = absurd (let z : false ≡ true = h in cc)
born_there (Some x) birth h = (x, refl)

-- the same before and behind what keeps it
pub some_behind : (o : Option Replica) (q : Option Replica) (x : Replica) → q ≡ Some x
    → option_map core_of o ≡ option_map core_of q
    → (y : Replica) × (o ≡ Some y) × (core_of y ≡ core_of x)
some_behind None q x is same =
    absurd (let z : None ≡ Some (core_of x) = same ∙ ap (option_map core_of) is in cc)
some_behind (Some y) q x is same =
    (y, refl, let z : Some (core_of y) ≡ Some (core_of x) = same ∙ ap (option_map core_of) is in cc)

-- ---- what a server has then

module _ {s : ℕ} {b : Store} {us : List Born} {p : FileId → Policy} {came : Came} (made : AreMade us)
    (k : Stands s b us p came) (file : FileId) (x : Replica) (is : replica_at b file ≡ Some x) where
  abbrev here : core_at b file ≡ Some (core_of x)
  here = ap (option_map core_of) is

  held_there
      : HoldsFile (IsBy s (Some (core_of x))) (p file) x.content (made_for file us) (came file)
  held_there = file_held k file (core_of x) here

  -- a version of the history
  module _ (v : VersionValue) (h : IsVersionOf (p file) (made_for file us) v) where
    abbrev JoinedCore : Core
    JoinedCore =
        record { birth = x.birth; content = joined_content x.content v; kept = x.kept }

    came_time : v.head.stamp.time ≤ (take_version b file v).names.last
    came_time = version_last b file x is v (λ covered.
        covered_upto held_there (k.known file) (made.histories file) h.made h.among
        b.names.last (made.order file)
        (head_upto us made b.names.last file (came file) (k.upto file) held_there.stood)
        v h.whole covered)

    came_member : IsMember (made_for file us) v.head.stamp
    came_member =
        subst (IsMember (made_for file us)) (sym (ap (λ (y : VersionValue). y.head.stamp) h.whole))
        (member_of (made_for file us) h.made h.among)

    -- A VERSION COMES
    pub taken_stands : Stands s (take_version b file v) us p (with_came file v.head.stamp came)
    taken_stands =
        stands_came k (take_version b file v) file JoinedCore (version_alters b file x is v)
        v.head.stamp came_time
        (file_came held_there (k.known file) (made.histories file) h.made h.among v h.whole)
        came_member (k.kept file (core_of x) here) (k.ranges file (core_of x) here)

  -- A VERSION COMES AGAIN that is covered here
  pub again_stands : (head : Head) → IsHeadOf (p file) (made_for file us) head
      → Among head.stamp (with_ancestors (made_for file us) (came file))
      → Stands s b us p (with_came file head.stamp came)
  again_stands head h taken =
      let same : head.stamp ≡ h.made.stamp = ap (λ (y : Head). y.stamp) h.whole in
      let there = subst (λ (t : Stamp). Among t (with_ancestors (made_for file us) (came file))) same taken in
      subst (λ (t : Stamp). Stands s b us p (with_came file t came)) (sym same)
      (stands_again k file (core_of x) here (made.histories file) h.made h.among there
      (taken_upto us made b.names.last file (came file) (k.upto file) h.made.stamp there))

  -- ---- a delta is kept

  module _ (d : KeptDelta) (true_ : IsTrueDelta (p file) (made_for file us) d)
      (fit : HaveRanges (with_delta x.kept d)) where
    abbrev keeping : Option Replica → Store
    keeping o = record b { replicas = replicas_keeping b.replicas file d o }

    abbrev KeptCore : Core
    KeptCore = core_of (with_kept x d)

    pub delta_alters : Alters b (keep_delta b file d) file (Some KeptCore)
    delta_alters =
        let P : Option Replica → Type 0 = (λ o. Alters b (keeping o) file (Some KeptCore)) in
        subst P (sym is) (record {
          server = refl;
          last = omega arith;
          files = omega arith;
          order = put_order b.replicas file (with_kept x d);
          full = λ f g. g;
          here = put_here b.replicas file (with_kept x d);
          others = λ f apart. put_elsewhere b.replicas file f (with_kept x d) apart;
          view = refl;
          notes = λ sorted. (sorted, λ f stamp n g. g);
          ends = λ f stamp n g. inl g;
          free = λ h stamp n g covers. h stamp n g (subst (λ (o : Option Core). Covers o n) (sym here) covers);
        })

    deltas_then : AreTrueDeltas (p file) (made_for file us) (with_delta x.kept d)
    deltas_then =
        deltas_with (p file) (made_for file us) x.kept d (k.kept file (core_of x) here) true_

    -- A DELTA IS KEPT
    pub delta_stands : Stands s (keep_delta b file d) us p came
    delta_stands =
        let then : Store = keep_delta b file d in record {
          files = by_altered (λ f o. StandsAs s o (made_for f us) (came f)) b then file
              (Some KeptCore) delta_alters held_there.stood (λ f apart. k.files f);
          policies = by_altered (Policied p) b then file (Some KeptCore) delta_alters
              (policied_here p file KeptCore held_there.policy) (λ f apart. k.policies f);
          known = k.known;
          upto = k.upto;
          kept = by_altered (λ f o. KeepsTrue p f o (made_for f us)) b then file (Some KeptCore)
              delta_alters (kept_here p file KeptCore (made_for file us) deltas_then)
              (λ f apart. k.kept f);
          ranges = by_altered (λ f o. HaveRangesIn o) b then file (Some KeptCore) delta_alters
              (ranges_here KeptCore fit) (λ f apart. k.ranges f);
          sorted = k.sorted;
          notes = k.notes;
        }

-- ---- it is taken, and acknowledged

-- what is not touched by what comes
pub record IsFrame (a b : Store) (N : FileId → Type 0) : Type 0 where
  pub server : server_of b ≡ server_of a
  pub last : a.names.last ≤ b.names.last
  pub files : a.files ≤ b.files
  pub order : IsOrdered a.replicas → IsOrdered b.replicas
  pub held : (f : FileId) (c : Core) → core_at b f ≡ Some c → N f

module _ {s : ℕ} {a : Store} {us : List Born} {p : FileId → Policy} {N : FileId → Type 0}
    {came : Came} (k : IsServer s a us p N came) (ends : Ends) (tag : ℕ) (v : VersionValue)
    (h : IsVersionOf (p ends.file) (made_for ends.file us) v) (b : Store) (frame : IsFrame a b N)
    (stands : Stands s b us p came) (x : Replica) (is : replica_at b ends.file ≡ Some x) (w : Work)
    (none : versions_in w.made ≡ []) (before : (f : FileId) → HasNone f (map take_of w.made))
    (sent : AllCarry us p N w.sent) (tail : AllCarry us p N w.tail) where
  abbrev file : FileId
  file = ends.file

  abbrev end : Store
  end = take_version b file v

  abbrev takes : List Take
  takes = TookVersion file v.head.stamp ∷ []

  abbrev Comes : Work → Type 0
  Comes u = Arrives s a us p N came (record { store = end; work = u }) (map take_of u.made ++ takes)

  comes : (u : Work) → u.made ≡ w.made → AllCarry us p N u.sent → AllCarry us p N u.tail → Comes u
  comes u made all last =
      let alters = version_alters b file x is v in
      let low = frame.last in
      let high = alters.last in
      let few = frame.files in
      let many = alters.files in
      record {
        server = alters.server ∙ frame.server;
        last = omega arith;
        files = omega arith;
        order = λ z. alters.order (frame.order z);
        held = λ f c e. inl (by_altered (λ g o. (d : Core) → o ≡ Some d → N g) b end file
            (Some (record { birth = x.birth; content = joined_content x.content v; kept = x.kept }))
            alters (λ d same. frame.held file (core_of x) (ap (option_map core_of) is))
            (λ g apart d same. frame.held g d same) f c e);
        stands = stands_same (taken_stands k.made stands file x is v h)
            (more_came (map take_of u.made ++ takes) came)
            (λ f. ap (λ (ts : List Stamp). ts ++ came f)
            (none_joined f (map take_of u.made) takes
            (ap (λ (ups : List Update). stamps_taken f (map take_of ups)) made ∙ before f)
            ∙ append-nil (cond (is_same_file file f) (v.head.stamp ∷ []) [])));
        none = ap versions_in made ∙ none;
        sent = all;
        tail = last;
      }

  -- A BODY BECAME WHOLE
  pub taken_arrives : Arrives s a us p N came (taken_for ends tag b v w)
      (map take_of (taken_for ends tag b v w).work.made ++ takes)
  taken_arrives =
      let news = is_new_version b file v in
      let q = key.Version v.head.stamp in
      let u = with_news news w file q in
      let m : Message = message.Ack (back ends) q tag in
      let made : u.made ≡ w.made = news_made news w file q in
      let all = subst (AllCarry us p N) (sym (news_sent news w file q)) sent in
      let last = subst (AllCarry us p N) (sym (news_tail news w file q)) tail in
      chosen Comes (tag == 0) u (reply end m u) (comes u made all last)
      (comes (reply end m u) made (post_carry us p N end u.from m u tt all) last)
