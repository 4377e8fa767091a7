-- What the heads of a file cover was taken; and a version that is taken is covered then.
use Rattle.std.proofs.Common.{ℕ, ◌≡◌, ◌≤◌, Bool, true, false, cond, List, Option, None, Some, option_map, refl, sym, ap, subst, ◌∙◌, min, length, take, length-take, arith}
use Rattle.pg_run.specs.pg_announced.Announced.{AreSorted}
use Rattle.pg_run.specs.pg_base.declared.head.Head.{Head}
use Rattle.pg_run.specs.pg_base.declared.id.FileId.{FileId}
use Rattle.pg_run.specs.pg_base.declared.policy.Policy.{Policy}
use Rattle.pg_run.specs.pg_base.declared.stamp.Stamp.{Stamp}
use Rattle.pg_run.specs.pg_base.Id.{is_same_file}
use Rattle.pg_run.specs.pg_base.Version.{VersionValue, actor_of}
use Rattle.pg_run.proofs.pg_base.Orders.{is_same_file-true}
use Rattle.pg_run.specs.pg_content.Content.{Among, ContentValue, IsCovered, is_covered, joined_content}
use Rattle.pg_run.specs.pg_content.Covering.{AreVersionsOf}
use Rattle.pg_run.specs.pg_content.History.{IsHistory, Made, body_of, maker, number_of, version_of}
use Rattle.pg_run.proofs.pg_content.Covering.{joined_covers}
use Rattle.pg_run.proofs.pg_content.Heads.{covered_is, is_covered_by}
use Rattle.pg_run.proofs.pg_content.Standing.{covered_member, member_covered}
use Rattle.pg_run.specs.pg_delta.declared.delta.KeptDelta.{KeptDelta}
use Rattle.pg_run.specs.pg_replica.declared.replica.Replica.{Replica}
use Rattle.pg_run.specs.pg_replica.Replica.{with_kept}
use Rattle.pg_run.specs.pg_replica.Replicas.{replicas_keeping, takes_version}
use Rattle.pg_run.specs.Journal.{with_ancestors}
use Rattle.pg_run.specs.pg_store.declared.store.Store.{Store}
use Rattle.pg_run.specs.pg_store.Store.{is_new_version, keep_delta, put_version, replica_at, take_version}
use Rattle.pg_run.specs.theory_bodies.Book.{IsHeadOf, IsVersionOf}
use Rattle.law_contents.proofs.Changes.{AreOpen, Core, Covers, IsOpen, Keeps-refl, core_at, core_of, noted_at}
use Rattle.law_contents.proofs.Cores.{put_elsewhere, put_here}
use Rattle.law_contents.proofs.Files.{Stood}
use Rattle.law_contents.proofs.Goings.{Goes, alters_go, keeps_go}
use Rattle.law_contents.proofs.Versions.{version_alters}

-- ---- what is covered was taken

module _ {Who : Made → Type 0} {c : ContentValue} {h : List Made} {set : List Stamp} (k : IsHistory h)
    (f : Stood Who c h set) (policy : Policy) (head : Head) (is : IsHeadOf policy h head) where
  pub covered_taken : is_covered c.heads (actor_of head) head.number ≡ true
      → Among head.stamp (with_ancestors h set)
  covered_taken covered =
      let m = is.made in
      let P : Head → Type 0 = (λ y. is_covered c.heads (actor_of y) y.number ≡ true) in
      let Q : Head → Type 0 = (λ y. Among y.stamp (with_ancestors h set)) in
      let there : is_covered c.heads (maker m) (number_of h m) ≡ true = subst P is.whole covered in
      subst Q (sym is.whole)
      (covered_member c h k (with_ancestors h set) f.stands m is.among
      (covered_is c.heads (maker m) (number_of h m) there))

  -- and so the other way
  pub taken_covered : Among head.stamp (with_ancestors h set)
      → is_covered c.heads (actor_of head) head.number ≡ true
  taken_covered taken =
      let m = is.made in
      let P : Head → Type 0 = (λ y. is_covered c.heads (actor_of y) y.number ≡ true) in
      let Q : Head → Type 0 = (λ y. Among y.stamp (with_ancestors h set)) in
      let there : Among m.stamp (with_ancestors h set) = subst Q is.whole taken in
      subst P (sym is.whole) (is_covered_by c.heads (maker m) (number_of h m)
      (member_covered c h k (with_ancestors h set) f.stands m is.among there))

-- ---- a version that is taken is covered

pub joined_covered : (h : List Made) → IsHistory h → (policy : Policy) (c : ContentValue)
    → AreVersionsOf policy h c.heads → (v : VersionValue) → IsVersionOf policy h v
    → is_covered (joined_content c v).heads (actor_of v.head) v.head.number ≡ true
joined_covered h k policy c are v is =
    let m = is.made in
    let version = version_of policy h m in
    let up = (joined_covers h k policy c.heads are m is.among).1 in
    let heads = (joined_content c version).heads in
    let covered : IsCovered heads (maker m) (number_of h m) = (up.0, up.1, up.2 (maker m)) in
    let P : VersionValue → Type 0 =
    (λ w. is_covered (joined_content c w).heads (actor_of w.head) w.head.number ≡ true) in
    subst P (sym is.whole) (is_covered_by heads (maker m) (number_of h m) covered)

-- ---- a version comes

module _ (b : Store) (file : FileId) (v : VersionValue) (sorted : AreSorted b.announced) where
  taken_by : (o : Option Replica) → replica_at b file ≡ o → Goes b (take_version b file v)
  taken_by (Some x) is = alters_go sorted (version_alters b file x is v)
  taken_by None is =
      let old : is_new_version b file v ≡ false = ap (λ (o : Option Replica). takes_version o v) is in
      let same : take_version b file v ≡ b = ap (λ t. cond t (put_version b file v) b) old in
      subst (Goes b) (sym same) (keeps_go (Keeps-refl b))

  pub taken_goes : Goes b (take_version b file v)
  taken_goes = taken_by (replica_at b file) refl

-- ---- one more delta is kept

module _ (b : Store) (file : FileId) (d : KeptDelta) (h : AreOpen b) where
  abbrev keeping : Option Replica → Store
  keeping o = record b { replicas = replicas_keeping b.replicas file d o }

  kept_at : (x : Replica) → replica_at b file ≡ Some x → (f : FileId) (same : Bool)
      → is_same_file f file ≡ same → IsOpen (keeping (Some x)) f (core_at (keeping (Some x)) f)
  kept_at x is f true e t n there covers =
      let same = is_same_file-true f file e in
      let P : FileId → Type 0 = (λ g. Covers (core_at (keeping (Some x)) g) n) in
      let now = subst (λ (o : Option Core). Covers o n) (put_here b.replicas file (with_kept x d))
      (subst P same covers) in
      let was : Covers (core_at b file) n =
      subst (λ (o : Option Core). Covers o n) (sym (ap (option_map core_of) is)) now in
      h file t n (subst (λ (g : FileId). noted_at b g t ≡ Some n) same there) was
  kept_at x is f false e t n there covers =
      h f t n there (subst (λ (o : Option Core). Covers o n)
      (put_elsewhere b.replicas file f (with_kept x d) e) covers)

  kept_by : (o : Option Replica) → replica_at b file ≡ o → AreOpen (keeping o)
  kept_by None is f = h f
  kept_by (Some x) is f = kept_at x is f (is_same_file f file) refl

  pub kept_open : AreOpen (keep_delta b file d)
  kept_open = kept_by (replica_at b file) refl

-- ---- how long what is noted is

short_by : (bytes body : List ℕ) → bytes ≡ take (length bytes) body → length bytes ≤ length body
short_by bytes body is =
    let same : length bytes ≡ min (length bytes) (length body) =
    ap (λ (xs : List ℕ). length xs) is ∙ length-take (length bytes) body in
    omega arith

-- no longer than the body
pub noted_short : (policy : Policy) (h : List Made) (limit : ℕ)
    → ((m : Made) → Among m h → length (body_of policy h m.stamp) ≤ limit)
    → (head : Head) → IsHeadOf policy h head → (bytes : List ℕ)
    → bytes ≡ take (length bytes) (body_of policy h head.stamp) → length bytes ≤ limit
noted_short policy h limit short head is bytes front =
    let P : Head → Type 0 = (λ y. length (body_of policy h y.stamp) ≤ limit) in
    let all : length (body_of policy h head.stamp) ≤ limit =
    subst P (sym is.whole) (short is.made is.among) in
    let some = short_by bytes (body_of policy h head.stamp) front in
    omega arith
