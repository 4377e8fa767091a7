-- The versions that were made, file by file, and what one more changes.
use Rattle.std.proofs.Common.{[], ◌≡◌, ◌≤◌, Bool, true, false, cond, List, ◌∷◌, refl, sym, ap, subst, ◌∙◌, inl, inr, arith}
use Rattle.std.proofs.lemmas.Bool.{cond_both}
use Rattle.pg_run.specs.pg_base.declared.head.Head.{Head}
use Rattle.pg_run.specs.pg_base.declared.id.FileId.{FileId}
use Rattle.pg_run.specs.pg_base.declared.policy.Policy.{Policy}
use Rattle.pg_run.specs.pg_base.declared.stamp.Stamp.{Stamp}
use Rattle.pg_run.specs.pg_base.declared.vector.Actor.{Actor}
use Rattle.pg_run.specs.pg_base.Id.{is_same_file}
use Rattle.pg_run.specs.pg_base.Vector.{number_at}
use Rattle.pg_run.specs.pg_base.Version.{VersionValue}
use Rattle.pg_run.proofs.pg_base.Orders.{is_same_file-true, is_same_file-refl}
use Rattle.pg_run.specs.pg_content.Content.{Among}
use Rattle.pg_run.specs.pg_content.History.{IsAncestor, IsHistory, IsNext, Made, body_of, vector_of, version_of}
use Rattle.pg_run.proofs.pg_content.Numbers.{earlier_vector, member_of}
use Rattle.pg_run.proofs.pg_content.StandsWritten.{earlier_version}
use Rattle.pg_run.specs.theory_bodies.Book.{IsHeadOf}
use Rattle.pg_run.specs.Journal.{Born, made_for, made_of}

-- ---- the versions of a file, where one more was made

-- a fact on a file's versions: the one of the last, where it is of that file, and else the one of
-- those before it
pub by_file : (P : FileId → List Made → Type 0) (u : Born) (us : List Born)
    → P u.made.file (made_of u ∷ made_for u.made.file us) → ((file : FileId) → P file (made_for file us))
    → (file : FileId) → P file (made_for file (u ∷ us))
by_file P u us last before file =
    cond_both (is_same_file file u.made.file) (made_of u ∷ made_for file us) (made_for file us) (P file)
    (λ e. let Q : FileId → Type 0 = (λ f. P f (made_of u ∷ made_for f us)) in
    subst Q (sym (is_same_file-true file u.made.file e)) last) (λ e. before file)

pub own_file : (u : Born) (us : List Born)
    → made_for u.made.file (u ∷ us) ≡ made_of u ∷ made_for u.made.file us
own_file u us = ap (λ t. cond t (made_of u ∷ made_for u.made.file us) (made_for u.made.file us))
    (is_same_file-refl u.made.file)

-- each version of a file is that of an update
update_by : (file : FileId) (m : Made) (u : Born) (us : List Born) (t : Bool)
    → is_same_file file u.made.file ≡ t
    → Among m (cond t (made_of u ∷ made_for file us) (made_for file us))
    → (Among m (made_for file us)
    → (v : Born) × Among v us × (file ≡ v.made.file) × (m ≡ made_of v))
    → (v : Born) × Among v (u ∷ us) × (file ≡ v.made.file) × (m ≡ made_of v)
update_by file m u us true e l rest = elim l [
  | inl last ↦ (u, inl refl, is_same_file-true file u.made.file e, last)
  | inr earlier ↦ let r = rest earlier in (r.0, inr r.1, r.2, r.3)
]
update_by file m u us false e l rest = let r = rest l in (r.0, inr r.1, r.2, r.3)

pub update_of : (file : FileId) (m : Made) (us : List Born) → Among m (made_for file us)
    → (v : Born) × Among v us × (file ≡ v.made.file) × (m ≡ made_of v)
update_of file m [] l = absurd l
update_of file m (u ∷ us) l =
    update_by file m u us (is_same_file file u.made.file) refl l (update_of file m us)

-- ---- what holds of the versions that were made

-- no ancestor has a later time; no number in a vector is above the version's time
pub record AreMade (us : List Born) : Type 0 where
  pub histories : (file : FileId) → IsHistory (made_for file us)
  pub order : (file : FileId) (u v : Stamp) → IsAncestor (made_for file us) u v → u.time ≤ v.time
  pub numbers : (file : FileId) (m : Made) → Among m (made_for file us) → (a : Actor)
      → number_at (vector_of (made_for file us) m.stamp) a ≤ m.stamp.time
  pub one : (u v : Born) → Among u us → Among v us → u.made.stamp ≡ v.made.stamp → u ≡ v

-- what one more has to keep
pub record IsNextUpdate (us : List Born) (u : Born) : Type 0 where
  pub next : IsNext (made_for u.made.file us) (made_of u)
  pub order : (s : Stamp) → IsAncestor (made_of u ∷ made_for u.made.file us) s u.made.stamp
      → s.time ≤ u.made.stamp.time
  pub numbers : (a : Actor)
      → number_at (vector_of (made_of u ∷ made_for u.made.file us) u.made.stamp) a ≤ u.made.stamp.time
  pub fresh : (v : Born) → Among v us → v.made.stamp ≡ u.made.stamp → ⊥

module _ (u : Born) (us : List Born) (k : AreMade us) (n : IsNextUpdate us u) where
  pub last_history : IsHistory (made_of u ∷ made_for u.made.file us)
  last_history = (n.next, k.histories u.made.file)

  later_order : (s t : Stamp) → IsAncestor (made_of u ∷ made_for u.made.file us) s t → s.time ≤ t.time
  later_order s t a = elim a [
    | inl last ↦ (let P : Stamp → Type 0 = (λ x. s.time ≤ x.time) in
        subst P (sym last.0) (n.order s (inl (refl, last.1, last.2, last.3))))
    | inr earlier ↦ k.order u.made.file s t earlier
  ]

  later_numbers : (m : Made) → Among m (made_of u ∷ made_for u.made.file us) → (a : Actor)
      → number_at (vector_of (made_of u ∷ made_for u.made.file us) m.stamp) a ≤ m.stamp.time
  later_numbers m l a = elim l [
    | inl last ↦ (let P : Made → Type 0 =
        (λ x. number_at (vector_of (made_of u ∷ made_for u.made.file us) x.stamp) a ≤ x.stamp.time) in
        subst P (sym last) (n.numbers a))
    | inr earlier ↦
        let e = ap (λ v. number_at v a)
        (earlier_vector (made_of u) (made_for u.made.file us) last_history m.stamp
        (member_of (made_for u.made.file us) m earlier)) in
        let r = k.numbers u.made.file m earlier a in
        omega arith
  ]

  later_one : (v w : Born) → Among v (u ∷ us) → Among w (u ∷ us) → v.made.stamp ≡ w.made.stamp → v ≡ w
  later_one v w p q e = elim p [
    | inl first ↦ elim q [
      | inl second ↦ first ∙ sym second
      | inr earlier ↦ absurd (n.fresh w earlier (sym e ∙ ap (λ (x : Born). x.made.stamp) first))
    ]
    | inr earlier ↦ elim q [
      | inl second ↦ absurd (n.fresh v earlier (e ∙ ap (λ (x : Born). x.made.stamp) second))
      | inr also ↦ k.one v w earlier also e
    ]
  ]

  -- ONE MORE KEEPS IT
  pub one_more_made : AreMade (u ∷ us)
  one_more_made = record {
    histories = by_file (λ file h. IsHistory h) u us last_history k.histories;
    order = by_file (λ file h. (s t : Stamp) → IsAncestor h s t → s.time ≤ t.time) u us later_order
        k.order;
    numbers = by_file (λ file h. (m : Made) → Among m h → (a : Actor)
        → number_at (vector_of h m.stamp) a ≤ m.stamp.time) u us later_numbers k.numbers;
    one = later_one;
  }

pub none_made : AreMade []
none_made = record {
  histories = λ file. tt;
  order = λ file u v a. absurd a;
  numbers = λ file m l. absurd l;
  one = λ u v l. absurd l;
}

-- ---- what is known of versions, where one more was made

module _ (p : Policy) (m : Made) (h : List Made) (k : IsHistory (m ∷ h)) (head : Head)
    (is : IsHeadOf p h head) where
  same_version : version_of p (m ∷ h) is.made ≡ version_of p h is.made
  same_version = sym (earlier_version m h k p is.made is.among)

  pub later_head : IsHeadOf p (m ∷ h) head
  later_head = record {
    made = is.made;
    among = inr is.among;
    whole = is.whole ∙ ap (λ (v : VersionValue). v.head) (sym same_version);
  }

  -- the body is as it was
  pub later_body : body_of p (m ∷ h) head.stamp ≡ body_of p h head.stamp
  later_body =
      let P : Head → Type 0 = (λ x. body_of p (m ∷ h) x.stamp ≡ body_of p h x.stamp) in
      subst P (sym is.whole) (ap (λ (v : VersionValue). v.body) same_version)
