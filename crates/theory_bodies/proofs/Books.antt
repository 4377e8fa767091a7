-- What is true by the histories of one moment is true by those of a later one.
use Rattle.std.proofs.Common.{◌≡◌, ℕ, true, List, [], ◌∷◌, ◌++◌, length, inr, refl, sym, ap, subst, ◌∙◌}
use Rattle.pg_base.specs.declared.head.Head.{Head}
use Rattle.pg_base.specs.declared.id.FileId.{FileId}
use Rattle.pg_base.specs.declared.policy.Policy.{Policy}
use Rattle.pg_base.specs.Version.{VersionValue}
use Rattle.pg_content.specs.Content.{Among}
use Rattle.pg_content.specs.History.{IsHistory, Made, version_of}
use Rattle.pg_content.proofs.Ancestry.{one_made}
use Rattle.pg_content.proofs.StandsWritten.{earlier_version}
use Rattle.pg_delta.specs.declared.delta.KeptDelta.{KeptDelta}
use Rattle.pg_delta.specs.Leading.{IsTrueDelta}
use Rattle.pg_delta.proofs.Leads.{true_later}
use Rattle.theory_bodies.specs.Book.{IsBook, Book, GrowsTo, IsHeadIn, IsVersionIn, body_in, version_in}

-- ---- one history grows

pub later_among : (newer h : List Made) (m : Made) → Among m h → Among m (newer ++ h)
later_among [] h m l = l
later_among (n ∷ newer) h m l = inr (later_among newer h m l)

later_version : (policy : Policy) (newer h : List Made) → IsHistory (newer ++ h) → (m : Made) → Among m h
    → version_of policy (newer ++ h) m ≡ version_of policy h m
later_version policy [] h k m l = refl
later_version policy (n ∷ newer) h k m l =
    sym (earlier_version n (newer ++ h) k policy m (later_among newer h m l))
    ∙ later_version policy newer h k.1 m l

later_delta : (policy : Policy) (newer h : List Made) → IsHistory (newer ++ h) → (d : KeptDelta)
    → IsTrueDelta policy h d → IsTrueDelta policy (newer ++ h) d
later_delta policy [] h k d t = t
later_delta policy (n ∷ newer) h k d t =
    true_later policy n (newer ++ h) k d (later_delta policy newer h k.1 d t)

-- ---- heads

-- the versions of one stamp are one, and so are their heads
pub one_head : (b : Book) → IsBook b → (file : FileId) (x y : Head) → IsHeadIn b file x
    → IsHeadIn b file y → x.stamp ≡ y.stamp → x ≡ y
one_head b k file x y p q e =
    let stamps : p.made.stamp ≡ q.made.stamp =
    sym (ap (λ (z : Head). z.stamp) p.whole) ∙ e ∙ ap (λ (z : Head). z.stamp) q.whole in
    let same = one_made (b.made file) (k.histories file) p.made q.made p.among q.among stamps in
    p.whole ∙ ap (λ (m : Made). (version_in b file m).head) same ∙ sym q.whole

-- the length that a head tells is that of the body
pub head_length : (b : Book) (file : FileId) (x : Head) → IsHeadIn b file x
    → length (body_in b file x.stamp) ≡ x.length
head_length b file x p =
    let P : Head → Type 0 = λ z. length (body_in b file z.stamp) ≡ z.length in
    subst P (sym p.whole) refl

version_of_parts : (x y : Head) (xs ys : List ℕ) → x ≡ y → xs ≡ ys
    → ◌≡◌ {A = VersionValue} (record { head = x; body = xs }) (record { head = y; body = ys })
version_of_parts x y xs ys e f = cc

-- the head and the body of a version are the version
pub whole_version : (b : Book) (file : FileId) (v : VersionValue) → IsHeadIn b file v.head
    → v.body ≡ body_in b file v.head.stamp → IsVersionIn b file v
whole_version b file v p e = record {
  made = p.made;
  among = p.among;
  whole = version_of_parts v.head (version_in b file p.made).head v.body (version_in b file p.made).body p.whole (e ∙ ap (λ (z : Head). body_in b file z.stamp) p.whole);
}

pub version_head : (b : Book) (file : FileId) (v : VersionValue) → IsVersionIn b file v
    → IsHeadIn b file v.head
version_head b file v p =
    record { made = p.made; among = p.among; whole = ap (λ (z : VersionValue). z.head) p.whole }

pub version_body : (b : Book) (file : FileId) (v : VersionValue) → IsVersionIn b file v
    → v.body ≡ body_in b file v.head.stamp
version_body b file v p =
    let P : VersionValue → Type 0 = λ z. z.body ≡ body_in b file z.head.stamp in
    subst P (sym p.whole) refl

-- ---- more was made

module _ (b c : Book) (old : IsBook b) (k : IsBook c) (g : GrowsTo b c) (file : FileId) where
  abbrev Newer : List Made
  Newer = (g.more file).0

  abbrev now_is : c.made file ≡ Newer ++ b.made file
  now_is = (g.more file).1

  history : IsHistory (Newer ++ b.made file)
  history = subst IsHistory now_is (k.histories file)

  pub grown_among : (m : Made) → Among m (b.made file) → Among m (c.made file)
  grown_among m l = subst (Among m) (sym now_is) (later_among Newer (b.made file) m l)

  pub grown_version : (m : Made) → Among m (b.made file) → version_in c file m ≡ version_in b file m
  grown_version m l =
      ap (λ p. version_of p (c.made file) m) (g.policy file (old.created file m l))
      ∙ ap (λ h. version_of (b.policy file) h m) now_is
      ∙ later_version (b.policy file) Newer (b.made file) history m l

  pub head_grows : (x : Head) → IsHeadIn b file x → IsHeadIn c file x
  head_grows x p = record {
    made = p.made;
    among = grown_among p.made p.among;
    whole = p.whole ∙ ap (λ (v : VersionValue). v.head) (sym (grown_version p.made p.among));
  }

  pub body_grows : (x : Head) → IsHeadIn b file x → body_in c file x.stamp ≡ body_in b file x.stamp
  body_grows x p =
      let P : Head → Type 0 = λ z. body_in c file z.stamp ≡ body_in b file z.stamp in
      subst P (sym p.whole) (ap (λ (v : VersionValue). v.body) (grown_version p.made p.among))

  pub version_grows : (v : VersionValue) → IsVersionIn b file v → IsVersionIn c file v
  version_grows v p = record {
    made = p.made;
    among = grown_among p.made p.among;
    whole = p.whole ∙ sym (grown_version p.made p.among);
  }

  -- ---- by the policy that the file has now, where it had a version

  pub delta_grows : b.created file ≡ true → (d : KeptDelta)
      → IsTrueDelta (b.policy file) (b.made file) d → IsTrueDelta (c.policy file) (c.made file) d
  delta_grows there d t =
      let P : List Made → Type 0 = λ h. IsTrueDelta (b.policy file) h d in
      let Q : Policy → Type 0 = λ p. IsTrueDelta p (c.made file) d in
      subst Q (sym (g.policy file there))
      (subst P (sym now_is) (later_delta (b.policy file) Newer (b.made file) history d t))
