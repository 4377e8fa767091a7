-- Contents and the sets of versions that they stand for.
use Rattle.std.proofs.Common.{◌≡◌, ◌≤◌, List, ◌⊎◌, ◌↔◌, inl, inr, sym, ap, subst, ◌∙◌}
use Rattle.pg_base.specs.declared.stamp.Stamp.{Stamp}
use Rattle.pg_base.specs.Vector.{number_at}
use Rattle.pg_base.specs.declared.policy.Policy.{Policy}
use Rattle.pg_base.specs.Version.{VersionValue}
use Rattle.pg_content.specs.Content.{ContentValue, Among, IsCovered}
use Rattle.pg_content.specs.History.{Made, maker, IsAncestor, IsHead, number_of, version_of, IsHistory}
use Rattle.pg_content.specs.StandsFor.{StandsFor}
use Rattle.pg_content.proofs.Ancestry.{covers_ancestor, covered_ancestor, one_made}
use Rattle.pg_content.proofs.StrictOrder.{same_heads}

module _ (c : ContentValue) (h : List Made) where
  pub stands_same : (set other : List Stamp) → ((s : Stamp) → Among s set ↔ Among s other) → StandsFor c h set → StandsFor c h other
  stands_same set other same f = record {
    closed = record {
      members = λ s k. f.closed.members s ((same s).1 k);
      ancestors = λ s u k a. (same u).0 (f.closed.ancestors s u ((same s).1 k) a);
    };
    order = f.order;
    heads = λ v k. let r = f.heads v k in record { made = r.made; member = r.member; version = r.version; head = ((same r.made.stamp).0 r.head.0, λ t l a. r.head.1 t ((same t).1 l) a) };
    all = λ s k. f.all s ((same s).1 k);
  }

  -- where one of the heads covers a version, the set has it
  pub covered_member : IsHistory h → (set : List Stamp) → StandsFor c h set → (m : Made) → Among m h → IsCovered c.heads (maker m) (number_of h m) → Among m.stamp set
  covered_member k set f m is covered =
      let r = f.heads covered.0 covered.1 in
      let P : VersionValue → Type 0 = λ v. number_of h m ≤ number_at v.head.vector (maker m) in
      elim (covered_ancestor h k m is r.made.stamp (subst P r.version covered.2)) [
        | inl itself ↦ subst (λ s. Among s set) (sym itself) r.head.0
        | inr further ↦ f.closed.ancestors r.made.stamp m.stamp r.head.0 further
      ]

  -- and where the set has a version, one of the heads covers it
  pub member_covered : IsHistory h → (set : List Stamp) → StandsFor c h set → (m : Made) → Among m h → Among m.stamp set → IsCovered c.heads (maker m) (number_of h m)
  member_covered k set f m is there =
      let a = f.all m.stamp there in
      let r = f.heads a.0 a.1 in
      let P : VersionValue → Type 0 = λ v. (m.stamp ≡ v.head.stamp) ⊎ IsAncestor h m.stamp v.head.stamp in
      let Q : VersionValue → Type 0 = λ v. number_of h m ≤ number_at v.head.vector (maker m) in
      (a.0, a.1, subst Q (sym r.version) (covers_ancestor h k m is r.made.stamp (subst P r.version a.2)))

  -- the heads of the set are among the heads
  pub head_among : IsHistory h → (set : List Stamp) → StandsFor c h set → (m : Made) → Among m h → IsHead h set m.stamp → Among (version_of c.policy h m) c.heads
  head_among k set f m is head =
      let a = f.all m.stamp head.0 in
      let r = f.heads a.0 a.1 in
      let stamp : a.0.head.stamp ≡ r.made.stamp = ap (λ (v : VersionValue). v.head.stamp) r.version in
      elim a.2 [
        | inl itself ↦ (let e = one_made h k m r.made is r.member (itself ∙ stamp) in subst (λ v. Among v c.heads) (r.version ∙ ap (version_of c.policy h) (sym e)) a.1)
        | inr further ↦ absurd (head.1 r.made.stamp r.head.0 (subst (IsAncestor h m.stamp) stamp further))
      ]

  pub among_head : IsHistory h → (set : List Stamp) → StandsFor c h set → (m : Made) → Among m h → Among (version_of c.policy h m) c.heads → IsHead h set m.stamp
  among_head k set f m is there =
      let r = f.heads (version_of c.policy h m) there in
      let stamp : m.stamp ≡ r.made.stamp = ap (λ (v : VersionValue). v.head.stamp) r.version in
      subst (λ s. IsHead h set s) (sym stamp) r.head

pub content_of_parts : (p q : Policy) (vs ws : List VersionValue) → p ≡ q → vs ≡ ws → ◌≡◌ {A = ContentValue} (record { policy = p; heads = vs }) (record { policy = q; heads = ws })
content_of_parts p q vs ws e f = cc

module _ (h : List Made) (k : IsHistory h) (c d : ContentValue) (first second : List Stamp) where
  others_too : StandsFor c h first → StandsFor d h second → c.policy ≡ d.policy → ((s : Stamp) → Among s first → Among s second) → ((s : Stamp) → Among s second → Among s first) → (v : VersionValue) → Among v c.heads → Among v d.heads
  others_too f g policy there back v is =
      let r = f.heads v is in
      let head : IsHead h second r.made.stamp = (there r.made.stamp r.head.0, λ t l a. r.head.1 t (back t l) a) in
      subst (λ w. Among w d.heads) (ap (λ p. version_of p h r.made) (sym policy) ∙ sym r.version) (head_among d h k second g r.made r.member head)

pub same_content : (h : List Made) (c d : ContentValue) (first second : List Stamp) → IsHistory h → StandsFor c h first → StandsFor d h second → c.policy ≡ d.policy → ((s : Stamp) → Among s first ↔ Among s second) → c ≡ d
same_content h c d first second k f g policy same =
    content_of_parts c.policy d.policy c.heads d.heads policy (same_heads c.heads d.heads f.order g.order
    (others_too h k c d first second f g policy (λ s. (same s).0) (λ s. (same s).1))
    (others_too h k d c second first g f (sym policy) (λ s. (same s).1) (λ s. (same s).0)))
