-- Covering: of versions by vectors, and of heads by heads.
use Rattle.std.proofs.Common.{◌≡◌, ℕ, ◌≤◌, Bool, true, false, cond, not, List, [], ◌∷◌, map, ◌⊎◌, ◌↔◌, inl, inr, refl, sym, ap, subst, arith}
use Rattle.std.specs.List.{filter}
use Rattle.std.proofs.lemmas.Bool.Decides.{nat_tests}
use Rattle.pg_base.specs.declared.stamp.Stamp.{Stamp}
use Rattle.pg_base.specs.declared.vector.Actor.{Actor}
use Rattle.pg_base.specs.Vector.{IsVector, number_at, Covers}
use Rattle.pg_patch.specs.Ranges.{RangesValue}
use Rattle.pg_base.specs.declared.policy.Policy.{Policy}
use Rattle.pg_base.specs.Version.{VersionValue}
use Rattle.pg_content.specs.Content.{ContentValue, Among, IsCovered, is_covered, covers_version, put_version, joined_version, joined_all, one_more, next_version, written}
use Rattle.pg_content.specs.History.{Made, maker, IsMember, IsAncestor, vector_of, number_of, version_of, IsHistory}
use Rattle.pg_content.specs.StandsFor.{StandsFor}
use Rattle.pg_content.specs.Covering.{IsVectorUpTo, IsUpToHead, AreCoveredBy, AreVersionsOf}
use Rattle.pg_content.proofs.Heads.{covered_is}
use Rattle.pg_content.proofs.Members.{among_all, among_map, map_among, filter_among}
use Rattle.pg_content.proofs.Joins.{all_upto}
use Rattle.pg_content.proofs.Numbers.{ancestor_member, base_known, earlier_vector, known, more_covers, vector_here, vector_is}
use Rattle.pg_content.proofs.Ancestry.{ancestor_trans, ancestor_other, covered_ancestor, one_made}
use Rattle.pg_content.proofs.Inserting.{inserted_among}
use Rattle.pg_content.proofs.Standing.{same_content}
use Rattle.std.specs.List.{All}

-- ---- vectors

pub upto_itself : (xs : List (Actor × ℕ)) → IsVectorUpTo xs xs
upto_itself xs = λ a. omega arith

pub upto_trans : (xs ys zs : List (Actor × ℕ)) → IsVectorUpTo xs ys → IsVectorUpTo ys zs → IsVectorUpTo xs zs
upto_trans xs ys zs p q = λ a. let f = p a in let g = q a in omega arith

module _ (m : Made) (h : List Made) (k : IsHistory (m ∷ h)) (u v : Stamp) where
  later_upto : IsMember h u → IsMember h v → IsVectorUpTo (vector_of h u) (vector_of h v) → IsVectorUpTo (vector_of (m ∷ h) u) (vector_of (m ∷ h) v)
  later_upto first second up =
      let P : List (Actor × ℕ) → Type 0 = λ x. IsVectorUpTo x (vector_of h v) in
      let Q : List (Actor × ℕ) → Type 0 = λ y. IsVectorUpTo (vector_of (m ∷ h) u) y in
      subst Q (sym (earlier_vector m h k v second)) (subst P (sym (earlier_vector m h k u first)) up)

  -- the latest knows what its bases know
  base_upto : (b : Stamp) → v ≡ m.stamp → Among b m.bases → IsMember h u → IsVectorUpTo (vector_of h u) (vector_of h b) → IsVectorUpTo (vector_of (m ∷ h) u) (vector_of (m ∷ h) v)
  base_upto b last base is up =
      let P : List (Actor × ℕ) → Type 0 = λ x. IsVectorUpTo x (one_more (known m h k) (maker m)) in
      let Q : List (Actor × ℕ) → Type 0 = λ y. IsVectorUpTo (vector_of (m ∷ h) u) y in
      let all : IsVectorUpTo (vector_of h u) (one_more (known m h k) (maker m)) = λ q. (let r = up q in let s = base_known m h k b base q in let t = more_covers (known m h k) (maker m) q in omega arith) in
      subst Q (sym (vector_here m h v last)) (subst P (sym (earlier_vector m h k u is)) all)

named_upto : (h : List Made) (u v : Stamp) → u ≡ v → IsVectorUpTo (vector_of h u) (vector_of h v)
named_upto h u v e = subst (λ s. IsVectorUpTo (vector_of h u) (vector_of h s)) e (upto_itself (vector_of h u))

-- a version knows what its ancestors know
pub ancestor_upto : (h : List Made) → IsHistory h → (u v : Stamp) → IsAncestor h u v → IsVectorUpTo (vector_of h u) (vector_of h v)
ancestor_upto [] k u v a = absurd a
ancestor_upto (m ∷ h) k u v a =
    elim a [
      | inl last ↦ elim last.3 [
        | inl base ↦ base_upto m h k u v last.1 last.0 last.2 (subst (IsMember h) (sym base) (k.0.bases last.1 last.2)) (named_upto h u last.1 base)
        | inr further ↦ base_upto m h k u v last.1 last.0 last.2 (ancestor_member h k.1 u last.1 further).0 (ancestor_upto h k.1 u last.1 further)
      ]
      | inr later ↦ (let is = ancestor_member h k.1 u v later in later_upto m h k u v is.0 is.1 (ancestor_upto h k.1 u v later))
    ]

itself_upto : (h : List Made) → IsHistory h → (u v : Stamp) → (u ≡ v) ⊎ IsAncestor h u v → IsVectorUpTo (vector_of h u) (vector_of h v)
itself_upto h k u v a = elim a [ inl e ↦ named_upto h u v e | inr further ↦ ancestor_upto h k u v further ]

covers_upto : (h : List Made) → IsHistory h → (u : Made) → Among u h → (v : Stamp) → number_of h u ≤ number_at (vector_of h v) (maker u) → IsVectorUpTo (vector_of h u.stamp) (vector_of h v)
covers_upto h k u is v covers = itself_upto h k u.stamp v (covered_ancestor h k u is v covers)

pub pointwise : (h : List Made) → IsHistory h → (u v : Made) → Among u h → Among v h → Covers (vector_of h v.stamp) (maker u) (number_of h u) ↔ IsVectorUpTo (vector_of h u.stamp) (vector_of h v.stamp)
pointwise h k u v p q = (λ covers. covers_upto h k u p v.stamp covers, λ up. up (maker u))

-- versions that know the same are one
pub upto_same : (h : List Made) → IsHistory h → (u v : Made) → Among u h → Among v h → IsVectorUpTo (vector_of h u.stamp) (vector_of h v.stamp) → IsVectorUpTo (vector_of h v.stamp) (vector_of h u.stamp) → u ≡ v
upto_same h k u v p q up down =
    elim (covered_ancestor h k u p v.stamp (up (maker u))) [
      | inl e ↦ one_made h k u v p q e
      | inr further ↦ elim (covered_ancestor h k v q u.stamp (down (maker v))) [
        | inl e ↦ one_made h k u v p q (sym e)
        | inr back ↦ absurd (ancestor_other h k u.stamp (ancestor_trans h k u.stamp v.stamp u.stamp further back))
      ]
    ]

-- ---- heads

pub covered_itself : (vs : List VersionValue) → AreCoveredBy vs vs
covered_itself vs = λ v l. (v, l, upto_itself v.head.vector)

pub covered_trans : (vs ws xs : List VersionValue) → AreCoveredBy vs ws → AreCoveredBy ws xs → AreCoveredBy vs xs
covered_trans vs ws xs p q = λ v l. let a = p v l in let b = q a.0 a.1 in (b.0, b.1, upto_trans v.head.vector a.0.head.vector b.0.head.vector a.2 b.2)

-- what the first cover, the second cover
pub still_covered : (vs ws : List VersionValue) → AreCoveredBy vs ws → (a : Actor) (n : ℕ) → IsCovered vs a n → IsCovered ws a n
still_covered vs ws p a n covered =
    let b = p covered.0 covered.1 in
    let up : number_at covered.0.head.vector a ≤ number_at b.0.head.vector a = b.2 a in
    let least : n ≤ number_at covered.0.head.vector a = covered.2 in
    (b.0, b.1, omega arith)

module _ (h : List Made) (k : IsHistory h) (c d : ContentValue) (first second : List Stamp) (f : StandsFor c h first) (g : StandsFor d h second) where
  -- a head whose vector is up to that of a head of the other is in the other's set
  head_within : (v w : VersionValue) → Among v c.heads → Among w d.heads → IsVectorUpTo v.head.vector w.head.vector → Among v.head.stamp second
  head_within v w l n up =
      let r = f.heads v l in
      let s = g.heads w n in
      let P : VersionValue → Type 0 = λ x. IsVectorUpTo x.head.vector w.head.vector in
      let Q : VersionValue → Type 0 = λ y. IsVectorUpTo (vector_of h r.made.stamp) y.head.vector in
      let both : IsVectorUpTo (vector_of h r.made.stamp) (vector_of h s.made.stamp) = subst Q s.version (subst P r.version up) in
      let there : Among r.made.stamp second = elim (covered_ancestor h k r.made r.member s.made.stamp (both (maker r.made))) [
        | inl itself ↦ subst (λ t. Among t second) (sym itself) s.head.0
        | inr further ↦ g.closed.ancestors s.made.stamp r.made.stamp s.head.0 further
      ] in
      subst (λ t. Among t second) (sym (ap (λ (x : VersionValue). x.head.stamp) r.version)) there

  covered_within : AreCoveredBy c.heads d.heads → (s : Stamp) → Among s first → Among s second
  covered_within p s l =
      let a = f.all s l in
      let b = p a.0 a.1 in
      let there = head_within a.0 b.0 a.1 b.1 b.2 in
      elim a.2 [
        | inl itself ↦ subst (λ t. Among t second) (sym itself) there
        | inr further ↦ g.closed.ancestors a.0.head.stamp s there further
      ]

  within_covered : ((s : Stamp) → Among s first → Among s second) → AreCoveredBy c.heads d.heads
  within_covered within = λ v l.
      let r = f.heads v l in
      let b = g.all r.made.stamp (within r.made.stamp r.head.0) in
      let s = g.heads b.0 b.1 in
      let P : VersionValue → Type 0 = λ x. (r.made.stamp ≡ x.head.stamp) ⊎ IsAncestor h r.made.stamp x.head.stamp in
      let Q : VersionValue → Type 0 = λ y. IsVectorUpTo (vector_of h r.made.stamp) y.head.vector in
      let R : VersionValue → Type 0 = λ x. IsVectorUpTo x.head.vector b.0.head.vector in
      let up = itself_upto h k r.made.stamp s.made.stamp (subst P s.version b.2) in
      (b.0, b.1, subst R (sym r.version) (subst Q (sym s.version) up))

  pub covered_sets : AreCoveredBy c.heads d.heads ↔ ((s : Stamp) → Among s first → Among s second)
  covered_sets = (covered_within, within_covered)

pub covered_same : (h : List Made) → IsHistory h → (c d : ContentValue) (first second : List Stamp) → StandsFor c h first → StandsFor d h second → c.policy ≡ d.policy → AreCoveredBy c.heads d.heads → AreCoveredBy d.heads c.heads → c ≡ d
covered_same h k c d first second f g policy p q =
    same_content h c d first second k f g policy (λ s. (covered_within h k c d first second f g p s, covered_within h k d c second first g f q s))

pub stands_versions : (h : List Made) (c : ContentValue) (set : List Stamp) → StandsFor c h set → AreVersionsOf c.policy h c.heads
stands_versions h c set f = λ v l. let r = f.heads v l in (r.made, r.member, r.version)

-- ---- a join and a write

module _ (h : List Made) (k : IsHistory h) (policy : Policy) (heads : List VersionValue) (are : AreVersionsOf policy h heads) where
  module _ (m : Made) (is : Among m h) where
    abbrev version : VersionValue
    version = version_of policy h m

    -- a head that the version covers
    abbrev goes : VersionValue → Bool
    goes w = covers_version (vector_of h m.stamp) w

    version_there : Among version (put_version heads version)
    version_there = inserted_among version version (filter (λ w. not (goes w)) heads) (inl refl)

    head_put : (w : VersionValue) → Among w heads → (b : Bool) → goes w ≡ b → IsUpToHead w.head.vector (put_version heads version)
    head_put w l false e = (w, inserted_among w version (filter (λ w. not (goes w)) heads) (inr (filter_among (λ w. not (goes w)) w heads l (ap not e))), upto_itself w.head.vector)
    head_put w l true e =
        let r = are w l in
        let P : VersionValue → Type 0 = λ v. goes v ≡ true in
        let Q : VersionValue → Type 0 = λ v. IsVectorUpTo v.head.vector (vector_of h m.stamp) in
        let t : goes (version_of policy h r.0) ≡ true = subst P r.2 e in
        let le : number_of h r.0 ≤ number_at (vector_of h m.stamp) (maker r.0) = grind (arith, nat_tests) in
        (version, version_there, subst Q (sym r.2) (covers_upto h k r.0 r.1 m.stamp le))

    covered_version : IsCovered heads (maker m) (number_of h m) → IsUpToHead (vector_of h m.stamp) heads
    covered_version covered =
        let r = are covered.0 covered.1 in
        let P : VersionValue → Type 0 = λ v. number_of h m ≤ number_at v.head.vector (maker m) in
        let Q : VersionValue → Type 0 = λ v. IsVectorUpTo (vector_of h m.stamp) v.head.vector in
        (covered.0, covered.1, subst Q (sym r.2) (covers_upto h k m is r.0.stamp (subst P r.2 covered.2)))

    join_covers : (b : Bool) → is_covered heads (maker m) (number_of h m) ≡ b → AreCoveredBy heads (cond b heads (put_version heads version)) × IsUpToHead (vector_of h m.stamp) (cond b heads (put_version heads version))
    join_covers true e = (covered_itself heads, covered_version (covered_is heads (maker m) (number_of h m) e))
    join_covers false e = (λ w l. head_put w l (goes w) refl, (version, version_there, upto_itself (vector_of h m.stamp)))

    pub joined_covers : AreCoveredBy heads (joined_version heads version) × IsUpToHead (vector_of h m.stamp) (joined_version heads version)
    joined_covers = join_covers (is_covered heads (maker m) (number_of h m)) refl

  abbrev vector : VersionValue → List (Actor × ℕ)
  vector v = v.head.vector

  head_vectors : All IsVector (map vector heads)
  head_vectors = among_all IsVector (map vector heads) (λ x l.
      let a = among_map vector heads x l in
      let r = are a.0 a.1 in
      subst IsVector (sym a.2) (subst (λ (v : VersionValue). IsVector v.head.vector) (sym r.2) (vector_is h k r.0.stamp)))

  -- what all know, one more of any actor, and that is the vector of a write
  next_covers : (a : Actor) (v : VersionValue) → Among v heads → IsVectorUpTo v.head.vector (one_more (joined_all (map vector heads)) a)
  next_covers a v l = λ q.
      let joined = all_upto (map vector heads) head_vectors v.head.vector (map_among vector heads v l) q in
      let more = more_covers (joined_all (map vector heads)) a q in
      omega arith

pub written_covers : (h : List Made) → IsHistory h → (c : ContentValue) → AreVersionsOf c.policy h c.heads → (a : Actor) (stamp : Stamp) (ranges : RangesValue) → AreCoveredBy c.heads ((written c a stamp ranges).heads)
written_covers h k c are a stamp ranges = λ v l. (next_version c a stamp ranges, inl refl, next_covers h k c.policy c.heads are a v l)
