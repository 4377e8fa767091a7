-- After a write a content stands for the set with the new version, which may be made.
use Rattle.std.proofs.Common.{◌≡◌, ℕ, cond, List, ◌∷◌, map, ◌⊎◌, inl, inr, refl, sym, ap, subst, ◌∙◌, arith, ◌<◌, ◌^◌}
use Rattle.std.specs.List.{All}
use Rattle.std.proofs.lemmas.List.Elements.{All-nil}
use Rattle.pg_base.specs.declared.stamp.Stamp.{Stamp}
use Rattle.pg_base.specs.Vector.{number_at}
use Rattle.pg_patch.specs.Ranges.{applied}
use Rattle.pg_base.specs.declared.policy.Policy.{Policy}
use Rattle.pg_base.specs.Version.{VersionValue, stamp_of}
use Rattle.pg_content.specs.Shown.{shown}
use Rattle.pg_content.specs.Content.{ContentValue, Among, joined_all, one_more, next_vector, version_with, next_version, written, shown_bytes}
use Rattle.pg_content.specs.History.{Made, maker, IsMember, IsAncestor, vector_of, body_of, IsNext, version_of, IsHistory}
use Rattle.pg_content.specs.StandsFor.{StandsFor}
use Rattle.pg_content.proofs.Members.{all_among, among_map, map_among, map_map}
use Rattle.pg_content.proofs.Stamps.{same_true, stamps_differ}
use Rattle.pg_content.proofs.Numbers.{member_of, ancestor_member, vector_here, bases_from, earlier_differs, earlier_vector}
use Rattle.pg_content.proofs.Ancestry.{not_own_ancestor}
use Rattle.pg_content.proofs.StrictOrder.{Before}

-- ---- one version more in the history

module _ (m : Made) (h : List Made) (k : IsHistory (m ∷ h)) where
  pub earlier_ancestor : (u s : Stamp) → IsMember h s → IsAncestor (m ∷ h) u s → IsAncestor h u s
  earlier_ancestor u s is a = elim a [
    | inl last ↦ absurd (earlier_differs m h k s is last.0)
    | inr later ↦ later
  ]

  earlier_body : (policy : Policy) (s : Stamp) → IsMember h s → body_of policy (m ∷ h) s ≡ body_of policy h s
  earlier_body policy s is = ap (λ b. cond b (applied (shown policy (map (λ b. (b, body_of policy h b)) m.bases)) m.ranges) (body_of policy h s)) (stamps_differ s m.stamp (earlier_differs m h k s is))

  pub earlier_version : (policy : Policy) (n : Made) → Among n h → version_of policy h n ≡ version_of policy (m ∷ h) n
  earlier_version policy n is =
      let e = sym (earlier_vector m h k n.stamp (member_of h n is)) in
      let b = sym (earlier_body policy n.stamp (member_of h n is)) in
      λ i. version_with n.stamp (maker n) (e i) (b i)

  pub stands_later : (c : ContentValue) (set : List Stamp) → StandsFor c h set → StandsFor c (m ∷ h) set
  stands_later c set f = record {
    closed = record {
      members = λ s l. inr (f.closed.members s l);
      ancestors = λ s u l a. f.closed.ancestors s u l (earlier_ancestor u s (f.closed.members s l) a);
    };
    order = f.order;
    heads = λ v l. let r = f.heads v l in record {
      made = r.made;
      member = inr r.member;
      version = r.version ∙ earlier_version c.policy r.made r.member;
      head = (r.head.0, λ t n a. r.head.1 t n (earlier_ancestor r.made.stamp t (f.closed.members t n) a));
    };
    all = λ s l. let a = f.all s l in (a.0, a.1, elim a.2 [ inl e ↦ inl e | inr up ↦ inr (inr up) ]);
  }

-- ---- a write

module _ (m : Made) (h : List Made) (k : IsHistory (m ∷ h)) (c : ContentValue) (set : List Stamp) (f : StandsFor c h set) (based : m.bases ≡ map stamp_of c.heads) where
  head_vector : (v : VersionValue) → Among v c.heads → vector_of h v.head.stamp ≡ v.head.vector
  head_vector v l = let P : VersionValue → Type 0 = (λ w. vector_of h w.head.stamp ≡ w.head.vector) in let r = f.heads v l in subst P (sym r.version) refl

  head_body : (v : VersionValue) → Among v c.heads → body_of c.policy h v.head.stamp ≡ v.body
  head_body v l = let P : VersionValue → Type 0 = (λ w. body_of c.policy h w.head.stamp ≡ w.body) in let r = f.heads v l in subst P (sym r.version) refl

  base_vectors : map (vector_of h) m.bases ≡ map (λ (v : VersionValue). v.head.vector) c.heads
  base_vectors = ap (map (vector_of h)) based ∙ map_map (vector_of h) stamp_of (λ (v : VersionValue). v.head.vector) c.heads head_vector

  base_bodies : map {B = Stamp × List ℕ} (λ b. (b, body_of c.policy h b)) m.bases ≡ map {B = Stamp × List ℕ} (λ (v : VersionValue). (v.head.stamp, v.body)) c.heads
  base_bodies =
      let with_body : Stamp → Stamp × List ℕ = (λ b. (b, body_of c.policy h b)) in
      let of_head : VersionValue → Stamp × List ℕ = (λ v. (v.head.stamp, v.body)) in
      ap (map with_body) based ∙ map_map with_body stamp_of of_head c.heads (λ v l i. (v.head.stamp, head_body v l i))

  last_vector : vector_of (m ∷ h) m.stamp ≡ next_vector c.heads (maker m)
  last_vector = vector_here m h m.stamp refl ∙ ap (λ vs. one_more (joined_all vs) (maker m)) base_vectors

  last_body_is : body_of c.policy (m ∷ h) m.stamp ≡ applied (shown_bytes c) m.ranges
  last_body_is =
      ap (λ b. cond b (applied (shown c.policy (map (λ b. (b, body_of c.policy h b)) m.bases)) m.ranges) (body_of c.policy h m.stamp)) (same_true m.stamp m.stamp refl)
      ∙ ap (λ bs. applied (shown c.policy bs) m.ranges) base_bodies

  next_is : next_version c (maker m) m.stamp m.ranges ≡ version_of c.policy (m ∷ h) m
  next_is = λ i. version_with m.stamp (maker m) (sym last_vector i) (sym last_body_is i)

  head_base : (v : VersionValue) → Among v c.heads → Among v.head.stamp m.bases
  head_base v l = subst (Among v.head.stamp) (sym based) (map_among stamp_of c.heads v l)

  -- bases and their ancestors are in the set
  based_on : (u b : Stamp) → Among b m.bases → (u ≡ b) ⊎ IsAncestor h u b → Among u set
  based_on u b l a =
      let x = among_map stamp_of c.heads b (subst (Among b) based l) in
      let r = f.heads x.0 x.1 in
      let there : Among b set = subst (λ s. Among s set) (sym (x.2 ∙ ap (λ (v : VersionValue). v.head.stamp) r.version)) r.head.0 in
      elim a [
        | inl itself ↦ subst (λ s. Among s set) (sym itself) there
        | inr further ↦ f.closed.ancestors b u there further
      ]

  earlier_in : (s u : Stamp) → (s ≡ m.stamp) ⊎ Among s set → IsAncestor h u s → Among u set
  earlier_in s u l a = elim l [
    | inl last ↦ absurd (earlier_differs m h k s (ancestor_member h k.1 u s a).1 last)
    | inr there ↦ f.closed.ancestors s u there a
  ]

  pub stands_written : StandsFor (written c (maker m) m.stamp m.ranges) (m ∷ h) (m.stamp ∷ set)
  stands_written = record {
    closed = record {
      members = λ s l. elim l [ inl last ↦ inl last | inr there ↦ inr (f.closed.members s there) ];
      ancestors = λ s u l a. elim a [
        | inl last ↦ inr (based_on u last.1 last.2 last.3)
        | inr later ↦ inr (earlier_in s u l later)
      ];
    };
    order = (All-nil (Before (next_version c (maker m) m.stamp m.ranges)), tt);
    heads = λ v l. elim l [
      | inl last ↦ record { made = m; member = inl refl; version = last ∙ next_is; head = (inl refl, λ t n a. not_own_ancestor m h k t a) }
      | inr none ↦ absurd none
    ];
    all = λ s l. (
      next_version c (maker m) m.stamp m.ranges,
      inl refl,
      elim l [
        | inl last ↦ inl last
        | inr there ↦ (let a = f.all s there in inr (inl (refl, a.0.head.stamp, head_base a.0 a.1, a.2)))
      ],
    );
  }

-- ---- a version over all heads may be made

module _ (m : Made) (h : List Made) (c : ContentValue) (set : List Stamp) (f : StandsFor c h set) (based : m.bases ≡ map stamp_of c.heads) where
  base_member : (b : Stamp) → Among b m.bases → IsMember h b
  base_member b l =
      let x = among_map stamp_of c.heads b (subst (Among b) based l) in
      let r = f.heads x.0 x.1 in
      subst (IsMember h) (sym (x.2 ∙ ap (λ (v : VersionValue). v.head.stamp) r.version)) (member_of h r.made r.member)

  base_below : (s : Stamp) → Among s set → (b : Stamp) × Among b m.bases × ((s ≡ b) ⊎ IsAncestor h s b)
  base_below s l = let a = f.all s l in (a.0.head.stamp, subst (Among a.0.head.stamp) (sym based) (map_among stamp_of c.heads a.0 a.1), a.2)

  base_room : IsHistory h → All (λ (v : VersionValue). number_at v.head.vector (maker m) < 2 ^ 63) c.heads → number_at (joined_all (map (vector_of h) m.bases)) (maker m) < 2 ^ 63
  base_room k room =
      elim (bases_from h k m.bases (maker m)) [
        | inl none ↦ omega arith
        | inr r ↦
            let x = among_map stamp_of c.heads r.0 (subst (Among r.0) based r.1) in
            let w = f.heads x.0 x.1 in
            let P : VersionValue → Type 0 = λ v. vector_of h v.head.stamp ≡ v.head.vector in
            let same : vector_of h x.0.head.stamp ≡ x.0.head.vector = subst P (sym w.version) refl in
            let vector : vector_of h r.0 ≡ x.0.head.vector = ap (vector_of h) x.2 ∙ same in
            let e : number_at (joined_all (map (vector_of h) m.bases)) (maker m) ≡ number_at x.0.head.vector (maker m) = r.2 ∙ ap (λ v. number_at v (maker m)) vector in
            let below : number_at x.0.head.vector (maker m) < 2 ^ 63 = all_among (λ (v : VersionValue). number_at v.head.vector (maker m) < 2 ^ 63) c.heads x.0 room x.1 in
            omega arith
      ]

  pub may_be_made : IsHistory h → (IsMember h m.stamp → ⊥) → ((e : Made) → Among e h → maker e ≡ maker m → Among e.stamp set) → m.stamp.server < 2 ^ 32 → m.birth < 2 ^ 64 → All (λ (v : VersionValue). number_at v.head.vector (maker m) < 2 ^ 63) c.heads → IsNext h m
  may_be_made k fresh own server birth room = record {
    fresh = fresh;
    bases = base_member;
    own = λ e l same. base_below e.stamp (own e l same);
    server = server;
    birth = birth;
    number = base_room k room;
  }
