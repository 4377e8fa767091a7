-- After a join a content stands for the set with the version and its ancestors.
use Rattle.std.proofs.Common.{◌≡◌, ℕ, ◌≤◌, Bool, true, false, cond, not, leb, List, ◌⊎◌, ◌↔◌, inl, inr, refl, sym, ap, subst, ◌∙◌, arith}
use Rattle.std.specs.List.{filter}
use Rattle.std.proofs.lemmas.Bool.Decides.{nat_tests}
use Rattle.pg_base.specs.declared.stamp.Stamp.{Stamp}
use Rattle.pg_base.specs.Vector.{number_at}
use Rattle.pg_base.specs.Version.{VersionValue}
use Rattle.pg_content.specs.Content.{ContentValue, Among, is_covered, covers_version, put_version, joined_content}
use Rattle.pg_content.specs.History.{Made, maker, IsMember, IsAncestor, IsHead, vector_of, number_of, version_of, IsHistory}
use Rattle.pg_content.specs.StandsFor.{IsClosed, IsHeadVersion, StandsFor, IsWith}
use Rattle.pg_content.proofs.Members.{among_filter, filter_among}
use Rattle.pg_content.proofs.Numbers.{member_of, ancestor_member}
use Rattle.pg_content.proofs.Ancestry.{ancestor_trans, ancestor_other, covers_ancestor, covered_ancestor}
use Rattle.pg_content.proofs.Heads.{covered_is, is_covered_by}
use Rattle.pg_content.proofs.StrictOrder.{InStrictOrder-inserted, InStrictOrder-filter}
use Rattle.pg_content.proofs.Inserting.{among_inserted, inserted_among}
use Rattle.pg_content.proofs.Standing.{stands_same, covered_member, member_covered}

module _ (h : List Made) (k : IsHistory h) (c : ContentValue) (old new : List Stamp) (f : StandsFor c h old) (m : Made) (is : Among m h) (more : IsWith h old m.stamp new) where
  abbrev version : VersionValue
  version = version_of c.policy h m

  -- a head that the version covers
  abbrev goes : VersionValue → Bool
  goes w = covers_version (vector_of h m.stamp) w

  with_closed : IsClosed h new
  with_closed = record {
    members = λ s l. elim ((more s).0 l) [
      | inl there ↦ f.closed.members s there
      | inr added ↦ elim added [
        | inl itself ↦ subst (IsMember h) (sym itself) (member_of h m is)
        | inr further ↦ (ancestor_member h k s m.stamp further).0
      ]
    ];
    ancestors = λ s u l a. elim ((more s).0 l) [
      | inl there ↦ (more u).1 (inl (f.closed.ancestors s u there a))
      | inr added ↦ elim added [
        | inl itself ↦ (more u).1 (inr (inr (subst (IsAncestor h u) itself a)))
        | inr further ↦ (more u).1 (inr (inr (ancestor_trans h k u s m.stamp a further)))
      ]
    ];
  }

  -- where the set has the version already, it is the set
  same_set : Among m.stamp old → (s : Stamp) → Among s old ↔ Among s new
  same_set there s = (
    λ l. (more s).1 (inl l),
    λ l. elim ((more s).0 l) [
      | inl before ↦ before
      | inr added ↦ elim added [
        | inl itself ↦ subst (λ t. Among t old) (sym itself) there
        | inr further ↦ f.closed.ancestors m.stamp s there further
      ]
    ],
  )

  module _ (absent : Among m.stamp old → ⊥) where
    -- the version is no ancestor of a member
    new_head : IsHead h new m.stamp
    new_head = (
      (more m.stamp).1 (inr (inl refl)),
      λ t l a. elim ((more t).0 l) [
        | inl there ↦ absent (f.closed.ancestors t m.stamp there a)
        | inr added ↦ elim added [
          | inl itself ↦ ancestor_other h k m.stamp (subst (IsAncestor h m.stamp) itself a)
          | inr further ↦ ancestor_other h k m.stamp (ancestor_trans h k m.stamp t m.stamp a further)
        ]
      ],
    )

    -- a head that stays
    old_head : (n : Made) → Among n h → IsHead h old n.stamp → (number_of h n ≤ number_at (vector_of h m.stamp) (maker n) → ⊥) → IsHead h new n.stamp
    old_head n there head stays = (
      (more n.stamp).1 (inl head.0),
      λ t l a. elim ((more t).0 l) [
        | inl before ↦ head.1 t before a
        | inr added ↦ stays (covers_ancestor h k n there m.stamp (inr (elim added [
          | inl itself ↦ subst (IsAncestor h n.stamp) itself a
          | inr further ↦ ancestor_trans h k n.stamp t m.stamp a further
        ])))
      ],
    )

    not_covering : (n m : ℕ) → not (leb n m) ≡ true → n ≤ m → ⊥
    not_covering n m e le = grind (arith, nat_tests)

    put_head : (v : VersionValue) → Among v (put_version c.heads version) → IsHeadVersion c.policy h new v
    put_head v l = elim (among_inserted v version (filter (λ w. not (goes w)) c.heads) l) [
      | inl put ↦ record { made = m; member = is; version = put; head = new_head }
      | inr there ↦
          let r = among_filter (λ w. not (goes w)) v c.heads there in
          let s = f.heads v r.0 in
          let P : VersionValue → Type 0 = λ w. not (goes w) ≡ true in
          record { made = s.made; member = s.member; version = s.version; head = old_head s.made s.member s.head (not_covering (number_of h s.made) (number_at (vector_of h m.stamp) (maker s.made)) (subst P s.version r.1)) }
    ]

    other_stamps : (w : VersionValue) → Among w (filter (λ w. not (goes w)) c.heads) → m.stamp ≡ w.head.stamp → ⊥
    other_stamps w l e =
        let r = f.heads w (among_filter (λ w. not (goes w)) w c.heads l).0 in
        absent (subst (λ s. Among s old) (sym (e ∙ ap (λ (v : VersionValue). v.head.stamp) r.version)) r.head.0)

    kept_or_gone : (w : VersionValue) → Among w c.heads → (b : Bool) → goes w ≡ b → Among w (filter (λ w. not (goes w)) c.heads) ⊎ ((w.head.stamp ≡ m.stamp) ⊎ IsAncestor h w.head.stamp m.stamp)
    kept_or_gone w l false e = inl (filter_among (λ w. not (goes w)) w c.heads l (ap not e))
    kept_or_gone w l true e =
        let r = f.heads w l in
        let P : VersionValue → Type 0 = λ v. goes v ≡ true in
        let Q : VersionValue → Type 0 = λ v. (v.head.stamp ≡ m.stamp) ⊎ IsAncestor h v.head.stamp m.stamp in
        let t : goes (version_of c.policy h r.made) ≡ true = subst P r.version e in
        let le : number_of h r.made ≤ number_at (vector_of h m.stamp) (maker r.made) = grind (arith, nat_tests) in
        inr (subst Q (sym r.version) (covered_ancestor h k r.made r.member m.stamp le))

    put_all : (s : Stamp) → Among s new → (v : VersionValue) × Among v (put_version c.heads version) × ((s ≡ v.head.stamp) ⊎ IsAncestor h s v.head.stamp)
    put_all s l = elim ((more s).0 l) [
      | inl there ↦
          let a = f.all s there in
          elim (kept_or_gone a.0 a.1 (goes a.0) refl) [
            | inl stays ↦ (a.0, inserted_among a.0 version (filter (λ w. not (goes w)) c.heads) (inr stays), a.2)
            | inr gone ↦ (
              version,
              inserted_among version version (filter (λ w. not (goes w)) c.heads) (inl refl),
              elim a.2 [
                | inl itself ↦ elim gone [
                  | inl e ↦ inl (itself ∙ e)
                  | inr up ↦ inr (subst (λ t. IsAncestor h t m.stamp) (sym itself) up)
                ]
                | inr further ↦ elim gone [
                  | inl e ↦ inr (subst (IsAncestor h s) e further)
                  | inr up ↦ inr (ancestor_trans h k s a.0.head.stamp m.stamp further up)
                ]
              ],
            )
          ]
      | inr added ↦ (version, inserted_among version version (filter (λ w. not (goes w)) c.heads) (inl refl), added)
    ]

    put_stands : StandsFor (record { policy = c.policy; heads = put_version c.heads version }) h new
    put_stands = record {
      closed = with_closed;
      order = InStrictOrder-inserted version (filter (λ w. not (goes w)) c.heads) other_stamps (InStrictOrder-filter (λ w. not (goes w)) c.heads f.order);
      heads = put_head;
      all = put_all;
    }

  join_by : (b : Bool) → is_covered c.heads (maker m) (number_of h m) ≡ b → StandsFor (record { policy = c.policy; heads = cond b c.heads (put_version c.heads version) }) h new
  join_by true e = stands_same c h old new (same_set (covered_member c h k old f m is (covered_is c.heads (maker m) (number_of h m) e))) f
  join_by false e = put_stands (λ there. let t : is_covered c.heads (maker m) (number_of h m) ≡ true = is_covered_by c.heads (maker m) (number_of h m) (member_covered c h k old f m is there) in let x : true ≡ false = sym t ∙ e in cc)

  pub stands_joined : StandsFor (joined_content c version) h new
  stands_joined = join_by (is_covered c.heads (maker m) (number_of h m)) refl
