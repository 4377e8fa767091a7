-- The heads of a set as a function of the history and the set, and the content that has them.
use Rattle.std.proofs.Common.{◌≡◌, ℕ, zero, suc, ◌+◌, ◌<◌, arith, Bool, true, false, cond, not, ◌&&◌, ◌||◌, List, [], ◌∷◌, map, ◌⊎◌, inl, inr, refl, sym, ap, subst, ◌∙◌}
use Rattle.std.specs.List.{filter, list_any}
use Rattle.pg_base.specs.declared.stamp.Stamp.{Stamp}
use Rattle.pg_base.specs.declared.policy.Policy.{Policy}
use Rattle.pg_base.specs.Version.{VersionValue, stamp_of}
use Rattle.pg_content.specs.Shown.{by_stamp}
use Rattle.pg_content.specs.Content.{ContentValue, Among}
use Rattle.pg_content.specs.History.{Made, IsMember, is_same_stamp, is_ancestor, is_among, is_head, heads_of, IsAncestor, IsHead, IsHistory, version_of}
use Rattle.pg_content.specs.StandsFor.{InStrictOrder, IsClosed, StandsFor, content_of}
use Rattle.std.proofs.lemmas.Bool.{and_from, and_parts, or_cases, or_left, or_right, not_from_false, not_from_true, false_from_ne_true}
use Rattle.pg_content.proofs.Members.{among_map, map_among, among_filter, filter_among, any_found, any_by}
use Rattle.pg_content.proofs.Stamps.{same_stamp, same_true, stamps_differ}
use Rattle.pg_content.proofs.Numbers.{member_of, made_of, ancestor_member, earlier_differs}
use Rattle.pg_content.proofs.Ancestry.{ancestor_trans}
use Rattle.pg_content.proofs.Inserting.{among_inserted, inserted_among}
use Rattle.pg_content.proofs.StrictOrder.{InStrictOrder-inserted, same_heads}
use Rattle.pg_content.proofs.Standing.{head_among, content_of_parts}

-- ---- tests and facts

pub is_ancestor-true : (h : List Made) (u v : Stamp) → is_ancestor h u v ≡ true → IsAncestor h u v
is_ancestor-true [] u v e = absurd (let f : false ≡ true = e in cc)
is_ancestor-true (m ∷ h) u v e =
    elim (or_cases (is_same_stamp v m.stamp && list_any (λ b. is_same_stamp u b || is_ancestor h u b) m.bases) (is_ancestor h u v) e) [
      | inl last ↦
          let p = and_parts (is_same_stamp v m.stamp) (list_any (λ b. is_same_stamp u b || is_ancestor h u b) m.bases) last in
          let b = any_found (λ b. is_same_stamp u b || is_ancestor h u b) m.bases p.1 in
          inl (
            same_stamp v m.stamp p.0,
            b.0,
            b.1,
            elim (or_cases (is_same_stamp u b.0) (is_ancestor h u b.0) b.2) [
              | inl itself ↦ inl (same_stamp u b.0 itself)
              | inr further ↦ inr (is_ancestor-true h u b.0 further)
            ],
          )
      | inr later ↦ inr (is_ancestor-true h u v later)
    ]

pub is_ancestor-by : (h : List Made) (u v : Stamp) → IsAncestor h u v → is_ancestor h u v ≡ true
is_ancestor-by [] u v a = absurd a
is_ancestor-by (m ∷ h) u v a =
    elim a [
      | inl last ↦ or_left (is_same_stamp v m.stamp && list_any (λ b. is_same_stamp u b || is_ancestor h u b) m.bases) (is_ancestor h u v)
          (and_from (is_same_stamp v m.stamp) (list_any (λ b. is_same_stamp u b || is_ancestor h u b) m.bases) (same_true v m.stamp last.0)
          (any_by (λ b. is_same_stamp u b || is_ancestor h u b) m.bases last.1 last.2 (elim last.3 [
            | inl itself ↦ or_left (is_same_stamp u last.1) (is_ancestor h u last.1) (same_true u last.1 itself)
            | inr further ↦ or_right (is_same_stamp u last.1) (is_ancestor h u last.1) (is_ancestor-by h u last.1 further)
          ])))
      | inr later ↦ or_right (is_same_stamp v m.stamp && list_any (λ b. is_same_stamp u b || is_ancestor h u b) m.bases) (is_ancestor h u v) (is_ancestor-by h u v later)
    ]

pub is_head-true : (h : List Made) (set : List Stamp) (s : Stamp) → is_head h set s ≡ true → IsHead h set s
is_head-true h set s e =
    let p = and_parts (is_among set s) (not (list_any (is_ancestor h s) set)) e in
    let x = any_found (is_same_stamp s) set p.0 in
    (subst (λ t. Among t set) (sym (same_stamp s x.0 x.2)) x.1, λ t l a. (let z : false ≡ true = sym (not_from_true (list_any (is_ancestor h s) set) (any_by (is_ancestor h s) set t l (is_ancestor-by h s t a))) ∙ p.1 in cc))

pub is_head-by : (h : List Made) (set : List Stamp) (s : Stamp) → IsHead h set s → is_head h set s ≡ true
is_head-by h set s head =
    and_from (is_among set s) (not (list_any (is_ancestor h s) set)) (any_by (is_same_stamp s) set s head.0 (same_true s s refl))
    (not_from_false (list_any (is_ancestor h s) set) (false_from_ne_true (list_any (is_ancestor h s) set) (λ e. let x = any_found (is_ancestor h s) set e in head.1 x.0 x.1 (is_ancestor-true h s x.0 x.2))))

-- ---- the heads, in order

among_by_stamp : (x : VersionValue) (vs : List VersionValue) → Among x (by_stamp stamp_of vs) → Among x vs
among_by_stamp x [] k = k
among_by_stamp x (v ∷ vs) k = elim (among_inserted x v (by_stamp stamp_of vs) k) [ inl put ↦ inl put | inr there ↦ inr (among_by_stamp x vs there) ]

by_stamp_among : (x : VersionValue) (vs : List VersionValue) → Among x vs → Among x (by_stamp stamp_of vs)
by_stamp_among x [] k = k
by_stamp_among x (v ∷ vs) k = inserted_among x v (by_stamp stamp_of vs) (elim k [ inl put ↦ inl put | inr there ↦ inr (by_stamp_among x vs there) ])

module _ (keeps : Made → Bool) where
  module _ (whole : Made → VersionValue) (names : (m : Made) → (whole m).head.stamp ≡ m.stamp) where
    ordered_by : (m : Made) (h : List Made) (b : Bool) → IsHistory (m ∷ h) → InStrictOrder (by_stamp stamp_of (map whole (filter keeps h))) → InStrictOrder (by_stamp stamp_of (map whole (cond b (m ∷ filter keeps h) (filter keeps h))))
    ordered_by m h false k rest = rest
    ordered_by m h true k rest =
        InStrictOrder-inserted (whole m) (by_stamp stamp_of (map whole (filter keeps h))) (λ w l e.
        let x = among_map whole (filter keeps h) w (among_by_stamp w (map whole (filter keeps h)) l) in
        let there = among_filter keeps x.0 h x.1 in
        earlier_differs m h k x.0.stamp (member_of h x.0 there.0) (sym (sym (names m) ∙ e ∙ ap (λ (v : VersionValue). v.head.stamp) x.2 ∙ names x.0))) rest

    ordered : (h : List Made) → IsHistory h → InStrictOrder (by_stamp stamp_of (map whole (filter keeps h)))
    ordered [] k = tt
    ordered (m ∷ h) k = ordered_by m h (keeps m) k (ordered h k.1)

-- ---- the content of a set

module _ (h : List Made) (k : IsHistory h) (c : ContentValue) (set : List Stamp) (f : StandsFor c h set) where
  there : (v : VersionValue) → Among v c.heads → Among v (content_of c.policy h set).heads
  there v l =
      let r = f.heads v l in
      let kept = filter_among (λ m. is_head h set m.stamp) r.made h r.member (is_head-by h set r.made.stamp r.head) in
      subst (λ w. Among w (content_of c.policy h set).heads) (sym r.version) (by_stamp_among (version_of c.policy h r.made) (map (version_of c.policy h) (heads_of h set)) (map_among (version_of c.policy h) (heads_of h set) r.made kept))

  back : (v : VersionValue) → Among v (content_of c.policy h set).heads → Among v c.heads
  back v l =
      let x = among_map (version_of c.policy h) (heads_of h set) v (among_by_stamp v (map (version_of c.policy h) (heads_of h set)) l) in
      let kept = among_filter (λ m. is_head h set m.stamp) x.0 h x.1 in
      subst (λ w. Among w c.heads) (sym x.2) (head_among c h k set f x.0 kept.0 (is_head-true h set x.0.stamp kept.1))

  pub content_is : c ≡ content_of c.policy h set
  content_is = content_of_parts c.policy c.policy c.heads (content_of c.policy h set).heads refl (same_heads c.heads (content_of c.policy h set).heads f.order (ordered (λ m. is_head h set m.stamp) (version_of c.policy h) (λ m. refl) h k) there back)

-- ---- a set that holds the ancestors of its members has a content

-- how many versions are later than the one of that stamp
abbrev pub later_than : List Made → Stamp → ℕ
later_than [] s = 0
later_than (m ∷ h) s = cond (is_same_stamp s m.stamp) 0 (later_than h s + 1)

later_here : (m : Made) (h : List Made) (s : Stamp) → s ≡ m.stamp → later_than (m ∷ h) s ≡ 0
later_here m h s e = ap (λ b. cond b 0 (later_than h s + 1)) (same_true s m.stamp e)

later_there : (m : Made) (h : List Made) → IsHistory (m ∷ h) → (s : Stamp) → IsMember h s → later_than (m ∷ h) s ≡ later_than h s + 1
later_there m h k s is = ap (λ b. cond b 0 (later_than h s + 1)) (stamps_differ s m.stamp (earlier_differs m h k s is))

-- an ancestor is earlier
ancestor_earlier : (h : List Made) → IsHistory h → (u v : Stamp) → IsAncestor h u v → later_than h v < later_than h u
ancestor_earlier [] k u v a = absurd a
ancestor_earlier (m ∷ h) k u v a =
    elim a [
      | inl last ↦
          let is : IsMember h u = elim last.3 [
            | inl itself ↦ subst (IsMember h) (sym itself) (k.0.bases last.1 last.2)
            | inr further ↦ (ancestor_member h k.1 u last.1 further).0
          ] in
          let e = later_here m h v last.0 in
          let f = later_there m h k u is in
          omega arith
      | inr later ↦
          let r = ancestor_member h k.1 u v later in
          let e = later_there m h k v r.1 in
          let f = later_there m h k u r.0 in
          let g = ancestor_earlier h k.1 u v later in
          omega arith
    ]

not_head : (a b : Bool) → a ≡ true → (a && not b) ≡ false → b ≡ true
not_head a true e f = refl
not_head true false e f = absurd (let g : true ≡ false = f in cc)
not_head false false e f = absurd (let g : false ≡ true = e in cc)

module _ (policy : Policy) (h : List Made) (k : IsHistory h) (set : List Stamp) (closed : IsClosed h set) where
  -- a head of the set that is the version, or of which it is an ancestor
  abbrev pub Below : Stamp → Type 0
  Below s = (v : VersionValue) × Among v (content_of policy h set).heads × ((s ≡ v.head.stamp) ⊎ IsAncestor h s v.head.stamp)

  climb_by : (n : ℕ) (s : Stamp) → Among s set → later_than h s < n + 1 → (b : Bool) → is_head h set s ≡ b → ((t : Stamp) → Among t set → later_than h t < n → Below t) → Below s
  climb_by n s l lt true e rest =
      let m = made_of h s (closed.members s l) in
      let P : Stamp → Type 0 = λ t. is_head h set t ≡ true in
      let kept = filter_among (λ m. is_head h set m.stamp) m.0 h m.1 (subst P (sym m.2) e) in
      (version_of policy h m.0, by_stamp_among (version_of policy h m.0) (map (version_of policy h) (heads_of h set)) (map_among (version_of policy h) (heads_of h set) m.0 kept), inl (sym m.2))
  climb_by n s l lt false e rest =
      let x = any_found (is_ancestor h s) set (not_head (is_among set s) (list_any (is_ancestor h s) set) (any_by (is_same_stamp s) set s l (same_true s s refl)) e) in
      let up = is_ancestor-true h s x.0 x.2 in
      let lower = ancestor_earlier h k s x.0 up in
      let r = rest x.0 x.1 (omega arith) in (
        r.0,
        r.1,
        inr (elim r.2 [
          | inl itself ↦ subst (IsAncestor h s) itself up
          | inr further ↦ ancestor_trans h k s x.0 r.0.head.stamp up further
        ]),
      )

  climb : (n : ℕ) (s : Stamp) → Among s set → later_than h s < n → Below s
  climb zero s l lt = absurd (omega arith)
  climb (suc n) s l lt = climb_by n s l (omega arith) (is_head h set s) refl (climb n)

  pub content_stands : StandsFor (content_of policy h set) h set
  content_stands = record {
    closed = closed;
    order = ordered (λ m. is_head h set m.stamp) (version_of policy h) (λ m. refl) h k;
    heads = λ v l.
        let x = among_map (version_of policy h) (heads_of h set) v (among_by_stamp v (map (version_of policy h) (heads_of h set)) l) in
        let kept = among_filter (λ m. is_head h set m.stamp) x.0 h x.1 in
        record { made = x.0; member = kept.0; version = x.2; head = is_head-true h set x.0.stamp kept.1 };
    all = λ s l. climb (later_than h s + 1) s l (omega arith);
  }
