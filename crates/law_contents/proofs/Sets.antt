-- Sets of versions of a history: these versions, each with its ancestors.
use Rattle.std.proofs.Common.{ℕ, ◌≡◌, ◌≤◌, Bool, true, ◌||◌, List, ◌∷◌, refl, sym, subst, inl, inr, ◌⊎◌, ◌↔◌, arith}
use Rattle.std.proofs.lemmas.Bool.{or_cases, or_left, or_right}
use Rattle.std.specs.List.{filter}
use Rattle.pg_run.specs.pg_base.declared.stamp.Stamp.{Stamp}
use Rattle.pg_run.proofs.pg_content.Members.{among_map, map_among, any_found, any_by, among_filter, filter_among}
use Rattle.pg_run.proofs.pg_content.Stamps.{same_stamp, same_true}
use Rattle.pg_run.proofs.pg_content.Numbers.{member_of, made_of as member_made, ancestor_member}
use Rattle.pg_run.proofs.pg_content.Ancestry.{ancestor_trans}
use Rattle.pg_run.proofs.pg_content.HeadsOf.{is_ancestor-true, is_ancestor-by}
use Rattle.pg_run.specs.pg_content.Content.{Among}
use Rattle.pg_run.specs.pg_content.History.{IsAncestor, IsHistory, IsMember, Made, is_ancestor, is_same_stamp}
use Rattle.pg_run.specs.pg_content.StandsFor.{IsClosed, IsWith}
use Rattle.pg_run.specs.Journal.{is_within, with_ancestors}

-- ---- versions with their ancestors

-- one of these versions, or an ancestor of one
abbrev pub IsWithin : List Made → List Stamp → Stamp → Type 0
IsWithin h set s = (t : Stamp) × Among t set × ((s ≡ t) ⊎ IsAncestor h s t)

abbrev pub AreMembers : List Made → List Stamp → Type 0
AreMembers h set = (t : Stamp) → Among t set → IsMember h t

abbrev is_up_to : List Made → Stamp → Stamp → Bool
is_up_to h s t = is_same_stamp s t || is_ancestor h s t

within_true : (h : List Made) (set : List Stamp) (s : Stamp) → is_within h set s ≡ true
    → IsWithin h set s
within_true h set s e =
    let x = any_found (is_up_to h s) set e in (
      x.0,
      x.1,
      elim (or_cases (is_same_stamp s x.0) (is_ancestor h s x.0) x.2) [
        | inl itself ↦ inl (same_stamp s x.0 itself)
        | inr further ↦ inr (is_ancestor-true h s x.0 further)
      ],
    )

pub within_by : (h : List Made) (set : List Stamp) (s : Stamp) → IsWithin h set s
    → is_within h set s ≡ true
within_by h set s w =
    any_by (is_up_to h s) set w.0 w.1 (elim w.2 [
      | inl itself ↦ or_left (is_same_stamp s w.0) (is_ancestor h s w.0) (same_true s w.0 itself)
      | inr further ↦ or_right (is_same_stamp s w.0) (is_ancestor h s w.0)
          (is_ancestor-by h s w.0 further)
    ])

abbrev pub stamp_of_made : Made → Stamp
stamp_of_made m = m.stamp

-- what is taken is one of these versions, or an ancestor of one
pub taken_within : (h : List Made) (set : List Stamp) (s : Stamp) → Among s (with_ancestors h set)
    → IsWithin h set s
taken_within h set s l =
    let x = among_map stamp_of_made (filter (λ (m : Made). is_within h set m.stamp) h) s l in
    let kept = among_filter (λ (m : Made). is_within h set m.stamp) x.0 h x.1 in
    subst (IsWithin h set) (sym x.2) (within_true h set x.0.stamp kept.1)

module _ (h : List Made) (k : IsHistory h) (set : List Stamp) (are : AreMembers h set) where
  within_member : (s : Stamp) → IsWithin h set s → IsMember h s
  within_member s w = elim w.2 [
    | inl itself ↦ subst (IsMember h) (sym itself) (are w.0 w.1)
    | inr further ↦ (ancestor_member h k s w.0 further).0
  ]

  -- and each of them is taken
  pub within_taken : (s : Stamp) → IsWithin h set s → Among s (with_ancestors h set)
  within_taken s w =
      let m = member_made h s (within_member s w) in
      let P : Stamp → Type 0 = (λ x. is_within h set x ≡ true) in
      let kept = filter_among (λ (x : Made). is_within h set x.stamp) m.0 h m.1
      (subst P (sym m.2) (within_by h set s w)) in
      subst (λ x. Among x (with_ancestors h set)) m.2
      (map_among stamp_of_made (filter (λ (x : Made). is_within h set x.stamp) h) m.0 kept)

  pub itself_taken : (s : Stamp) → Among s set → Among s (with_ancestors h set)
  itself_taken s l = within_taken s (s, l, inl refl)

  -- what is taken holds the ancestors of its members
  pub taken_closed : IsClosed h (with_ancestors h set)
  taken_closed = record {
    members = λ s l. within_member s (taken_within h set s l);
    ancestors = λ s u l a.
        let w = taken_within h set s l in
        within_taken u (
          w.0,
          w.1,
          inr (elim w.2 [
            | inl itself ↦ subst (IsAncestor h u) itself a
            | inr further ↦ ancestor_trans h k u s w.0 a further
          ]),
        );
  }

-- a set that holds these versions and the ancestors of its members, and nothing else, is what is
-- taken
pub taken_is : (h : List Made) → IsHistory h → (old set : List Stamp) → IsClosed h old
    → ((t : Stamp) → Among t set → Among t old) → ((s : Stamp) → Among s old → IsWithin h set s)
    → (s : Stamp) → Among s old ↔ Among s (with_ancestors h set)
taken_is h k old set closed there back s = (
  λ l. within_taken h k set (λ t m. closed.members t (there t m)) s (back s l),
  λ l. let w = taken_within h set s l in elim w.2 [
    | inl itself ↦ subst (λ t. Among t old) (sym itself) (there w.0 w.1)
    | inr further ↦ closed.ancestors w.0 s (there w.0 w.1) further
  ],
)

-- ---- one more

-- what was taken is among what these versions bring, where they are more, and in a history with a
-- version more
pub within_later : (m : Made) (h : List Made) (set new : List Stamp)
    → ((t : Stamp) → Among t set → Among t new) → (s : Stamp) → Among s (with_ancestors h set)
    → IsWithin (m ∷ h) new s
within_later m h set new more s l =
    let w = taken_within h set s l in
    (w.0, more w.0 w.1, elim w.2 [ inl itself ↦ inl itself | inr further ↦ inr (inr further) ])

module _ (h : List Made) (k : IsHistory h) (set : List Stamp) (are : AreMembers h set) (m : Made)
    (is : Among m h) where
  pub with_member : AreMembers h (m.stamp ∷ set)
  with_member t l = elim l
      [ inl last ↦ subst (IsMember h) (sym last) (member_of h m is) | inr earlier ↦ are t earlier ]

  -- a version comes with its ancestors
  pub taken_with : IsWith h (with_ancestors h set) m.stamp (with_ancestors h (m.stamp ∷ set))
  taken_with t = (
    λ l. let w = taken_within h (m.stamp ∷ set) t l in
        let P : Stamp → Type 0 = (λ x. (t ≡ x) ⊎ IsAncestor h t x) in
        elim w.1 [
          | inl last ↦ inr (subst P last w.2)
          | inr earlier ↦ inl (within_taken h k set are t (w.0, earlier, w.2))
        ],
    λ l. within_taken h k (m.stamp ∷ set) with_member t (elim l [
      | inl before ↦ (let w = taken_within h set t before in (w.0, inr w.1, w.2))
      | inr new ↦ (m.stamp, inl refl, new)
    ]),
  )

-- no time of what is taken is later than all of these
pub taken_in_time : (h : List Made) (set : List Stamp) (last : ℕ)
    → ((u v : Stamp) → IsAncestor h u v → u.time ≤ v.time)
    → ((t : Stamp) → Among t set → t.time ≤ last) → (s : Stamp) → Among s (with_ancestors h set)
    → s.time ≤ last
taken_in_time h set last order upto s l =
    let w = taken_within h set s l in
    let le = upto w.0 w.1 in
    elim w.2 [
      | inl itself ↦ (let P : Stamp → Type 0 = (λ t. t.time ≤ last) in subst P (sym itself) le)
      | inr further ↦ (let more = order s w.0 further in omega arith)
    ]
