-- Histories: vectors tell who is an ancestor of whom.
use Rattle.std.proofs.Common.{◌≡◌, ◌≤◌, List, [], ◌∷◌, ◌⊎◌, ◌↔◌, inl, inr, sym, ap, subst, ◌∙◌, arith}
use Rattle.pg_base.specs.declared.stamp.Stamp.{Stamp}
use Rattle.pg_base.specs.Vector.{number_at, Covers}
use Rattle.pg_content.specs.Content.{Among, one_more}
use Rattle.pg_content.specs.History.{Made, maker, IsMember, IsAncestor, vector_of, number_of, IsHistory}
use Rattle.pg_content.proofs.Stamps.{stamp_cases}
use Rattle.pg_content.proofs.Numbers.{member_of, ancestor_member, vector_here, vector_there, more_cases, more_covers, known, base_known, known_from, earlier_differs, earlier_number, last_number, numbers_from_one, number_from}

pub not_own_ancestor : (m : Made) (h : List Made) → IsHistory (m ∷ h) → (v : Stamp) → IsAncestor (m ∷ h) m.stamp v → ⊥
not_own_ancestor m h k v a =
    elim a [
      | inl last ↦ k.0.fresh (elim last.3 [
        | inl base ↦ subst (IsMember h) (sym base) (k.0.bases last.1 last.2)
        | inr further ↦ (ancestor_member h k.1 m.stamp last.1 further).0
      ])
      | inr later ↦ k.0.fresh (ancestor_member h k.1 m.stamp v later).0
    ]

-- a vector covers the version itself and its ancestors
pub covers_ancestor : (h : List Made) → IsHistory h → (u : Made) → Among u h → (v : Stamp) → (u.stamp ≡ v) ⊎ IsAncestor h u.stamp v → number_of h u ≤ number_at (vector_of h v) (maker u)
covers_ancestor [] k u is v a = absurd is
covers_ancestor (m ∷ h) k u is v a =
    elim is [
      | inl last ↦
          let P : Made → Type 0 = λ x. (x.stamp ≡ v) ⊎ IsAncestor (m ∷ h) x.stamp v in
          let Q : Made → Type 0 = λ x. number_of (m ∷ h) x ≤ number_at (vector_of (m ∷ h) v) (maker x) in
          subst Q (sym last) (elim (subst P last a) [
            | inl itself ↦ (let e : number_of (m ∷ h) m ≡ number_at (vector_of (m ∷ h) v) (maker m) = ap (λ s. number_at (vector_of (m ∷ h) s) (maker m)) itself in omega arith)
            | inr further ↦ absurd (not_own_ancestor m h k v further)
          ])
      | inr earlier ↦
          let n = earlier_number m h k u earlier in
          elim (stamp_cases v m.stamp) [
            | inl here ↦
                let e : number_at (vector_of (m ∷ h) v) (maker u) ≡ number_at (one_more (known m h k) (maker m)) (maker u) = ap (λ x. number_at x (maker u)) (vector_here m h v here) in
                let from_base : (b : Stamp) → Among b m.bases → (u.stamp ≡ b) ⊎ IsAncestor h u.stamp b → number_of (m ∷ h) u ≤ number_at (vector_of (m ∷ h) v) (maker u) =
                (λ b base r. let x = covers_ancestor h k.1 u earlier b r in let y = base_known m h k b base (maker u) in let z = more_covers (known m h k) (maker m) (maker u) in omega arith) in
                elim a [
                  | inl itself ↦ absurd (earlier_differs m h k u.stamp (member_of h u earlier) (itself ∙ here))
                  | inr further ↦ elim further [
                    | inl last ↦ from_base last.1 last.2 last.3
                    | inr later ↦ absurd (earlier_differs m h k v (ancestor_member h k.1 u.stamp v later).1 here)
                  ]
                ]
            | inr other ↦
                let e : number_at (vector_of (m ∷ h) v) (maker u) ≡ number_at (vector_of h v) (maker u) = ap (λ x. number_at x (maker u)) (vector_there m h v other) in
                let r : (u.stamp ≡ v) ⊎ IsAncestor h u.stamp v = elim a [
                  | inl itself ↦ inl itself
                  | inr further ↦ elim further [
                    | inl last ↦ absurd (other last.0)
                    | inr later ↦ inr later
                  ]
                ] in
                let x = covers_ancestor h k.1 u earlier v r in
                omega arith
          ]
    ]

-- a vector covers no other version
pub covered_ancestor : (h : List Made) → IsHistory h → (u : Made) → Among u h → (v : Stamp) → number_of h u ≤ number_at (vector_of h v) (maker u) → (u.stamp ≡ v) ⊎ IsAncestor h u.stamp v
covered_ancestor [] k u is v c = absurd is
covered_ancestor (m ∷ h) k u is v c =
    elim is [
      | inl last ↦ elim (stamp_cases v m.stamp) [
        | inl here ↦ inl (ap (λ (x : Made). x.stamp) last ∙ sym here)
        | inr other ↦
            let P : Made → Type 0 = λ x. number_of (m ∷ h) x ≤ number_at (vector_of (m ∷ h) v) (maker x) in
            let d : number_of (m ∷ h) m ≤ number_at (vector_of (m ∷ h) v) (maker m) = subst P last c in
            let e : number_at (vector_of (m ∷ h) v) (maker m) ≡ number_at (vector_of h v) (maker m) = ap (λ x. number_at x (maker m)) (vector_there m h v other) in
            let n = last_number m h k in
            let x = number_from h k.1 v (maker m) (omega arith) in
            let b = k.0.own x.0 x.1 x.2 in
            let below = covers_ancestor h k.1 x.0 x.1 b.0 b.2 in
            let f : number_at (vector_of h b.0) (maker x.0) ≡ number_at (vector_of h b.0) (maker m) = ap (λ q. number_at (vector_of h b.0) q) x.2 in
            let g = base_known m h k b.0 b.1 (maker m) in
            let y = x.3 in
            absurd (omega arith)
      ]
      | inr earlier ↦
          let n = earlier_number m h k u earlier in
          elim (stamp_cases v m.stamp) [
            | inl here ↦
                let e : number_at (vector_of (m ∷ h) v) (maker u) ≡ number_at (one_more (known m h k) (maker m)) (maker u) = ap (λ x. number_at x (maker u)) (vector_here m h v here) in
                elim (more_cases (known m h k) (maker m) (maker u)) [
                  | inl own ↦ (let b = k.0.own u earlier own in inr (inl (here, b.0, b.1, b.2)))
                  | inr stays ↦
                      let one = numbers_from_one h k.1 u earlier in
                      let b = known_from m h k (maker u) (omega arith) in
                      let f = b.2 in
                      inr (inl (here, b.0, b.1, covered_ancestor h k.1 u earlier b.0 (omega arith)))
                ]
            | inr other ↦
                let e : number_at (vector_of (m ∷ h) v) (maker u) ≡ number_at (vector_of h v) (maker u) = ap (λ x. number_at x (maker u)) (vector_there m h v other) in
                elim (covered_ancestor h k.1 u earlier v (omega arith)) [
                  | inl itself ↦ inl itself
                  | inr further ↦ inr (inr further)
                ]
          ]
    ]

-- ---- the order of ancestry

pub ancestor_trans : (h : List Made) → IsHistory h → (a b c : Stamp) → IsAncestor h a b → IsAncestor h b c → IsAncestor h a c
ancestor_trans [] k a b c p q = absurd p
ancestor_trans (m ∷ h) k a b c p q =
    let earlier : IsMember h b → IsAncestor h a b = (λ is. elim p [
      | inl last ↦ absurd (earlier_differs m h k b is last.0)
      | inr later ↦ later
    ]) in
    elim q [
      | inl last ↦ inl (
        last.0,
        last.1,
        last.2,
        inr (elim last.3 [
          | inl base ↦ subst (IsAncestor h a) base (earlier (subst (IsMember h) (sym base) (k.0.bases last.1 last.2)))
          | inr further ↦ ancestor_trans h k.1 a b last.1 (earlier (ancestor_member h k.1 b last.1 further).0) further
        ]),
      )
      | inr later ↦ inr (ancestor_trans h k.1 a b c (earlier (ancestor_member h k.1 b c later).0) later)
    ]

pub ancestor_other : (h : List Made) → IsHistory h → (s : Stamp) → IsAncestor h s s → ⊥
ancestor_other [] k s a = a
ancestor_other (m ∷ h) k s a =
    elim a [
      | inl last ↦ not_own_ancestor m h k s (subst (λ t. IsAncestor (m ∷ h) t s) last.0 (inl last))
      | inr later ↦ ancestor_other h k.1 s later
    ]

-- a stamp names one version
pub one_made : (h : List Made) → IsHistory h → (u v : Made) → Among u h → Among v h → u.stamp ≡ v.stamp → u ≡ v
one_made [] k u v p q e = absurd p
one_made (m ∷ h) k u v p q e =
    elim p [
      | inl first ↦ elim q [
        | inl second ↦ first ∙ sym second
        | inr later ↦ absurd (earlier_differs m h k v.stamp (member_of h v later) (sym e ∙ ap (λ (x : Made). x.stamp) first))
      ]
      | inr earlier ↦ elim q [
        | inl second ↦ absurd (earlier_differs m h k u.stamp (member_of h u earlier) (e ∙ ap (λ (x : Made). x.stamp) second))
        | inr later ↦ one_made h k.1 u v earlier later e
      ]
    ]

itself : (h : List Made) → IsHistory h → (u v : Made) → Among u h → Among v h → (u.stamp ≡ v.stamp) ⊎ IsAncestor h u.stamp v.stamp → (u ≡ v) ⊎ IsAncestor h u.stamp v.stamp
itself h k u v p q a = elim a [ inl e ↦ inl (one_made h k u v p q e) | inr further ↦ inr further ]

named : (h : List Made) (u v : Made) → (u ≡ v) ⊎ IsAncestor h u.stamp v.stamp → (u.stamp ≡ v.stamp) ⊎ IsAncestor h u.stamp v.stamp
named h u v a = elim a [ inl e ↦ inl (ap (λ (x : Made). x.stamp) e) | inr further ↦ inr further ]

pub ancestry : (h : List Made) → IsHistory h → (u v : Made) → Among u h → Among v h → Covers (vector_of h v.stamp) (maker u) (number_of h u) ↔ ((u ≡ v) ⊎ IsAncestor h u.stamp v.stamp)
ancestry h k u v p q = (λ c. itself h k u v p q (covered_ancestor h k u p v.stamp c), λ a. covers_ancestor h k u p v.stamp (named h u v a))
