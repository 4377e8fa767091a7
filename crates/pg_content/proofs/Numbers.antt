-- Histories: their members, and the numbers in their vectors.
use Rattle.std.proofs.Common.{◌≡◌, ℕ, ◌+◌, ◌<◌, ◌≤◌, ◌^◌, max, Bool, true, false, cond, List, [], ◌∷◌, map, ◌⊎◌, inl, inr, refl, sym, ap, subst, ◌∙◌, arith}
use Rattle.std.specs.Ordering.{eq_by_cmp, is_eq}
use Rattle.std.specs.Cmp.{tied_itself}
use Rattle.std.proofs.lemmas.Map.Views.{tells_apart}
use Rattle.pg_base.specs.declared.stamp.Stamp.{Stamp}
use Rattle.pg_base.specs.declared.vector.Actor.{Actor}
use Rattle.pg_base.specs.Vector.{IsVector, actor_cmp, number_at}
use Rattle.pg_base.proofs.Vectors.{actor_exact, actor_total, number_at-raised, IsVector-raised}
use Rattle.pg_content.specs.Content.{Among, joined_all, one_more}
use Rattle.pg_content.specs.History.{Made, maker, IsMember, IsAncestor, vector_of, number_of, IsHistory}
use Rattle.pg_content.proofs.Members.{among_all, among_map, map_among}
use Rattle.pg_content.proofs.Stamps.{same_true, stamps_differ, stamp_cases}
use Rattle.pg_content.proofs.Joins.{empty_vector, IsVector-all, all_upto, all_from}
use Rattle.std.specs.List.{All}

-- ---- members

pub member_of : (h : List Made) (m : Made) → Among m h → IsMember h m.stamp
member_of [] m k = absurd k
member_of (e ∷ h) m k = elim k [ inl same ↦ inl (ap (λ (x : Made). x.stamp) same) | inr later ↦ inr (member_of h m later) ]

pub made_of : (h : List Made) (s : Stamp) → IsMember h s → (m : Made) × Among m h × (m.stamp ≡ s)
made_of [] s k = absurd k
made_of (e ∷ h) s k = elim k [ inl same ↦ (e, inl refl, sym same) | inr later ↦ (let r = made_of h s later in (r.0, inr r.1, r.2)) ]

-- ancestors are members, and so are those whose ancestors they are
pub ancestor_member : (h : List Made) → IsHistory h → (u v : Stamp) → IsAncestor h u v → IsMember h u × IsMember h v
ancestor_member [] k u v a = absurd a
ancestor_member (m ∷ h) k u v a =
    elim a [
      | inl last ↦ (
        inr (elim last.3 [
          | inl base ↦ subst (IsMember h) (sym base) (k.0.bases last.1 last.2)
          | inr further ↦ (ancestor_member h k.1 u last.1 further).0
        ]),
        inl last.0,
      )
      | inr later ↦ (let r = ancestor_member h k.1 u v later in (inr r.0, inr r.1))
    ]

-- ---- vectors

pub vector_here : (m : Made) (h : List Made) (s : Stamp) → s ≡ m.stamp → vector_of (m ∷ h) s ≡ one_more (joined_all (map (vector_of h) m.bases)) (maker m)
vector_here m h s e = ap (λ b. cond b (one_more (joined_all (map (vector_of h) m.bases)) (maker m)) (vector_of h s)) (same_true s m.stamp e)

pub vector_there : (m : Made) (h : List Made) (s : Stamp) → (s ≡ m.stamp → ⊥) → vector_of (m ∷ h) s ≡ vector_of h s
vector_there m h s other = ap (λ b. cond b (one_more (joined_all (map (vector_of h) m.bases)) (maker m)) (vector_of h s)) (stamps_differ s m.stamp other)

vectors_of : (h : List Made) (bs : List Stamp) → ((s : Stamp) → IsVector (vector_of h s)) → All IsVector (map (vector_of h) bs)
vectors_of h bs each = among_all IsVector (map (vector_of h) bs) (λ v k. let r = among_map (vector_of h) bs v k in subst IsVector (sym r.2) (each r.0))

joined_vector : (h : List Made) (bs : List Stamp) → ((s : Stamp) → IsVector (vector_of h s)) → IsVector (joined_all (map (vector_of h) bs))
joined_vector h bs each = IsVector-all (map (vector_of h) bs) (vectors_of h bs each)

more_vector : (es : List (Actor × ℕ)) (a : Actor) → IsVector es → a.server < 2 ^ 32 → a.birth < 2 ^ 64 → number_at es a < 2 ^ 63 → IsVector (one_more es a)
more_vector es a is server birth room = IsVector-raised es a (number_at es a + 1) is server birth (omega arith)

pub vector_is : (h : List Made) → IsHistory h → (s : Stamp) → IsVector (vector_of h s)
vector_is [] k s = empty_vector
vector_is (m ∷ h) k s =
    elim (stamp_cases s m.stamp) [
      | inl here ↦ subst IsVector (sym (vector_here m h s here)) (more_vector (joined_all (map (vector_of h) m.bases)) (maker m) (joined_vector h m.bases (vector_is h k.1)) k.0.server k.0.birth k.0.number)
      | inr other ↦ subst IsVector (sym (vector_there m h s other)) (vector_is h k.1 s)
    ]

-- ---- numbers

-- what versions know together, none of them or one of them knows
pub bases_from : (h : List Made) → IsHistory h → (bs : List Stamp) (q : Actor) → (number_at (joined_all (map (vector_of h) bs)) q ≡ 0) ⊎ ((b : Stamp) × Among b bs × (number_at (joined_all (map (vector_of h) bs)) q ≡ number_at (vector_of h b) q))
bases_from h k bs q =
    elim (all_from (map (vector_of h) bs) (vectors_of h bs (vector_is h k)) q) [
      | inl none ↦ inl none
      | inr r ↦ (let x = among_map (vector_of h) bs r.0 r.1 in inr (x.0, x.1, r.2 ∙ ap (λ v. number_at v q) x.2))
    ]

-- ---- one more at an actor

more_here : (es : List (Actor × ℕ)) (a q : Actor) → number_at (one_more es a) q ≡ cond (eq_by_cmp actor_cmp q a) (number_at es a + 1) (number_at es q)
more_here es a q =
    let n = number_at es a in
    let greater : max (number_at es a) (number_at es a + 1) ≡ number_at es a + 1 = omega arith in
    number_at-raised q a (n + 1) es (omega arith) ∙ ap (λ k. cond (eq_by_cmp actor_cmp q a) k (number_at es q)) greater

pub more_same : (es : List (Actor × ℕ)) (a : Actor) → number_at (one_more es a) a ≡ number_at es a + 1
more_same es a = more_here es a a ∙ ap (λ o. cond (is_eq o) (number_at es a + 1) (number_at es a)) (tied_itself actor_total a)

more_by : (es : List (Actor × ℕ)) (a q : Actor) (b : Bool) → eq_by_cmp actor_cmp q a ≡ b → (q ≡ a) ⊎ (cond b (number_at es a + 1) (number_at es q) ≡ number_at es q)
more_by es a q true e = inl (tells_apart actor_exact q a e)
more_by es a q false e = inr refl

-- at any other actor the number stays
pub more_cases : (es : List (Actor × ℕ)) (a q : Actor) → (q ≡ a) ⊎ (number_at (one_more es a) q ≡ number_at es q)
more_cases es a q = elim (more_by es a q (eq_by_cmp actor_cmp q a) refl) [ inl same ↦ inl same | inr stays ↦ inr (more_here es a q ∙ stays) ]

pub more_covers : (es : List (Actor × ℕ)) (a q : Actor) → number_at es q ≤ number_at (one_more es a) q
more_covers es a q =
    elim (more_cases es a q) [
      | inl same ↦ (let P : Actor → Type 0 = λ x. number_at es x ≤ number_at (one_more es a) x in subst P (sym same) (let e = more_same es a in omega arith))
      | inr stays ↦ omega arith
    ]

-- ---- the latest of a history

module _ (m : Made) (h : List Made) (k : IsHistory (m ∷ h)) where
  abbrev pub known : List (Actor × ℕ)
  known = joined_all (map (vector_of h) m.bases)

  pub base_known : (b : Stamp) → Among b m.bases → (q : Actor) → number_at (vector_of h b) q ≤ number_at known q
  base_known b is q = all_upto (map (vector_of h) m.bases) (vectors_of h m.bases (vector_is h k.1)) (vector_of h b) (map_among (vector_of h) m.bases b is) q

  pub known_from : (q : Actor) → 1 ≤ number_at known q → (b : Stamp) × Among b m.bases × (number_at known q ≡ number_at (vector_of h b) q)
  known_from q some =
      elim (bases_from h k.1 m.bases q) [
        | inl none ↦ absurd (omega arith)
        | inr r ↦ r
      ]

  -- none of the earlier versions has its stamp
  pub earlier_differs : (s : Stamp) → IsMember h s → s ≡ m.stamp → ⊥
  earlier_differs s is e = k.0.fresh (subst (IsMember h) e is)

  pub earlier_vector : (s : Stamp) → IsMember h s → vector_of (m ∷ h) s ≡ vector_of h s
  earlier_vector s is = vector_there m h s (earlier_differs s is)

  pub earlier_number : (u : Made) → Among u h → number_of (m ∷ h) u ≡ number_of h u
  earlier_number u is = ap (λ v. number_at v (maker u)) (earlier_vector u.stamp (member_of h u is))

  pub last_number : number_of (m ∷ h) m ≡ number_at known (maker m) + 1
  last_number = ap (λ v. number_at v (maker m)) (vector_here m h m.stamp refl) ∙ more_same known (maker m)

pub numbers_from_one : (h : List Made) → IsHistory h → (u : Made) → Among u h → 1 ≤ number_of h u
numbers_from_one [] k u is = absurd is
numbers_from_one (m ∷ h) k u is =
    elim is [
      | inl same ↦ (let P : Made → Type 0 = λ x. 1 ≤ number_of (m ∷ h) x in subst P (sym same) (let e = last_number m h k in omega arith))
      | inr later ↦ (let e = earlier_number m h k u later in let r = numbers_from_one h k.1 u later in omega arith)
    ]

-- each number in a vector is that of a version
pub number_from : (h : List Made) → IsHistory h → (v : Stamp) (a : Actor) → 1 ≤ number_at (vector_of h v) a → (x : Made) × Among x h × (maker x ≡ a) × (number_of h x ≡ number_at (vector_of h v) a)
number_from [] k v a some = absurd (let z : number_at [] a ≡ 0 = refl in omega arith)
number_from (m ∷ h) k v a some =
    let lifted : (w : Stamp) → 1 ≤ number_at (vector_of h w) a → (x : Made) × Among x (m ∷ h) × (maker x ≡ a) × (number_of (m ∷ h) x ≡ number_at (vector_of h w) a) =
    (λ w more. let r = number_from h k.1 w a more in (r.0, inr r.1, r.2, earlier_number m h k r.0 r.1 ∙ r.3)) in
    elim (stamp_cases v m.stamp) [
      | inl here ↦ (let e = vector_here m h v here in elim (more_cases (known m h k) (maker m) a) [
        | inl same ↦ (m, inl refl, sym same, (λ i. number_at (vector_of (m ∷ h) (sym here i)) (sym same i)))
        | inr stays ↦
            let f : number_at (vector_of (m ∷ h) v) a ≡ number_at (known m h k) a = ap (λ x. number_at x a) e ∙ stays in
            let b = known_from m h k a (omega arith) in
            let g : number_at (vector_of (m ∷ h) v) a ≡ number_at (vector_of h b.0) a = f ∙ b.2 in
            let r = lifted b.0 (omega arith) in
            (r.0, r.1, r.2, r.3 ∙ sym g)
      ])
      | inr other ↦
          let e : number_at (vector_of (m ∷ h) v) a ≡ number_at (vector_of h v) a = ap (λ x. number_at x a) (vector_there m h v other) in
          let r = lifted v (omega arith) in
          (r.0, r.1, r.2, r.3 ∙ sym e)
    ]
