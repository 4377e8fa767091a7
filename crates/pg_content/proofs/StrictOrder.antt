-- Versions in the order of their stamps, no two of one stamp.
use Rattle.std.proofs.Common.{◌≡◌, Bool, true, false, cond, List, [], ◌∷◌, ◌⊎◌, inl, inr, refl, sym, ap, subst, ◌∙◌}
use Rattle.std.specs.List.{filter}
use Rattle.std.proofs.lemmas.List.Elements.{All-cons, All-nil, All-weaker}
use Rattle.pg_base.specs.Stamp.{IsBefore, is_before}
use Rattle.pg_base.proofs.Orders.{is_before-true, is_before-false}
use Rattle.pg_base.specs.Version.{VersionValue, stamp_of}
use Rattle.pg_content.specs.Shown.{inserted}
use Rattle.pg_content.specs.Content.{Among}
use Rattle.pg_content.specs.StandsFor.{InStrictOrder}
use Rattle.pg_content.proofs.Members.{all_among, among_all, among_filter}
use Rattle.pg_content.proofs.Stamps.{before_is, before_once, before_other, before_trans}
use Rattle.pg_content.proofs.Inserting.{among_inserted}

abbrev pub Before : VersionValue → VersionValue → Type 0
Before v w = IsBefore v.head.stamp w.head.stamp

order_by : (v w : VersionValue) (ws : List VersionValue) (b : Bool) → is_before w.head.stamp v.head.stamp ≡ b → (v.head.stamp ≡ w.head.stamp → ⊥) → InStrictOrder (w ∷ ws) → InStrictOrder (inserted stamp_of v ws) → InStrictOrder (cond b (w ∷ inserted stamp_of v ws) (v ∷ w ∷ ws))
order_by v w ws true e other h k =
    let first : Before w v = before_is w.head.stamp v.head.stamp (is_before-true w.head.stamp v.head.stamp e) (λ q. other (sym q)) in (
      among_all (Before w) (inserted stamp_of v ws) (λ x l. elim (among_inserted x v ws l) [
        | inl put ↦ subst (Before w) (sym put) first
        | inr there ↦ all_among (Before w) ws x h.0 there
      ]),
      k,
    )
order_by v w ws false e other h k =
    let first : Before v w = before_is v.head.stamp w.head.stamp (is_before-false w.head.stamp v.head.stamp e) other in
    (All-cons (Before v) w ws first (All-weaker (Before w) (Before v) (λ x l. before_trans v.head.stamp w.head.stamp x.head.stamp first l) ws h.0), h)

pub InStrictOrder-inserted : (v : VersionValue) (ws : List VersionValue) → ((w : VersionValue) → Among w ws → v.head.stamp ≡ w.head.stamp → ⊥) → InStrictOrder ws → InStrictOrder (inserted stamp_of v ws)
InStrictOrder-inserted v [] other h = (All-nil (Before v), tt)
InStrictOrder-inserted v (w ∷ ws) other h = order_by v w ws (is_before w.head.stamp v.head.stamp) refl (other w (inl refl)) h (InStrictOrder-inserted v ws (λ x k. other x (inr k)) h.1)

module _ (keeps : VersionValue → Bool) where
  kept_order : (w : VersionValue) (ws : List VersionValue) (b : Bool) → InStrictOrder (w ∷ ws) → InStrictOrder (filter keeps ws) → InStrictOrder (cond b (w ∷ filter keeps ws) (filter keeps ws))
  kept_order w ws true h k = (among_all (Before w) (filter keeps ws) (λ x l. all_among (Before w) ws x h.0 (among_filter keeps x ws l).0), k)
  kept_order w ws false h k = k

  pub InStrictOrder-filter : (ws : List VersionValue) → InStrictOrder ws → InStrictOrder (filter keeps ws)
  InStrictOrder-filter [] h = tt
  InStrictOrder-filter (w ∷ ws) h = kept_order w ws (keeps w) h (InStrictOrder-filter ws h.1)

-- two lists in strict order with the same members are one
first_same : (v w : VersionValue) (vs ws : List VersionValue) → InStrictOrder (v ∷ vs) → InStrictOrder (w ∷ ws) → (v ≡ w) ⊎ Among v ws → (w ≡ v) ⊎ Among w vs → v ≡ w
first_same v w vs ws h k p q = elim p [
  | inl same ↦ same
  | inr there ↦ elim q [
    | inl same ↦ sym same
    | inr here ↦ absurd (before_once v.head.stamp w.head.stamp (all_among (Before v) vs w h.0 here) (all_among (Before w) ws v k.0 there))
  ]
]

rest_among : (v w x : VersionValue) (vs ws : List VersionValue) → InStrictOrder (v ∷ vs) → v ≡ w → Among x vs → (x ≡ w) ⊎ Among x ws → Among x ws
rest_among v w x vs ws h e k l = elim l [
  | inl same ↦ absurd (before_other v.head.stamp x.head.stamp (all_among (Before v) vs x h.0 k) (ap (λ (y : VersionValue). y.head.stamp) (e ∙ sym same)))
  | inr later ↦ later
]

pub same_heads : (vs ws : List VersionValue) → InStrictOrder vs → InStrictOrder ws → ((v : VersionValue) → Among v vs → Among v ws) → ((v : VersionValue) → Among v ws → Among v vs) → vs ≡ ws
same_heads [] [] h k there back = refl
same_heads [] (w ∷ ws) h k there back = absurd (back w (inl refl))
same_heads (v ∷ vs) [] h k there back = absurd (there v (inl refl))
same_heads (v ∷ vs) (w ∷ ws) h k there back =
    let e = first_same v w vs ws h k (there v (inl refl)) (back w (inl refl)) in
    let rest = same_heads vs ws h.1 k.1 (λ x l. rest_among v w x vs ws h e l (there x (inr l))) (λ x l. rest_among w v x ws vs k (sym e) l (back x (inr l))) in
    λ i. e i ∷ rest i
