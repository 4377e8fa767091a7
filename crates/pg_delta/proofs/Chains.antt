-- Chains: their steps in one, and the one answer that they give.
use Rattle.std.proofs.Common.{◌≡◌, ℕ, true, false, List, [], ◌∷◌, Option, Some, None, inl, inr, refl, sym, ap, subst, ◌∙◌}
use Rattle.std.proofs.lemmas.Slice.Eq.{slice_eq-Decides}
use Rattle.pg_base.specs.declared.stamp.Stamp.{Stamp}
use Rattle.pg_patch.specs.Ranges.{RangesValue, IsComposed, IsRanges, applied}
use Rattle.pg_patch.proofs.Composed.{two_applies}
use Rattle.pg_patch.proofs.Same.{one_composed}
use Rattle.pg_content.specs.History.{is_same_stamp}
use Rattle.pg_content.proofs.Stamps.{same_stamp, same_true}
use Rattle.pg_delta.specs.declared.delta.KeptDelta.{KeptDelta}
use Rattle.pg_delta.specs.Chain.{IsComposition, IsDelta, LeadsBy, applied_all, are_same_stamps, is_worth_sending}

pub same_stamps : (xs ys : List Stamp) → are_same_stamps xs ys ≡ true → xs ≡ ys
same_stamps xs ys h =
    let decides = slice_eq-Decides {E = is_same_stamp} (λ a b. (same_stamp a b, same_true a b)) xs ys (are_same_stamps xs ys) refl in
    decides.0 h

-- ---- the steps in one

pub composition_applied : (steps : List KeptDelta) (c : RangesValue) → IsComposition steps c → (body : List ℕ) → applied_all steps body ≡ applied body c
composition_applied [] c h body = absurd h
composition_applied (d ∷ []) c h body = ap (applied body) (sym h)
composition_applied (d ∷ e ∷ more) c h body =
    ap (λ x. applied x d.ranges) (composition_applied (e ∷ more) h.0 h.1 body) ∙ two_applies h.0 d.ranges c h.2.first h.2.second h.2.composed body

pub one_composition : (steps : List KeptDelta) (c d : RangesValue) → IsRanges c → IsRanges d → IsComposition steps c → IsComposition steps d → c ≡ d
one_composition [] c d u v g h = absurd g
one_composition (s ∷ []) c d u v g h = g ∙ sym h
one_composition (s ∷ t ∷ more) c d u v g h =
    let same = one_composition (t ∷ more) g.0 h.0 g.2.first h.2.first g.1 h.1 in
    let P : RangesValue → Type 0 = λ r. IsComposed r s.ranges d in
    one_composed g.0 s.ranges c d u v g.2.composed (subst P (sym same) h.2.composed)

-- ---- the one answer

one_led : (kept : List KeptDelta) (from : List Stamp) (to : Stamp) (c d : RangesValue) → LeadsBy kept from to c → LeadsBy kept from to d → c ≡ d
one_led kept from to c d x y =
    let some : Some x.steps ≡ Some y.steps = sym x.chain ∙ y.chain in
    let same : x.steps ≡ y.steps = cc in
    let P : List KeptDelta → Type 0 = λ steps. IsComposition steps d in
    one_composition x.steps c d x.ranges y.ranges x.whole (subst P (sym same) y.whole)

not_both : (kept : List KeptDelta) (from : List Stamp) (to : Stamp) (len : ℕ) (c : RangesValue) → IsDelta kept from to len (Some c) → IsDelta kept from to len None → ⊥
not_both kept from to len c x y = elim y [
  | inl empty ↦ x.0.some empty
  | inr more ↦ elim more [
    | inl none ↦ (let e : None ≡ Some x.0.steps = sym none ∙ x.0.chain in cc)
    | inr worse ↦
        let same = one_led kept from to c worse.0 x.0 worse.1 in
        let e : true ≡ false = sym x.1 ∙ ap (λ r. is_worth_sending r len) same ∙ worse.2 in
        cc
  ]
]

pub one_answer : (kept : List KeptDelta) (from : List Stamp) (to : Stamp) (len : ℕ) (a b : Option RangesValue) → IsDelta kept from to len a → IsDelta kept from to len b → a ≡ b
one_answer kept from to len None None x y = refl
one_answer kept from to len None (Some d) x y = absurd (not_both kept from to len d y x)
one_answer kept from to len (Some c) None x y = absurd (not_both kept from to len c x y)
one_answer kept from to len (Some c) (Some d) x y = ap Some (one_led kept from to c d x.0 y.0)
