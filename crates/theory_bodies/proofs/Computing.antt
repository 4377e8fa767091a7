-- What is computed of kept deltas is what they lead to.
use Rattle.std.proofs.Common.{◌≡◌, ◌≢◌, ℕ, Bool, true, false, cond, List, [], ◌∷◌, Option, None, Some, reverse, option_map, inl, inr, refl, sym, ap, subst, ◌∙◌}
use Rattle.std.specs.Option.{option_and_then}
use Rattle.pg_base.specs.declared.stamp.Stamp.{Stamp}
use Rattle.pg_patch.specs.Ranges.{IsComposed, IsRanges, RangesValue}
use Rattle.pg_content.specs.Content.{Among}
use Rattle.pg_content.specs.History.{is_same_stamp}
use Rattle.pg_delta.specs.declared.delta.KeptDelta.{KeptDelta}
use Rattle.pg_delta.specs.Chain.{IsComposition, LeadsBy, are_same_stamps, chain, chain_of, is_worth_sending, only}
use Rattle.pg_delta.specs.Whole.{composed, delta_of, in_one, is_no_head}
use Rattle.pg_delta.proofs.Laid.{composed_is, composed_ranges}
use Rattle.theory_bodies.proofs.Sends.{among_reverse}

-- deltas whose ranges are ranges
abbrev pub HaveRanges : List KeptDelta → Type 0
HaveRanges ds = (d : KeptDelta) → Among d ds → IsRanges d.ranges

-- ---- steps in one

same_ranges : (x y : RangesValue) → Some x ≡ Some y → x ≡ y
same_ranges x y e = cc

same_steps : (x y : List KeptDelta) → Some x ≡ Some y → x ≡ y
same_steps x y e = cc

mapped_is : {A B : Type 0} (f : A → B) (o : Option A) (y : B) → option_map f o ≡ Some y
    → (x : A) × (o ≡ Some x) × (Some (f x) ≡ Some y)
mapped_is f None y e = absurd (let z : None ≡ Some y = e in cc)
mapped_is f (Some x) y e = (x, refl, e)

pub composed_of : (steps : List KeptDelta) → HaveRanges steps → (c : RangesValue)
    → in_one steps ≡ Some c → IsComposition steps c × IsRanges c
composed_of [] k c e = absurd (let z : None ≡ Some c = e in cc)
composed_of (d ∷ []) k c e =
    let same = same_ranges d.ranges c e in (sym same, subst IsRanges same (k d (inl refl)))
composed_of (d ∷ e ∷ more) k c is =
    let m = mapped_is (λ r. composed r d.ranges) (in_one (e ∷ more)) c is in
    let rest = composed_of (e ∷ more) (λ x l. k x (inr l)) m.0 m.1 in
    let here = k d (inl refl) in
    let same = same_ranges (composed m.0 d.ranges) c m.2 in (
      (
        m.0,
        rest.0,
        record {
          first = rest.1;
          second = here;
          composed = subst (IsComposed m.0 d.ranges) same (composed_is m.0 d.ranges rest.1 here);
        },
      ),
      subst IsRanges same (composed_ranges m.0 d.ranges rest.1 here),
    )

-- ---- the steps of a chain are among the deltas

module _ (from : List Stamp) (x : KeptDelta) where
  abbrev AreThere : List KeptDelta → Option (List KeptDelta) → Type 0
  AreThere ds o = (steps : List KeptDelta) → o ≡ Some steps → Among x steps → Among x ds

  first_step : (d : KeptDelta) (earlier : List KeptDelta) (o : Option (List KeptDelta))
      → AreThere earlier o → AreThere (d ∷ earlier) (option_map (λ ds. d ∷ ds) o)
  first_step d earlier None k steps e l = absurd (let z : None ≡ Some steps = e in cc)
  first_step d earlier (Some ds) k steps e l =
      let is = same_steps (d ∷ ds) steps e in
      elim (subst (Among x) (sym is) l) [ inl here ↦ inl here | inr later ↦ inr (k ds refl later) ]

  from_one : (d : KeptDelta) (earlier : List KeptDelta) (o : Option Stamp)
      → ((to : Stamp) → AreThere earlier (chain earlier from to))
      → AreThere (d ∷ earlier)
      (option_map (λ ds. d ∷ ds) (option_and_then (λ s. chain earlier from s) o))
  from_one d earlier None k steps e l = absurd (let z : None ≡ Some steps = e in cc)
  from_one d earlier (Some s) k steps e l =
      first_step d earlier (chain earlier from s) (k s) steps e l

  at_start : (t : Bool) (d : KeptDelta) (earlier : List KeptDelta)
      → ((to : Stamp) → AreThere earlier (chain earlier from to))
      → AreThere (d ∷ earlier) (cond t (Some (d ∷ []))
      (option_map (λ ds. d ∷ ds) (option_and_then (λ s. chain earlier from s) (only d.from))))
  at_start true d earlier k steps e l =
      let is = same_steps (d ∷ []) steps e in
      elim (subst (Among x) (sym is) l) [ inl here ↦ inl here | inr none ↦ absurd none ]
  at_start false d earlier k steps e l = from_one d earlier (only d.from) k steps e l

  at_end : (t : Bool) (d : KeptDelta) (earlier : List KeptDelta) (to : Stamp)
      → ((to : Stamp) → AreThere earlier (chain earlier from to))
      → AreThere (d ∷ earlier) (cond t (cond (are_same_stamps d.from from) (Some (d ∷ []))
      (option_map (λ ds. d ∷ ds) (option_and_then (λ s. chain earlier from s) (only d.from))))
      (chain earlier from to))
  at_end true d earlier to k steps e l =
      at_start (are_same_stamps d.from from) d earlier k steps e l
  at_end false d earlier to k steps e l = inr (k to steps e l)

  chain_among : (ds : List KeptDelta) (to : Stamp) → AreThere ds (chain ds from to)
  chain_among [] to steps e l = absurd (let z : None ≡ Some steps = e in cc)
  chain_among (d ∷ earlier) to steps e l =
      at_end (is_same_stamp d.to to) d earlier to (chain_among earlier) steps e l

-- ---- what is to be sent

worth_is : (t : Bool) (r c : RangesValue) → cond t (Some r) None ≡ Some c → r ≡ c
worth_is true r c e = same_ranges r c e
worth_is false r c e = absurd (let z : None ≡ Some c = e in cc)

module _ (kept : List KeptDelta) (k : HaveRanges kept) (from : List Stamp) (to : Stamp) (len : ℕ)
    (c : RangesValue) where
  abbrev Tested : RangesValue → Option RangesValue
  Tested r = cond (is_worth_sending r len) (Some r) None

  by_ranges : (some : from ≢ []) (steps : List KeptDelta) → chain_of kept from to ≡ Some steps
      → (o : Option RangesValue) → in_one steps ≡ o → option_and_then Tested o ≡ Some c
      → LeadsBy kept from to c
  by_ranges some steps there None one e = absurd (let z : None ≡ Some c = e in cc)
  by_ranges some steps there (Some r) one e =
      let same = worth_is (is_worth_sending r len) r c e in
      let have : HaveRanges steps =
      λ d l. k d (among_reverse kept d (chain_among from d (reverse kept) to steps there l)) in
      let is = composed_of steps have c (one ∙ ap (λ (z : RangesValue). Some z) same) in
      record { some = some; steps = steps; chain = there; whole = is.0; ranges = is.1 }

  by_chain : (some : from ≢ []) (o : Option (List KeptDelta)) → chain_of kept from to ≡ o
      → option_and_then Tested (option_and_then in_one o) ≡ Some c → LeadsBy kept from to c
  by_chain some None there e = absurd (let z : None ≡ Some c = e in cc)
  by_chain some (Some steps) there e = by_ranges some steps there (in_one steps) refl e

no_stamps : (s : Stamp) (more : List Stamp) → s ∷ more ≡ [] → ⊥
no_stamps s more e = cc

-- WHAT IS COMPUTED LEADS THERE
pub computed_leads : (kept : List KeptDelta) → HaveRanges kept → (from : List Stamp) (to : Stamp)
    (len : ℕ) (c : RangesValue) → delta_of kept from to len ≡ Some c → LeadsBy kept from to c
computed_leads kept k [] to len c e = absurd (let z : None ≡ Some c = e in cc)
computed_leads kept k (s ∷ more) to len c e =
    by_chain kept k (s ∷ more) to len c (no_stamps s more)
    (chain_of kept (s ∷ more) to) refl e
