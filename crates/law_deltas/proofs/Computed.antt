-- What is computed of kept deltas is what is to be sent.
use Rattle.std.proofs.Common.{ℕ, ◌≡◌, ◌≢◌, Bool, true, false, cond, List, [], ◌∷◌, Option, None, Some, option_map, reverse, inl, inr, refl, sym, ap, subst, ◌∙◌}
use Rattle.std.specs.Option.{option_and_then}
use Rattle.pg_run.specs.pg_base.declared.stamp.Stamp.{Stamp}
use Rattle.pg_run.specs.pg_patch.Ranges.{RangesValue}
use Rattle.pg_run.specs.pg_content.Content.{Among}
use Rattle.pg_run.specs.pg_content.History.{is_same_stamp}
use Rattle.pg_run.specs.pg_delta.declared.delta.KeptDelta.{KeptDelta}
use Rattle.pg_run.specs.pg_delta.Chain.{IsDelta, LeadsBy, are_same_stamps, chain, chain_of, is_worth_sending, only}
use Rattle.pg_run.specs.pg_delta.Whole.{composed, delta_of, in_one}
use Rattle.pg_run.proofs.theory_bodies.Computing.{HaveRanges, composed_of}
use Rattle.pg_run.proofs.theory_bodies.Sends.{among_reverse}

same_steps : (xs ys : List KeptDelta) → Some xs ≡ Some ys → xs ≡ ys
same_steps xs ys e = cc

no_step : (d : KeptDelta) (ds : List KeptDelta) → d ∷ ds ≡ [] → ⊥
no_step d ds e = cc

no_stamp : (s : Stamp) (more : List Stamp) → s ∷ more ≡ [] → ⊥
no_stamp s more e = cc

-- ---- a chain is of some of the deltas, and of one at least

-- what is found of these
abbrev IsOf : List KeptDelta → Option (List KeptDelta) → Type 0
IsOf ds o = (steps : List KeptDelta) → o ≡ Some steps
    → (steps ≢ []) × ((x : KeptDelta) → Among x steps → Among x ds)

none_of : (ds : List KeptDelta) → IsOf ds None
none_of ds steps e = absurd (let z : None ≡ Some steps = e in cc)

first_of : (d : KeptDelta) (earlier : List KeptDelta) (o : Option (List KeptDelta)) → IsOf earlier o
    → IsOf (d ∷ earlier) (option_map (λ ds. d ∷ ds) o)
first_of d earlier None k steps e = none_of (d ∷ earlier) steps e
first_of d earlier (Some ds) k steps e =
    let is = same_steps (d ∷ ds) steps e in (
      λ none. no_step d ds (is ∙ none),
      λ x l. elim (subst (Among x) (sym is) l)
          [ inl here ↦ inl here | inr later ↦ inr ((k ds refl).1 x later) ],
    )

later_of : (d : KeptDelta) (earlier : List KeptDelta) (o : Option (List KeptDelta)) → IsOf earlier o
    → IsOf (d ∷ earlier) o
later_of d earlier o k steps e = ((k steps e).0, λ x l. inr ((k steps e).1 x l))

one_of : (d : KeptDelta) (earlier : List KeptDelta) → IsOf (d ∷ earlier) (Some (d ∷ []))
one_of d earlier steps e =
    let is = same_steps (d ∷ []) steps e in (
      λ none. no_step d [] (is ∙ none),
      λ x l. elim (subst (Among x) (sym is) l) [ inl here ↦ inl here | inr none ↦ absurd none ],
    )

module _ (from : List Stamp) where
  before_of : (d : KeptDelta) (earlier : List KeptDelta) (o : Option Stamp)
      → ((to : Stamp) → IsOf earlier (chain earlier from to))
      → IsOf (d ∷ earlier)
      (option_map (λ ds. d ∷ ds) (option_and_then (λ s. chain earlier from s) o))
  before_of d earlier None k = none_of (d ∷ earlier)
  before_of d earlier (Some s) k = first_of d earlier (chain earlier from s) (k s)

  start_of : (here : Bool) (d : KeptDelta) (earlier : List KeptDelta)
      → ((to : Stamp) → IsOf earlier (chain earlier from to))
      → IsOf (d ∷ earlier) (cond here (Some (d ∷ []))
      (option_map (λ ds. d ∷ ds) (option_and_then (λ s. chain earlier from s) (only d.from))))
  start_of true d earlier k = one_of d earlier
  start_of false d earlier k = before_of d earlier (only d.from) k

  end_of : (last : Bool) (d : KeptDelta) (earlier : List KeptDelta) (to : Stamp)
      → ((to : Stamp) → IsOf earlier (chain earlier from to))
      → IsOf (d ∷ earlier) (cond last (cond (are_same_stamps d.from from) (Some (d ∷ []))
      (option_map (λ ds. d ∷ ds) (option_and_then (λ s. chain earlier from s) (only d.from))))
      (chain earlier from to))
  end_of true d earlier to k = start_of (are_same_stamps d.from from) d earlier k
  end_of false d earlier to k = later_of d earlier (chain earlier from to) (k to)

  chain_is_of : (ds : List KeptDelta) (to : Stamp) → IsOf ds (chain ds from to)
  chain_is_of [] to = none_of []
  chain_is_of (d ∷ earlier) to = end_of (is_same_stamp d.to to) d earlier to (chain_is_of earlier)

-- ---- the steps in one

one_some : (d : KeptDelta) (more : List KeptDelta) → (c : RangesValue) × (in_one (d ∷ more) ≡ Some c)
one_some d [] = (d.ranges, refl)
one_some d (e ∷ more) =
    let r = one_some e more in
    (composed r.0 d.ranges, ap (option_map (λ c. composed c d.ranges)) r.1)

-- ---- what is sent

module _ (kept : List KeptDelta) (k : HaveRanges kept) (from : List Stamp) (some : from ≢ [])
    (to : Stamp) (len : ℕ) where
  abbrev Tested : RangesValue → Option RangesValue
  Tested c = cond (is_worth_sending c len) (Some c) None

  abbrev IsSent : Option RangesValue → Type 0
  IsSent o = IsDelta kept from to len o

  worth_by : (c : RangesValue) → LeadsBy kept from to c → (t : Bool) → is_worth_sending c len ≡ t
      → IsSent (cond t (Some c) None)
  worth_by c led true e = (led, e)
  worth_by c led false e = inr (inr (c, led, e))

  by_steps : (d : KeptDelta) (more : List KeptDelta) → chain_of kept from to ≡ Some (d ∷ more)
      → IsSent (option_and_then Tested (in_one (d ∷ more)))
  by_steps d more there =
      let steps = d ∷ more in
      let c = one_some d more in
      let among = (chain_is_of from (reverse kept) to steps there).1 in
      let have : HaveRanges steps = λ x l. k x (among_reverse kept x (among x l)) in
      let is = composed_of steps have c.0 c.1 in
      let led : LeadsBy kept from to c.0 =
      record { some = some; steps = steps; chain = there; whole = is.0; ranges = is.1 } in
      subst (λ (o : Option RangesValue). IsSent (option_and_then Tested o)) (sym c.1)
      (worth_by c.0 led (is_worth_sending c.0 len) refl)

  by_chain : (o : Option (List KeptDelta)) → chain_of kept from to ≡ o
      → IsSent (option_and_then Tested (option_and_then in_one o))
  by_chain None there = inr (inl there)
  by_chain (Some []) there =
      absurd ((chain_is_of from (reverse kept) to [] there).0 refl)
  by_chain (Some (d ∷ more)) there = by_steps d more there

-- WHAT IS COMPUTED IS SENT RIGHTLY
pub delta_is : (kept : List KeptDelta) → HaveRanges kept → (from : List Stamp) (to : Stamp) (len : ℕ)
    → IsDelta kept from to len (delta_of kept from to len)
delta_is kept k [] to len = inl refl
delta_is kept k (s ∷ more) to len =
    by_chain kept k (s ∷ more) (no_stamp s more) to len (chain_of kept (s ∷ more) to) refl
