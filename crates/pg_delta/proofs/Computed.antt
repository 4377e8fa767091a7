-- What is to be sent is what is computed.
use Rattle.std.proofs.Common.{◌≡◌, ℕ, cond, List, [], ◌∷◌, Option, Some, None, inl, inr, refl, sym, ap, ◌∙◌}
use Rattle.std.specs.Option.{option_and_then, option_map}
use Rattle.pg_base.specs.declared.stamp.Stamp.{Stamp}
use Rattle.pg_patch.specs.Ranges.{RangesValue, IsRanges}
use Rattle.pg_delta.specs.declared.delta.KeptDelta.{KeptDelta}
use Rattle.pg_delta.specs.Chain.{IsComposition, IsDelta, LeadsBy, chain_of, is_worth_sending}
use Rattle.pg_delta.specs.Whole.{composed, delta_of, in_one}
use Rattle.pg_delta.proofs.Laid.{composition_computed}

one_is : (steps : List KeptDelta) (c : RangesValue) → IsRanges c → IsComposition steps c → in_one steps ≡ Some c
one_is [] c rc h = absurd h
one_is (d ∷ []) c rc h = ap Some (sym h)
one_is (d ∷ e ∷ more) c rc h =
    ap (option_map (λ r. composed r d.ranges)) (one_is (e ∷ more) h.0 h.2.first h.1)
    ∙ ap Some (sym (composition_computed h.0 d.ranges c h.2.first h.2.second rc h.2.composed))

abbrev sendable : ℕ → RangesValue → Option RangesValue
sendable len c = cond (is_worth_sending c len) (Some c) None

-- the chain's ranges in one, where they are worth it
led_is : (kept : List KeptDelta) (from : List Stamp) (to : Stamp) (len : ℕ) (c : RangesValue) → LeadsBy kept from to c → delta_of kept from to len ≡ sendable len c
led_is kept [] to len c led = absurd (led.some refl)
led_is kept (s ∷ more) to len c led =
    ap (λ o. option_and_then (sendable len) (option_and_then in_one o)) led.chain
    ∙ ap (option_and_then (sendable len)) (one_is led.steps c led.ranges led.whole)

none_led : (kept : List KeptDelta) (from : List Stamp) (to : Stamp) (len : ℕ) → chain_of kept from to ≡ None → delta_of kept from to len ≡ None
none_led kept [] to len e = refl
none_led kept (s ∷ more) to len e = ap (λ o. option_and_then (sendable len) (option_and_then in_one o)) e

pub delta_computed : (kept : List KeptDelta) (from : List Stamp) (to : Stamp) (len : ℕ) (r : Option RangesValue) → IsDelta kept from to len r → r ≡ delta_of kept from to len
delta_computed kept from to len (Some c) h = sym (led_is kept from to len c h.0 ∙ ap (λ b. cond b (Some c) None) h.1)
delta_computed kept from to len None h = elim h [
  | inl empty ↦ sym (ap (λ xs. delta_of kept xs to len) empty)
  | inr more ↦ elim more [
    | inl none ↦ sym (none_led kept from to len none)
    | inr worse ↦ sym (led_is kept from to len worse.0 worse.1 ∙ ap (λ b. cond b (Some worse.0) None) worse.2)
  ]
]
