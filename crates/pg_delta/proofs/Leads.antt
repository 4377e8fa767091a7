-- What true deltas lead to, and what a content stands for that takes a version as a delta.
use Rattle.std.proofs.Common.{◌≡◌, ℕ, Bool, true, false, cond, ◌⊎◌, List, [], ◌∷◌, ◌++◌, map, reverse, Option, Some, None, inl, inr, refl, sym, ap, subst, ◌∙◌}
use Rattle.std.proofs.lemmas.List.{reverse-append}
use Rattle.std.specs.Option.{option_and_then, option_map}
use Rattle.pg_base.specs.declared.policy.Policy.{Policy}
use Rattle.pg_base.specs.declared.stamp.Stamp.{Stamp}
use Rattle.pg_base.specs.Version.{VersionValue, stamp_of}
use Rattle.pg_patch.specs.Ranges.{RangesValue, applied}
use Rattle.pg_content.specs.Shown.{shown}
use Rattle.pg_content.specs.Content.{Among, ContentValue, joined_content, shown_bytes}
use Rattle.pg_content.specs.History.{IsHistory, IsMember, Made, body_of, is_same_stamp, version_of}
use Rattle.pg_content.specs.StandsFor.{IsWith, StandsFor}
use Rattle.pg_content.proofs.Members.{map_map}
use Rattle.pg_content.proofs.Numbers.{earlier_differs}
use Rattle.pg_content.proofs.Stamps.{same_stamp, same_true, stamps_differ}
use Rattle.pg_content.proofs.StandsJoined.{stands_joined}
use Rattle.pg_delta.specs.declared.delta.KeptDelta.{KeptDelta}
use Rattle.pg_delta.specs.Chain.{LeadsBy, applied_all, are_same_stamps, chain, only}
use Rattle.pg_delta.specs.Leading.{AreTrueDeltas, IsTrueDelta, shown_of}
use Rattle.pg_delta.specs.Taking.{delta_to, stamps_of, with_patched}
use Rattle.pg_delta.proofs.Chains.{composition_applied, same_stamps}
use Rattle.pg_delta.proofs.Fronts.{shown_one}

-- ---- one version more in the history

same_map : {B : Type 0} (f g : Stamp → B) (xs : List Stamp) → ((x : Stamp) → Among x xs → f x ≡ g x) → map f xs ≡ map g xs
same_map f g [] h = refl
same_map f g (x ∷ xs) h =
    let here = h x (inl refl) in
    let rest = same_map f g xs (λ y l. h y (inr l)) in
    λ i. here i ∷ rest i

module _ (policy : Policy) (m : Made) (h : List Made) (k : IsHistory (m ∷ h)) where
  body_stays : (s : Stamp) → IsMember h s → body_of policy (m ∷ h) s ≡ body_of policy h s
  body_stays s is = ap (λ b. cond b (applied (shown_of policy h m.bases) m.ranges) (body_of policy h s)) (stamps_differ s m.stamp (earlier_differs m h k s is))

  shown_stays : (from : List Stamp) → ((s : Stamp) → Among s from → IsMember h s) → shown_of policy (m ∷ h) from ≡ shown_of policy h from
  shown_stays from are =
      let now : Stamp → Stamp × List ℕ = (λ s. (s, body_of policy (m ∷ h) s)) in
      let before : Stamp → Stamp × List ℕ = (λ s. (s, body_of policy h s)) in
      ap (shown policy) (same_map now before from (λ s l i. (s, body_stays s (are s l) i)))

  pub true_later : (d : KeptDelta) → IsTrueDelta policy h d → IsTrueDelta policy (m ∷ h) d
  true_later d t = record {
    from = λ s l. inr (t.from s l);
    to = inr t.to;
    body = ap (λ x. applied x d.ranges) (shown_stays d.from t.from) ∙ t.body ∙ sym (body_stays d.to t.to);
  }

  pub true_made : IsTrueDelta policy (m ∷ h) (delta_to m.bases m.stamp m.ranges)
  true_made = record {
    from = λ s l. inr (k.0.bases s l);
    to = inl refl;
    body = ap (λ x. applied x m.ranges) (shown_stays m.bases k.0.bases)
        ∙ sym (ap (λ b. cond b (applied (shown_of policy h m.bases) m.ranges) (body_of policy h m.stamp)) (same_true m.stamp m.stamp refl));
  }

-- ---- what a chain leads to

only_is : (xs : List Stamp) (s : Stamp) → only xs ≡ Some s → xs ≡ s ∷ []
only_is [] s e = cc
only_is (x ∷ []) s e = (let same : x ≡ s = cc in ap (λ y. y ∷ []) same)
only_is (x ∷ y ∷ more) s e = cc

module _ (policy : Policy) (h : List Made) (from : List Stamp) where
  abbrev Leads : List KeptDelta → Stamp → Type 0
  Leads steps to = applied_all steps (shown_of policy h from) ≡ body_of policy h to

  abbrev LeadThere : List KeptDelta → Type 0
  LeadThere deltas = (to : Stamp) (steps : List KeptDelta) → chain deltas from to ≡ Some steps → Leads steps to

  first_step : (d : KeptDelta) (to : Stamp) → IsTrueDelta policy h d → d.to ≡ to → d.from ≡ from → Leads (d ∷ []) to
  first_step d to t there here = ap (λ xs. applied (shown_of policy h xs) d.ranges) (sym here) ∙ t.body ∙ ap (body_of policy h) there

  last_step : (d : KeptDelta) (s to : Stamp) (steps : List KeptDelta) → IsTrueDelta policy h d → d.to ≡ to → d.from ≡ s ∷ [] → Leads steps s → Leads (d ∷ steps) to
  last_step d s to steps t there here before =
      ap (λ x. applied x d.ranges) (before ∙ sym (shown_one policy s (body_of policy h s)) ∙ ap (shown_of policy h) (sym here)) ∙ t.body ∙ ap (body_of policy h) there

  by_steps : (d : KeptDelta) (s to : Stamp) (o : Option (List KeptDelta)) (steps : List KeptDelta) → IsTrueDelta policy h d → d.to ≡ to → d.from ≡ s ∷ [] → ((ds : List KeptDelta) → o ≡ Some ds → Leads ds s) → option_map (λ ds. d ∷ ds) o ≡ Some steps → Leads steps to
  by_steps d s to None steps t there here before e = absurd (let x : None ≡ Some steps = e in cc)
  by_steps d s to (Some ds) steps t there here before e =
      let same : d ∷ ds ≡ steps = (let x : Some (d ∷ ds) ≡ Some steps = e in cc) in
      subst (λ xs. Leads xs to) same (last_step d s to ds t there here (before ds refl))

  by_start : (d : KeptDelta) (earlier : List KeptDelta) (to : Stamp) (o : Option Stamp) (steps : List KeptDelta) → only d.from ≡ o → IsTrueDelta policy h d → d.to ≡ to → LeadThere earlier → option_map (λ ds. d ∷ ds) (option_and_then (λ s. chain earlier from s) o) ≡ Some steps → Leads steps to
  by_start d earlier to None steps start t there before e = absurd (let x : None ≡ Some steps = e in cc)
  by_start d earlier to (Some s) steps start t there before e =
      by_steps d s to (chain earlier from s) steps t there (only_is d.from s start) (before s) e

  by_from : (b : Bool) (d : KeptDelta) (earlier : List KeptDelta) (to : Stamp) (steps : List KeptDelta) → are_same_stamps d.from from ≡ b → IsTrueDelta policy h d → d.to ≡ to → LeadThere earlier
      → cond b (Some (d ∷ [])) (option_map (λ ds. d ∷ ds) (option_and_then (λ s. chain earlier from s) (only d.from))) ≡ Some steps → Leads steps to
  by_from true d earlier to steps here t there before e =
      let same : d ∷ [] ≡ steps = (let x : Some (d ∷ []) ≡ Some steps = e in cc) in
      subst (λ xs. Leads xs to) same (first_step d to t there (same_stamps d.from from here))
  by_from false d earlier to steps here t there before e = by_start d earlier to (only d.from) steps refl t there before e

  by_to : (b : Bool) (d : KeptDelta) (earlier : List KeptDelta) (to : Stamp) (steps : List KeptDelta) → is_same_stamp d.to to ≡ b → IsTrueDelta policy h d → LeadThere earlier
      → cond b (cond (are_same_stamps d.from from) (Some (d ∷ [])) (option_map (λ ds. d ∷ ds) (option_and_then (λ s. chain earlier from s) (only d.from)))) (chain earlier from to) ≡ Some steps → Leads steps to
  by_to true d earlier to steps there t before e = by_from (are_same_stamps d.from from) d earlier to steps refl t (same_stamp d.to to there) before e
  by_to false d earlier to steps there t before e = before to steps e

  chain_leads : (deltas : List KeptDelta) → AreTrueDeltas policy h deltas → LeadThere deltas
  chain_leads [] t to steps e = absurd (let x : None ≡ Some steps = e in cc)
  chain_leads (d ∷ earlier) t to steps e =
      by_to (is_same_stamp d.to to) d earlier to steps refl (t d (inl refl)) (chain_leads earlier (λ x l. t x (inr l))) e

among_append : (xs ys : List KeptDelta) (d : KeptDelta) → Among d (xs ++ ys) → Among d xs ⊎ Among d ys
among_append [] ys d l = inr l
among_append (x ∷ xs) ys d l = elim l [
  | inl here ↦ inl (inl here)
  | inr there ↦ elim (among_append xs ys d there) [ inl a ↦ inl (inr a) | inr b ↦ inr b ]
]

among_reverse : (xs : List KeptDelta) (d : KeptDelta) → Among d (reverse xs) → Among d xs
among_reverse [] d l = absurd l
among_reverse (x ∷ xs) d l = elim (among_append (reverse xs) (x ∷ []) d (subst (Among d) (reverse-append (x ∷ []) xs) l)) [
  | inl a ↦ inr (among_reverse xs d a)
  | inr b ↦ elim b [ inl here ↦ inl here | inr none ↦ absurd none ]
]

pub leads_to_body : (policy : Policy) (h : List Made) (kept : List KeptDelta) → AreTrueDeltas policy h kept → (from : List Stamp) (to : Stamp) (c : RangesValue) → LeadsBy kept from to c → applied (shown_of policy h from) c ≡ body_of policy h to
leads_to_body policy h kept t from to c led =
    sym (composition_applied led.steps c led.whole (shown_of policy h from))
    ∙ chain_leads policy h from (reverse kept) (λ d l. t d (among_reverse kept d l)) to led.steps led.chain

-- ---- what a content stands for

pub shown_is : (h : List Made) (c : ContentValue) (set : List Stamp) → StandsFor c h set → shown_bytes c ≡ shown_of c.policy h (stamps_of c)
shown_is h c set f =
    let with_body : Stamp → Stamp × List ℕ = (λ s. (s, body_of c.policy h s)) in
    let of_head : VersionValue → Stamp × List ℕ = (λ v. (v.head.stamp, v.body)) in
    let P : VersionValue → Type 0 = (λ w. body_of c.policy h w.head.stamp ≡ w.body) in
    let body : (v : VersionValue) → Among v c.heads → body_of c.policy h v.head.stamp ≡ v.body = (λ v l. subst P (sym (f.heads v l).version) refl) in
    ap (shown c.policy) (sym (map_map with_body stamp_of of_head c.heads (λ v l i. (v.head.stamp, body v l i))))

pub stands_taken : (h : List Made) → IsHistory h → (c : ContentValue) (old new : List Stamp) → StandsFor c h old → (m : Made) → Among m h → IsWith h old m.stamp new → (r : RangesValue) → applied (shown_bytes c) r ≡ body_of c.policy h m.stamp
    → StandsFor (with_patched c (version_of c.policy h m).head r) h new
stands_taken h k c old new f m is more r e =
    let head = (version_of c.policy h m).head in
    let P : List ℕ → Type 0 = (λ body. StandsFor (joined_content c (record { head = head; body = body })) h new) in
    subst P (sym e) (stands_joined h k c old new f m is more)

pub stands_sent : (h : List Made) → IsHistory h → (c : ContentValue) (old new : List Stamp) → StandsFor c h old → (m : Made) → Among m h → IsWith h old m.stamp new → (kept : List KeptDelta) → AreTrueDeltas c.policy h kept → (r : RangesValue) → LeadsBy kept (stamps_of c) m.stamp r
    → StandsFor (with_patched c (version_of c.policy h m).head r) h new
stands_sent h k c old new f m is more kept t r led =
    stands_taken h k c old new f m is more r (ap (λ x. applied x r) (shown_is h c old f) ∙ leads_to_body c.policy h kept t (stamps_of c) m.stamp r led)
