-- The two parts of a step are a step by the rule.
use Rattle.std.proofs.Common.{ℕ, ◌≡◌, ◌≤◌, ◌⊎◌, List, All, Option, None, Some, refl, sym, subst, ◌∙◌, inl, inr}
use Rattle.theory_listing.specs.Protocol.{Protocol, IsOrdered, AtMost, AtLeast, IsIn, Lists}
use Rattle.theory_listing.specs.World.{Saying, Message}
use Rattle.theory_listing.specs.World.Saying.{TellOk}
use Rattle.theory_listing.specs.Rule.{Holds, HasCell, IsKnownAt, IsToldAt, MaySend, MayStep}
use Rattle.theory_listing.specs.Parts.{FirstPart, NoneLater, PartsAreSteps, PlacesAreKnown, SecondPart}
use Rattle.theory_listing.proofs.Somewhere.{most_then, left_behind}

module _ {N F P S : Type 0} (p : Protocol N F P S) where
  module _ (o : IsOrdered p) (least : ℕ) (a m b : N) (heard : Message F P S) (first : FirstPart p least a m heard) (second : SecondPart p a m b) where
    -- what is held in the end was held behind the first part, and the other way round
    held_by : (f : F) (x : P) (own : Option P) → p.own b f ≡ Some x → p.own m f ≡ own → Holds p m f
    held_by f x None held is = absurd (let e : None ≡ Some x = sym (second.gone f is) ∙ held in cc)
    held_by f x (Some y) held is = (y, is)

    held : (f : F) → Holds p b f → Holds p m f
    held f h = held_by f h.0 (p.own m f) h.1 refl

    gone_by : (f : F) (own : Option P) → p.own b f ≡ None → p.own m f ≡ own → p.own m f ≡ None
    gone_by f None none is = is
    gone_by f (Some y) none is = absurd (let h = second.holds f (y, is) in let e : None ≡ Some h.0 = sym none ∙ h.1 in cc)

    not_held : (f : F) → p.own b f ≡ None → p.own m f ≡ None
    not_held f none = gone_by f (p.own m f) none refl

    was_listed : (d c : F) (q : P) → Lists p b d c q → p.own b c ≡ None → Lists p m d c q
    was_listed d c q l none = record { cell = sym (second.unheld d c (not_held c none)) ∙ l.cell; is_in = l.is_in }

    grows : (f : F) (q x r : P) → (q ≡ x) ⊎ p.IsBelow (p.stamp q) (p.stamp x) → (x ≡ r) ⊎ p.IsBelow (p.stamp x) (p.stamp r) → (q ≡ r) ⊎ p.IsBelow (p.stamp q) (p.stamp r)
    grows f q x r (inl e) h = let Q : P → Type 0 = (λ z. (z ≡ r) ⊎ p.IsBelow (p.stamp z) (p.stamp r)) in subst Q (sym e) h
    grows f q x r (inr low) (inl e) = let Q : P → Type 0 = (λ z. p.IsBelow (p.stamp q) (p.stamp z)) in inr (subst Q e low)
    grows f q x r (inr low) (inr high) = inr (o.further (p.stamp q) (p.stamp x) (p.stamp r) low high)

    told : (d c : F) (t : S) → IsToldAt p m d c t → IsToldAt p b d c t
    told d c t h =
        let n = second.cells_grow d c h.0 h.1 in
        (n.0, n.1, most_then p o t (p.stamp h.0) (p.stamp n.0) h.2 n.2)

    has : (d c : F) → HasCell p m d c → HasCell p b d c
    has d c h = let n = second.cells_grow d c h.0 h.1 in (n.0, n.1)

    taken : (d c : F) (q x : P) → p.own m c ≡ Some x → Holds p m d → IsIn p d c q → HasCell p m d c ⊎ ((q ≡ x) × NoneLater p m c q) → HasCell p b d c
    taken d c q x mid h in_ (inl cell) = has d c cell
    taken d c q x mid h in_ (inr r) = let Q : P → Type 0 = (λ z. p.own m c ≡ Some z) in second.parent d c q (subst Q (sym r.0) mid) in_ h r.1

    patch_on : (d c : F) (q y : P) → AtMost p (p.stamp q) (p.stamp y) → AtLeast p (p.stamp y) (p.patch b d c) ⊎ IsToldAt p b d c (p.stamp y)
        → AtLeast p (p.stamp q) (p.patch b d c) ⊎ IsToldAt p b d c (p.stamp q) ⊎ (heard.says ≡ TellOk d c (p.stamp q))
    patch_on d c q y low (inl h) = inl (h.0, h.1, most_then p o (p.stamp q) (p.stamp y) (p.stamp h.0) low h.2)
    patch_on d c q y low (inr h) = inr (inl (h.0, h.1, most_then p o (p.stamp q) (p.stamp y) (p.stamp h.0) low h.2))

    -- THE TWO PARTS ARE A STEP BY THE RULE
    pub by_parts : (sent : List (Saying F P S)) → All (MaySend p b) sent → MayStep p least a b heard sent
    by_parts sent sends = record {
      settled = second.settled;
      views = (let up = first.views in let Q : ℕ → Type 0 = (λ v. p.view a ≤ v) in subst Q (sym second.view) up);
      hears = first.hears;
      birth = λ f was now. second.birth f (held f now) ∙ first.birth f was (held f now);
      past = λ f n h. second.past f n (first.past f n h);
      own_grows = λ f q r was now. (let x = held f (r, now) in grows f q x.0 r (first.own_grows f q x.0 was x.1) (second.own_grows f x.0 r x.1 now));
      cells_grow = λ d c q was now. told d c (p.stamp q) (first.cells_grow d c q was (held d now));
      taken = λ d c q r none now was in_ is low. (let x = held c (r, is) in taken d c q x.0 x.1 (held d now) in_ (first.taken d c q x.0 none (held d now) was in_ x.1));
      patch_begun = λ d c q r was in_ now low none. second.patch_begun d c q r (inl was) in_ now low none;
      patch_ends = λ d c q was. elim (first.patch_ends d c q was) [
        | inl y ↦ patch_on d c q y.0 y.2 (second.patch_ends d c y.0 y.1)
        | inr r ↦ elim r [ inl t ↦ inr (inl (told d c (p.stamp q) t)) | inr e ↦ inr (inr e) ]
      ];
      let_go = λ f q was none. (let g = first.let_go f q was (not_held f none) in (second.past f (p.birth a f) g.0, g.1));
      confirm_ends = λ d c q asks l none. elim (first.confirm_ends d c q asks (was_listed d c q l none) (not_held c none)) [ inl still ↦ inl (second.confirms d c q still l none) | inr e ↦ inr e ];
      listed_new = λ d c q l none. elim (first.listed_new d c q (was_listed d c q l none) (not_held c none)) [
        | inl was ↦ inl was
        | inr r ↦ elim r [ inl asks ↦ inr (inl (second.confirms d c q asks l none)) | inr e ↦ inr (inr e) ]
      ];
      enters = λ low up d c q l none. second.confirms d c q
          (first.enters low (let Q : ℕ → Type 0 = (λ v. least ≤ v) in subst Q second.view up) d c q (was_listed d c q l none) (not_held c none)) l none;
      sends = sends;
    }

    -- WHAT A PlaceIs OR A LeaveOk TELLS, the own place behind the first part, is known in the end
    left_at : (d c : F) (q r : P) → p.own m c ≡ Some q → IsIn p d c q → HasCell p m d c ⊎ NoneLater p m c q → p.own b c ≡ Some r → (q ≡ r) ⊎ p.IsBelow (p.stamp q) (p.stamp r) → IsKnownAt p b d c q
    left_at d c q r mid in_ either now (inl e) = let Q : P → Type 0 = (λ z. p.own b c ≡ Some z) in inl (subst Q (sym e) now)
    left_at d c q r mid in_ either now (inr low) = inr (left_behind p o b second.settled d c q r in_.inner now low
        (λ x is. elim either [ inl cell ↦ has d c cell | inr none ↦ second.parent d c q mid in_ (held d (x, is)) none ])
        (λ none. second.patch_begun d c q r (inr mid) in_ now low none))

    pub told_place : (d c : F) (q : P) → p.own m c ≡ Some q → IsIn p d c q → HasCell p m d c ⊎ NoneLater p m c q → IsKnownAt p b d c q
    told_place d c q mid in_ either = let n = second.holds c (q, mid) in left_at d c q n.0 mid in_ either n.1 (second.own_grows c q n.0 mid n.1)

  pub parts_are_steps : PartsAreSteps p
  parts_are_steps o least a m b heard sent first second sends = by_parts o least a m b heard first second sent sends

  pub places_are_known : PlacesAreKnown p
  places_are_known o least a m b heard first second d c q mid in_ either = told_place o least a m b heard first second d c q mid in_ either
