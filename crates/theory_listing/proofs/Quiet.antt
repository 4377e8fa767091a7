-- Where nothing is owed.
use Rattle.std.proofs.Common.{zero, suc, ℕ, ◌≡◌, ◌≢◌, ◌⊎◌, Option, None, Some, refl, sym, subst, ap, ◌∙◌, inl, inr}
use Rattle.theory_listing.specs.Protocol.{Protocol, IsOrdered, IsIn, Lists}
use Rattle.theory_listing.specs.World.{World}
use Rattle.theory_listing.specs.Promises.{IsKnown, Kept}
use Rattle.theory_listing.specs.Rule.{IsSettled, IsSupersededAt, Holds}
use Rattle.theory_listing.specs.Laws.{Live, Survives, IsQuiet, QuietLists, above, climb, IsHoused, QuietTree}

pub some_same : {A : Type 0} (x y : A) → Some x ≡ Some y → x ≡ y
some_same x y h = cc

module _ {N F P S : Type 0} (p : Protocol N F P S) where
  -- who holds a child that a directory beside it lists holds it with that place
  pub lists_own : (a : N) → IsSettled p a → (d c : F) (q r : P) → Lists p a d c q → p.own a c ≡ Some r → r ≡ q
  lists_own a k d c q r l own = elim (k.passing d c r q l.is_in.inner own l.cell) [ inl e ↦ e | inr e ↦ absurd (e.0 l.is_in.live) ]

  module _ (o : IsOrdered p) (w : World N F P S) (k : Kept p w) (z : IsQuiet p w) where
    -- what is held live is listed with its place by its parent beside it
    parents : (s : ℕ) (f : F) (q : P) → Live p w s → p.own (w.nodes s) f ≡ Some q → p.IsLive q → f ≢ p.root → p.cell (w.nodes s) (p.parent q) f ≡ Some q
    parents s f q live own live_place inner =
        let in_ : IsIn p (p.parent q) f q = record { live = live_place; parent = refl; inner = inner } in
        let at = (k.settled s).own_parent (p.parent q) f q own in_ (z.filled s f q live own live_place inner) in
        let Q : P → Type 0 = (λ x. p.cell (w.nodes s) (p.parent q) f ≡ Some x) in
        elim ((k.settled s).passing (p.parent q) f q at.0 inner own at.1) [ inl e ↦ subst Q (sym e) at.1 | inr m ↦ absurd (z.passed s (p.parent q) f q at.0 live own at.1 m.1) ]

    -- nobody has a later place for a child that is listed
    none_later : (t u : ℕ) (d c : F) (q : P) → Live p w t → Live p w u → Lists p (w.nodes t) d c q → IsSupersededAt p (w.nodes u) d c q → ⊥
    none_later t u d c q live other l (inr h) = let e : None ≡ Some h.0 = sym (z.patches u d c other) ∙ h.1 in cc
    none_later t u d c q live other l (inl h) =
        let same : q ≡ h.0 = some_same q h.0 (sym l.cell ∙ z.same_cells t u d c live other ((k.settled t).cells d c q l.cell) ((k.settled u).cells d c h.0 h.1) ∙ h.1) in
        let Q : P → Type 0 = (λ x. p.IsBelow (p.stamp q) (p.stamp x)) in
        o.never (p.stamp q) (subst Q (sym same) h.2)

    -- some live server holds it with the place with which it is listed
    known_lives : (t : ℕ) (d c : F) (q : P) → Live p w t → Lists p (w.nodes t) d c q → IsKnown p w d c q → Survives p w c q
    known_lives t d c q live l h = elim h.has [
      | inl own ↦ record { server = h.server; live = h.current.live; own = own; live_place = l.is_in.live; inner = l.is_in.inner }
      | inr later ↦ absurd (none_later t h.server d c q live h.current.live l later)
    ]

    listed_lives : (t : ℕ) (d c : F) (q : P) (own : Option P) → Live p w t → Lists p (w.nodes t) d c q → p.own (w.nodes t) c ≡ own → Survives p w c q
    listed_lives t d c q (Some r) live l is =
        let Q : P → Type 0 = (λ x. p.own (w.nodes t) c ≡ Some x) in
        record { server = t; live = live; own = subst Q (lists_own (w.nodes t) (k.settled t) d c q r l is) is; live_place = l.is_in.live; inner = l.is_in.inner }
    listed_lives t d c q None live l is = elim (k.listed t d c q (z.views t live) l is) [
      | inl asks ↦ absurd (z.confirms t d c live asks)
      | inr h ↦ known_lives t d c q live l h
    ]

    there : (f : F) (q : P) (t : ℕ) → Survives p w f q → Live p w t → Holds p (w.nodes t) (p.parent q) → Lists p (w.nodes t) (p.parent q) f q
    there f q t h live held =
        let at : p.cell (w.nodes h.server) (p.parent q) f ≡ Some q = parents h.server f q h.live h.own h.live_place h.inner in
        record {
          cell = z.same_cells t h.server (p.parent q) f live h.live held ((k.settled h.server).cells (p.parent q) f q at) ∙ at;
          is_in = record { live = h.live_place; parent = refl; inner = h.inner };
        }

    only : (f d : F) (q r : P) (t : ℕ) → Survives p w f q → Live p w t → Lists p (w.nodes t) d f r → (r ≡ q) × (d ≡ p.parent q)
    only f d q r t h live l =
        let other = listed_lives t d f r (p.own (w.nodes t) f) live l refl in
        let same : r ≡ q = z.agree other.server h.server f r q other.live h.live other.own h.own in
        (same, sym l.is_in.parent ∙ ap p.parent same)

    module _ (decide : (f : F) → (f ≡ p.root) ⊎ (f ≢ p.root)) (house : IsHoused p w) where
      -- the parent of what is held live is held live
      parent_lives : (s : ℕ) (f : F) (q : P) → Live p w s → p.own (w.nodes s) f ≡ Some q → p.IsLive q → f ≢ p.root → (r : P) × (p.own (w.nodes s) (p.parent q) ≡ Some r) × p.IsLive r
      parent_lives s f q live own live_place inner =
          let held = z.filled s f q live own live_place inner in
          (held.0, held.1, house.alive s (p.parent q) f q held.0 live (record { cell = parents s f q live own live_place inner; is_in = record { live = live_place; parent = refl; inner = inner } }) held.1)

      -- the root was reached, or one stands in what is held live
      abbrev Stands : ℕ → F → Type 0
      Stands s g = (q : P) × (p.own (w.nodes s) g ≡ Some q) × p.IsLive q

      abbrev Climbs : ℕ → F → ℕ → Type 0
      Climbs s f n = ((k : ℕ) × (climb p (w.nodes s) f k ≡ p.root)) ⊎ (Stands s (climb p (w.nodes s) f n) × (climb p (w.nodes s) f n ≢ p.root))

      one_up : (s : ℕ) (g : F) → Live p w s → Stands s g → g ≢ p.root → Stands s (above p (p.own (w.nodes s) g))
      one_up s g live h inner =
          let e : above p (p.own (w.nodes s) g) ≡ p.parent h.0 = ap (above p) h.1 in
          subst (Stands s) (sym e) (parent_lives s g h.0 live h.1 h.2 inner)

      climbs_at : (s : ℕ) (f : F) (n : ℕ) → Stands s (climb p (w.nodes s) f n) → Climbs s f n
      climbs_at s f n h = elim (decide (climb p (w.nodes s) f n)) [ inl e ↦ inl (n, e) | inr e ↦ inr (h, e) ]

      climbs : (s : ℕ) (f : F) → Live p w s → Stands s f → (n : ℕ) → Climbs s f n
      climbs s f live h zero = climbs_at s f zero h
      climbs s f live h (suc n) = elim (climbs s f live h n) [ inl e ↦ inl e | inr t ↦ climbs_at s f (suc n) (one_up s (climb p (w.nodes s) f n) live t.0 t.1) ]

      rooted : (s : ℕ) (f : F) (q : P) → Live p w s → p.own (w.nodes s) f ≡ Some q → p.IsLive q → (n : ℕ) × (climb p (w.nodes s) f n ≡ p.root)
      rooted s f q live own live_place =
          let out = house.out s f live in
          elim (climbs s f live (q, own, live_place) out.0) [
            | inl e ↦ e
            | inr t ↦ elim out.1 [ inl e ↦ (out.0, e) | inr none ↦ absurd (none t.0.0 t.0.1 t.0.2) ]
          ]

      brought_back : (f : F) (q r : P) (t : ℕ) → Survives p w f q → Live p w t → p.own (w.nodes t) (p.parent q) ≡ Some r → p.IsLive r
      brought_back f q r t h live own =
          let x = parent_lives h.server f q h.live h.own h.live_place h.inner in
          subst p.IsLive (z.agree h.server t (p.parent q) x.0 r h.live live x.1 own) x.2

  pub quiet_tree : QuietTree p
  quiet_tree o decide w k z house = record { rooted = rooted o w k z decide house; brought_back = brought_back o w k z decide house }

  pub quiet_lists : QuietLists p
  quiet_lists o w k z = record {
    there = there o w k z;
    only = only o w k z;
    survives = λ f d q t live l. listed_lives o w k z t d f q (p.own (w.nodes t) f) live l refl;
  }
