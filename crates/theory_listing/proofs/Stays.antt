-- What is told, superseded and known stays so when a server steps by the rule.
use Rattle.std.proofs.Common.{ℕ, ◌≡◌, ◌≢◌, ◌≤◌, List, Option, None, Some, refl, sym, subst, ◌∙◌, inl, inr, arith}
use Rattle.theory_listing.specs.Protocol.{Protocol, IsOrdered, AtMost, Above, IsIn}
use Rattle.theory_listing.specs.World.{Way, Saying, Message, World, IsCurrent, stepped}
use Rattle.theory_listing.specs.World.Saying.{Told, TellOk, LeaveOk, Other}
use Rattle.theory_listing.specs.Promises.{Somewhere, IsKnown, IsSuperseded, IsTold, Promise, Kept}
use Rattle.theory_listing.specs.Rule.{HasCell, IsSupersededAt, IsKnownAt, IsToldAt, IsSafeDrop}
use Rattle.theory_listing.specs.Runs.{IsStep}
use Rattle.theory_listing.proofs.Somewhere.{left_behind, below_then, most_then, weaker, by_self, by_other, stays_if, heard_promise, heard_view}

module _ {N F P S : Type 0} (p : Protocol N F P S) (o : IsOrdered p) (w : World N F P S) (s : ℕ) (b : N) (heard : Message F P S) (sent : List (Saying F P S)) (kept : Kept p w) (k : IsStep p w s b heard sent) where
  abbrev a : N
  a = w.nodes s

  abbrev next : World N F P S
  next = stepped p w s b sent

  -- a kind of stamp that goes on upwards
  abbrev IsUp : (S → Type 0) → Type 0
  IsUp Q = (x y : S) → Q x → AtMost p x y → Q y

  abbrev CellWith : (S → Type 0) → F → F → N → Type 0
  CellWith Q d c n = (r : P) × (p.cell n d c ≡ Some r) × Q (p.stamp r)

  -- what was heard, where it counts
  said : (x : Saying F P S) → heard.says ≡ x → x ≢ Other → w.least ≤ p.view a → Promise p w heard.sender x
  said x e not up = let Q : Saying F P S → Type 0 = (λ y. Promise p w heard.sender y) in
      subst Q e (heard_promise p w s b heard sent k kept (λ h. not (sym e ∙ h)) up)

  -- the sender of a LeaveOk by which a thing goes
  safe : w.least ≤ p.view a → (f : F) (q : P) → p.own a f ≡ Some q → p.own b f ≡ None → IsSafeDrop p w s a heard f
  safe up f q was gone = k.safe up f q was gone

  current : (f : F) (q : P) → p.own a f ≡ Some q → p.own b f ≡ None → w.least ≤ p.view a → IsCurrent p w heard.sender
  current f q was gone up =
      let g = (k.rule.let_go f q was gone).1 in
      record { live = (safe up f q was gone).live; view = heard_view p w s b heard sent k kept (λ h. let x = g.1 in cc) up }

  -- a cell goes on at the server, or at the one with whose leave the directory goes
  cell_at : (Q : S → Type 0) → IsUp Q → (d c : F) (own : Option P) → p.own b d ≡ own → w.least ≤ p.view a → w.least ≤ p.view b → CellWith Q d c a → Somewhere p next (CellWith Q d c)
  cell_at Q up d c (Some z) is old new h =
      let t = k.rule.cells_grow d c h.0 h.1 (z, is) in
      by_self p w s b heard sent k (CellWith Q d c) new (t.0, t.1, up (p.stamp h.0) (p.stamp t.0) h.2 t.2)
  cell_at Q up d c None is old new h =
      let was = (kept.settled s).cells d c h.0 h.1 in
      let by = safe old d was.0 was.1 is in
      let t = by.cells c h.0 h.1 in
      by_other p w s b heard sent k (CellWith Q d c) heard.sender by.other (current d was.0 was.1 is old) (t.0, t.1, up (p.stamp h.0) (p.stamp t.0) h.2 t.2)

  later_view : w.least ≤ p.view a → w.least ≤ p.view b
  later_view up = let le = k.rule.views in omega arith

  cell_stays : (Q : S → Type 0) → IsUp Q → (d c : F) → Somewhere p w (CellWith Q d c) → Somewhere p next (CellWith Q d c)
  cell_stays Q up d c h = stays_if p w s b heard sent k (CellWith Q d c) h (λ old own. cell_at Q up d c (p.own b d) refl old (later_view old) own)

  -- TOLD STAYS
  pub told_stays : (d c : F) (t : S) → IsTold p w d c t → IsTold p next d c t
  told_stays d c t h = cell_stays (λ x. AtMost p t x) (λ x y m n. most_then p o t x y m n) d c h

  abbrev IsAboveAt : F → F → P → N → Type 0
  IsAboveAt d c q n = Above p (p.stamp q) (p.cell n d c)

  above_stays : (d c : F) (q : P) → Somewhere p w (IsAboveAt d c q) → IsSuperseded p next d c q
  above_stays d c q h = weaker p next (IsAboveAt d c q) (λ n. IsSupersededAt p n d c q) (λ n m. inl m) (cell_stays (λ x. p.IsBelow (p.stamp q) x) (λ x y m n. below_then p o (p.stamp q) x y m n) d c h)

  told_above : (d c : F) (q r : P) → p.IsBelow (p.stamp q) (p.stamp r) → IsTold p next d c (p.stamp r) → IsSuperseded p next d c q
  told_above d c q r low h = weaker p next (λ n. IsToldAt p n d c (p.stamp r)) (λ n. IsSupersededAt p n d c q) (λ n m. inl (m.0, m.1, below_then p o (p.stamp q) (p.stamp r) (p.stamp m.0) low m.2)) h

  patch_at : (d c : F) (q : P) → w.least ≤ p.view a → Above p (p.stamp q) (p.patch a d c) → IsSuperseded p next d c q
  patch_at d c q old h = elim (k.rule.patch_ends d c h.0 h.1) [
    | inl m ↦ by_self p w s b heard sent k (λ n. IsSupersededAt p n d c q) (later_view old) (inr (m.0, m.1, below_then p o (p.stamp q) (p.stamp h.0) (p.stamp m.0) h.2 m.2))
    | inr r ↦ elim r [
      | inl m ↦ by_self p w s b heard sent k (λ n. IsSupersededAt p n d c q) (later_view old) (inl (m.0, m.1, below_then p o (p.stamp q) (p.stamp h.0) (p.stamp m.0) h.2 m.2))
      | inr e ↦ told_above d c q h.0 h.2 (told_stays d c (p.stamp h.0) (said (TellOk d c (p.stamp h.0)) e (λ x. cc) old))
    ]
  ]

  superseded_at : (d c : F) (q : P) → IsCurrent p w s → IsSupersededAt p a d c q → IsSuperseded p next d c q
  superseded_at d c q here (inl h) = above_stays d c q (record { server = s; current = here; has = h })
  superseded_at d c q here (inr h) = patch_at d c q here.view h

  -- LATER PLACES STAY KNOWN
  pub superseded_stays : (d c : F) (q : P) → IsSuperseded p w d c q → IsSuperseded p next d c q
  superseded_stays d c q h = stays_if p w s b heard sent k (λ n. IsSupersededAt p n d c q) h (λ old own. superseded_at d c q (record { live = k.live; view = old }) own)

  -- A PLACE THAT IS REPLACED leaves a later one behind: in the directory, where it is held
  has_cell : (d c : F) (q r x : P) → p.own a c ≡ Some q → IsIn p d c q → p.own b c ≡ Some r → p.IsBelow (p.stamp q) (p.stamp r) → p.own b d ≡ Some x → (own : Option P) → p.own a d ≡ own → HasCell p b d c
  has_cell d c q r x was in_ now low held None is = k.rule.taken d c q r is (x, held) was in_ now low
  has_cell d c q r x was in_ now low held (Some z) is =
      let y = (kept.settled s).own_parent d c q was in_ (z, is) in
      let t = k.rule.cells_grow d c y.0 y.1 (x, held) in
      (t.0, t.1)

  pub replaced : (d c : F) (q r : P) → w.least ≤ p.view a → p.own a c ≡ Some q → IsIn p d c q → p.own b c ≡ Some r → p.IsBelow (p.stamp q) (p.stamp r) → IsSuperseded p next d c q
  replaced d c q r old was in_ now low = by_self p w s b heard sent k (λ n. IsSupersededAt p n d c q) (later_view old) (left_behind p o b k.rule.settled d c q r in_.inner now low (λ x held. has_cell d c q r x was in_ now low held (p.own a d) refl) (λ gone. k.rule.patch_begun d c q r was in_ now low gone))

  abbrev Knows : F → F → P → N → Type 0
  Knows d c q n = IsKnownAt p n d c q

  superseded_known : (d c : F) (q : P) → IsSuperseded p next d c q → IsKnown p next d c q
  superseded_known d c q h = weaker p next (λ n. IsSupersededAt p n d c q) (Knows d c q) (λ n m. inr m) h

  -- A THING THAT IS LET GO is held by the sender of the LeaveOk, or a later place is known
  let_go : (d c : F) (q : P) → w.least ≤ p.view a → p.own a c ≡ Some q → IsIn p d c q → p.own b c ≡ None → IsKnown p next d c q
  let_go d c q old was in_ gone =
      let g = (k.rule.let_go c q was gone).1 in
      let by = safe old c q was gone in
      elim (said (LeaveOk c g.0 q) g.1 (λ x. cc) old d in_) [
        | inl past ↦ absurd ((kept.settled heard.sender).not_past c g.0 by.holds (by.birth g.0 q g.1) past)
        | inr r ↦ elim r [
          | inl h ↦ by_other p w s b heard sent k (Knows d c q) heard.sender by.other (current c q was gone old) (inl h.0)
          | inr h ↦ superseded_known d c q (superseded_stays d c q h)
        ]
      ]

  hold_at : (d c : F) (q : P) → w.least ≤ p.view a → p.own a c ≡ Some q → IsIn p d c q → (own : Option P) → p.own b c ≡ own → IsKnown p next d c q
  hold_at d c q old was in_ None is = let_go d c q old was in_ is
  hold_at d c q old was in_ (Some r) is = elim (k.rule.own_grows c q r was is) [
    | inl e ↦ let Q : P → Type 0 = (λ z. p.own b c ≡ Some z) in by_self p w s b heard sent k (Knows d c q) (later_view old) (inl (subst Q (sym e) is))
    | inr low ↦ superseded_known d c q (replaced d c q r old was in_ is low)
  ]

  known_at : (d c : F) (q : P) → IsIn p d c q → IsCurrent p w s → IsKnownAt p a d c q → IsKnown p next d c q
  known_at d c q in_ here (inl h) = hold_at d c q here.view h in_ (p.own b c) refl
  known_at d c q in_ here (inr h) = superseded_known d c q (superseded_at d c q here h)

  -- KNOWN STAYS
  pub known_stays : (d c : F) (q : P) → IsIn p d c q → IsKnown p w d c q → IsKnown p next d c q
  known_stays d c q in_ h = stays_if p w s b heard sent k (Knows d c q) h (λ old own. known_at d c q in_ (record { live = k.live; view = old }) own)

  -- what a message told of the place of a child
  pub told_known : (way : Way) (d c : F) (q : P) → heard.says ≡ Told way d c q → w.least ≤ p.view a → IsIn p d c q → IsKnown p next d c q
  told_known way d c q e old in_ = known_stays d c q in_ (said (Told way d c q) e (λ x. cc) old in_)
